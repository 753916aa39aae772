-- A call that meets no fault.
use Rattle.std.proofs.Common.{◌≡◌, ◌≢◌, Option, Some, None, arith}
use Rattle.qtc_outside.specs.Counts.{Rose}
use Rattle.qtc_cli.specs.Answered.{HasNoFaults}
use Rattle.qtc_cli.specs.Forms.{Form, form, run, check}
use Rattle.qtc_cli.specs.Run.{by_form, IsCall, RunsAsSaid}
use Rattle.qtc_run.specs.declared.reports.Report.{Report}
use Rattle.qtc_cli.specs.Seen.{Seen}
use Rattle.qtc_cli.proofs.Runs.{fault-rose}

sure-run : (call : Seen) (report : Option Report) → RunsAsSaid call report → HasNoFaults call → (call.status ≢ 4) × (call.status ≢ 5)
sure-run call report r none = (
  λ four. let fault = r.read_fault four in fault-rose call fault.0 fault.2 none,
  λ five. none.out (r.write_fault five).front.rose,
)

sure-form : (f : Option Form) (call : Seen) (report : Option Report) → by_form f call report → HasNoFaults call → (call.status ≢ 4) × (call.status ≢ 5)
sure-form (Some (check name)) call report c none = (
  λ four. none.texts (c.0.read_fault four).2.rose,
  λ five. none.out (c.0.write_fault five).front.rose,
)
sure-form (Some (run workers name)) call report r none = sure-run call report r none
sure-form None call report r none = sure-run call report r none

still : Rose 0 0 → ⊥
still rose = omega arith

pub sure-call : (call : Seen) (report : Option Report) → IsCall call report → call.texts.faults ≡ 0 → call.texts_after.faults ≡ 0 → call.out.faults ≡ 0 → call.out_after.faults ≡ 0 → (call.status ≢ 4) × (call.status ≢ 5)
sure-call call report c a b p q =
    sure-form (form call.words) call report c (record { texts = rw (a, b) still; out = rw (p, q) still })
