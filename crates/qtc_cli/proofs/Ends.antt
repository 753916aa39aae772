-- What the endings of a call make of it.
use Rattle.std.proofs.Common.{◌≡◌, ◌≢◌, ℕ, ◌≤◌, cond, eqb, inl, inr, refl, ap, ◌∙◌, arith}
use Rattle.qtc_outside.specs.Source.{IsCalm}
use Rattle.qtc_job.specs.declared.faults.BadJob.{BadJob}
use Rattle.qtc_cli.specs.Answered.{IsDone, KeepsOutside}
use Rattle.qtc_cli.specs.Refusals.{status_of, line_of, Hears}
use Rattle.qtc_cli.specs.Seen.{Seen}
use Rattle.qtc_cli.specs.declared.refusals.Refusal.{Refusal}
use Rattle.qtc_cli.specs.declared.refusals.Refusal.TheVariants.{Usage, Bad, ReadFault, WriteFault, Memory, TooLarge, NotYet}

-- no refusal has the status of what is done
pub status-within : (said : Refusal) → (2 ≤ status_of said) × (status_of said ≤ 8)
status-within Usage = (omega arith, omega arith)
status-within (Bad bad) = (omega arith, omega arith)
status-within ReadFault = (omega arith, omega arith)
status-within WriteFault = (omega arith, omega arith)
status-within Memory = (omega arith, omega arith)
status-within TooLarge = (omega arith, omega arith)
status-within NotYet = (omega arith, omega arith)

-- ---- the status determines the refusal, but for the place of a bad job file

abbrev place_of : Refusal → BadJob
place_of (Bad bad) = bad
place_of _ = record { line = 0; code = 0 }

abbrev pub refusal_with : ℕ → BadJob → Refusal
refusal_with status bad =
    cond (eqb status 2) Usage (cond (eqb status 3) (Bad bad) (cond (eqb status 4) ReadFault (cond (eqb status 5) WriteFault
    (cond (eqb status 6) Memory (cond (eqb status 7) TooLarge NotYet)))))

determined : (said : Refusal) → said ≡ refusal_with (status_of said) (place_of said)
determined Usage = refl
determined (Bad bad) = refl
determined ReadFault = refl
determined WriteFault = refl
determined Memory = refl
determined TooLarge = refl
determined NotYet = refl

-- what is said with a status
pub said-with : (said : Refusal) (status : ℕ) → status_of said ≡ status → (bad : BadJob) × (said ≡ refusal_with status bad)
said-with said status is = (place_of said, determined said ∙ ap (λ status. refusal_with status (place_of said)) is)

pub not-done : (status : ℕ) (said : Refusal) → status ≡ status_of said → IsDone status → ⊥
not-done status said is done =
    let two = (status-within said).0 in
    elim done [
      | inl zero ↦ omega arith
      | inr one ↦ omega arith
    ]

pub not-done-five : (status : ℕ) → status ≡ 5 → IsDone status → ⊥
not-done-five status is done =
    elim done [
      | inl zero ↦ omega arith
      | inr one ↦ omega arith
    ]

-- what is kept where a refusal was told and nothing was written
pub keeps-refused : (call : Seen) (said : Refusal) → call.status ≡ status_of said → Hears (line_of said) call.err call.err_after → call.out_after ≡ call.out → (call.status ≢ 4 → IsCalm call.texts call.texts_after) → KeepsOutside call
keeps-refused call said is hears same calm = record {
  quiet = λ done. absurd (not-done call.status said is done);
  told = λ _. (said, record { status = is; hears = hears });
  untouched = λ _ _. same;
  calm = calm;
}

-- where all was written
pub keeps-done : (call : Seen) → IsDone call.status → call.err_after ≡ call.err → IsCalm call.texts call.texts_after → KeepsOutside call
keeps-done call done quiet calm = record {
  quiet = λ _. quiet;
  told = λ away. absurd (away done);
  untouched = λ away _. absurd (away done);
  calm = λ _. calm;
}

-- where a front was written
pub keeps-cut : (call : Seen) → call.status ≡ status_of WriteFault → Hears (line_of WriteFault) call.err call.err_after → IsCalm call.texts call.texts_after → KeepsOutside call
keeps-cut call is hears calm = record {
  quiet = λ done. absurd (not-done-five call.status is done);
  told = λ _. (WriteFault, record { status = is; hears = hears });
  untouched = λ _ away. absurd (away is);
  calm = λ _. calm;
}
