use Rattle.std.proofs.Common.{◌≡◌, true, is_some, sym}
use Rattle.std.specs.Prelude.{◌&&◌, not}
use Rattle.qtc_job.proofs.JobLemmas.{no_input, no_fold}
use Rattle.qtc_job.proofs.drafts.Draft.finish.Goals as goal

pub returns-in_default : goal.returns-in_default
returns-in_default c = λ names own d. no_input names own c.args.self d c.in_default.is

pub returns-then-is_order_alone : goal.returns-then-is_order_alone
returns-then-is_order_alone c = λ names own d.
    let alone : (is_some c.args.self.order && not (is_some c.args.self.fold)) ≡ true = let e = c.is_order_alone.ensures in let t = c.if-is_order_alone.true in cc in
    no_fold names own c.args.self c.in-Some.input c.in-Some-function_of.op d c.in-Some.is (sym c.in-Some-function_of.ensures) alone
