use Rattle.std.proofs.Common.{◌≡◌, ℕ, Bool, true, false, cond, Option, Some, None, ◌↔◌, IsSome, IfSome, Decides, refl, ap}
use Rattle.std.proofs.lemmas.Bool.{false≢true}
use Rattle.qtc_job.proofs.LiteralLemmas.{numeral-decides}
use Rattle.qtc_job.proofs.literals.read_numeral.Goals as goal

answer : (r : Option ℕ) (b : Bool) (P : Type 0) (n : ℕ) → Decides b P → (IsSome r ↔ P) → IfSome r (λ m. m ≡ n) → r ≡ cond b (Some n) None
answer (Some m) true P n d e v = ap Some v
answer (Some m) false P n d e v = absurd (false≢true (d.1 (e.0 refl)))
answer None true P n d e v = absurd (false≢true (e.1 (d.0 refl)))
answer None false P n d e v = refl

pub returns : goal.returns
returns c = answer _ _ _ _ (numeral-decides c.args.word.now) c.read_decimal.ensures.exactly c.read_decimal.ensures.value
