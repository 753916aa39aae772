use Rattle.std.proofs.Common.{◌≡◌, ℕ, suc, ◌<◌, List, [], ◌∷◌, IfSome, All, false, length, slice_get, Result, Ok, Err, IfOk, arith, ap}
use Rattle.std.proofs.lemmas.List.Elements.{All-cons, All-nil}
use Rattle.qtc_kernel.specs.EngineParts.{EngineParts, DeskState, IsNewDesk}
use Rattle.qtc_active.specs.Count.{BadgeState}
use Rattle.qtc_kernel.proofs.tests.engines.engine_of.Goals as goal

ok_weaker : {X E : Type 0} (P Q : X → Type 0) → ((x : X) → P x → Q x) → (result : Result X E) → IfOk result P → IfOk result Q
ok_weaker P Q weaker (Ok x) h = weaker x h
ok_weaker P Q weaker (Err e) h = tt

-- new desks are out
all_out : {F : Type 0} (parts : EngineParts F) (from : ℕ → ℕ) (desks : List (DeskState F)) → ((number : ℕ) → number < length desks → IfSome (slice_get desks number) (IsNewDesk parts (from number))) → All (λ desk. desk.badge.is_in ≡ false) desks
all_out parts from [] fresh = All-nil (λ desk. desk.badge.is_in ≡ false)
all_out parts from (desk ∷ desks) fresh =
    All-cons (λ d. d.badge.is_in ≡ false) desk desks (ap (λ (badge : BadgeState). badge.is_in) (fresh 0 (omega arith)).badge) (all_out parts (λ number. from (suc number)) desks (λ number less. fresh (suc number) (omega arith)))

pub returns-clause-out : goal.returns-clause-out
returns-clause-out g c = ok_weaker _ _ (λ made is. all_out _ (λ number. number) made.1.items is.fresh) c.new.result c.new.ensures
