-- Chains of continuations. (After QFuture's then, onFailed and onCanceled; own.)
use Rattle.std.specs.Prelude.{List}
use Rattle.std.specs.List.{FoldsTo}
use Rattle.qtc_future.specs.declared.replies.Outcome.{Outcome}

-- from an outcome one step after the other leads to another, each giving what it may for what the one before gave
abbrev pub IsChained : {V K : Type 0} → (K → Outcome V → Outcome V → Type 0) → Outcome V → List K → Outcome V → Type 0
IsChained gives outcome steps given = FoldsTo (λ before step after. gives step before after) outcome steps given
