-- For a rule's proofs: what one view that changes, or is added, does to a fact of every view and to a sum over the views. Views are found by `get_elem?`, as a step gives them.
use Rattle.std.proofs.Common.{◌≡◌, ℕ, zero, suc, ◌+◌, ◌<◌, List, [], ◌∷◌, ◌++◌, length, get_or, set, sym, subst, ap, arith, sum_by, All}
use Rattle.std.proofs.lemmas.List.Sums.{sum_by-append, sum_by-set}
use Rattle.std.proofs.lemmas.List.Elements.{All-append}
use mathlib.Core.Option.{some, some-injective, some-ne-none}
use lib.ListN.{get_elem?}

module _ {V : Type 0} where
  pub placed : (views : List V) (id : ℕ) (v : V) → get_elem? views id ≡ some v → (id < length views) × (get_or views id v ≡ v)
  placed [] id v e = absurd (some-ne-none v (sym e))
  placed (x ∷ xs) zero v e = (omega arith, some-injective x v e)
  placed (x ∷ xs) (suc id) v e = let rest = placed xs id v e in (let below = rest.0 in omega arith, rest.1)

  -- what holds of every view holds of the one at a place
  pub All-at : (P : V → Type 0) (views : List V) (id : ℕ) (v : V) → get_elem? views id ≡ some v → All P views → P v
  All-at P views id v e all = let at = placed views id v e in subst P at.1 (all id v at.0)

  pub All-snoc : (P : V → Type 0) (views : List V) (w : V) → P w → All P views → All P (views ++ w ∷ [])
  All-snoc P views w is all = All-append P views (w ∷ []) all (λ i d below. let here : i ≡ 0 = omega arith in rw here is)

  -- the view that changes counts no more as what it was, and counts as what it is
  pub sum_by-set_view : (f : V → ℕ) (views : List V) (id : ℕ) (v w : V) → get_elem? views id ≡ some v → sum_by f (set views id w) + f v ≡ sum_by f views + f w
  sum_by-set_view f views id v w e = let at = placed views id v e in let same : f (get_or views id v) ≡ f v = ap f at.1 in omega (arith, sum_by-set f views id w v at.0)

  pub sum_by-snoc : (f : V → ℕ) (views : List V) (w : V) → sum_by f (views ++ w ∷ []) ≡ sum_by f views + f w
  sum_by-snoc f views w = omega (arith, sum_by-append f views (w ∷ []))
