-- What two views have, within all that there is.
use Rattle.std.proofs.Common.{◌≡◌, ◌≢◌, ℕ, zero, suc, ◌+◌, ◌<◌, ◌≤◌, List, [], ◌∷◌, ◌++◌, length, set, slice_get, Option, Some, MatchOption, refl, sym, ap, ◌∙◌, subst, arith, sum_by, All}
use Rattle.std.proofs.lemmas.List.Elements.{All-cons, All-nil}
use Rattle.std.proofs.lemmas.List.Sums.{sum_by-cons}
use mathlib.Core.Option.{some, some-injective, some-ne-none}
use lib.ListN.{get_elem?}

module _ {V : Type 0} where
  pub one_within : (f : V → ℕ) (views : List V) (id : ℕ) (v : V) → get_elem? views id ≡ some v → f v ≤ sum_by f views
  one_within f [] id v e = absurd (some-ne-none v (sym e))
  one_within f (x ∷ xs) zero v e = let same : f x ≡ f v = ap f (some-injective x v e) in omega (arith, sum_by-cons f x xs)
  one_within f (x ∷ xs) (suc id) v e = omega (arith, sum_by-cons f x xs, one_within f xs id v e)

  pub two_within : (f : V → ℕ) (views : List V) (id other : ℕ) (v u : V) → get_elem? views id ≡ some v → get_elem? views other ≡ some u → other ≢ id → f u + f v ≤ sum_by f views
  two_within f [] id other v u e k apart = absurd (some-ne-none v (sym e))
  two_within f (x ∷ xs) zero zero v u e k apart = absurd (apart refl)
  two_within f (x ∷ xs) zero (suc other) v u e k apart = let same : f x ≡ f v = ap f (some-injective x v e) in omega (arith, sum_by-cons f x xs, one_within f xs other u k)
  two_within f (x ∷ xs) (suc id) zero v u e k apart = let same : f x ≡ f u = ap f (some-injective x u k) in omega (arith, sum_by-cons f x xs, one_within f xs id v e)
  two_within f (x ∷ xs) (suc id) (suc other) v u e k apart = omega (arith, sum_by-cons f x xs, two_within f xs id other v u e k (λ same. apart (ap suc same)))

  pub All-every : (P : V → Type 0) (views : List V) → ((id : ℕ) (u : V) → get_elem? views id ≡ some u → P u) → All P views
  All-every P [] each = All-nil P
  All-every P (x ∷ xs) each = All-cons P x xs (each zero x refl) (All-every P xs (λ id u e. each (suc id) u e))

  -- what holds of the changed view, and of each other, holds of all
  pub All-set_else : (P : V → Type 0) (views : List V) (id : ℕ) (w : V) → P w → ((other : ℕ) (u : V) → get_elem? views other ≡ some u → other ≢ id → P u) → All P (set views id w)
  All-set_else P [] id w is each = All-nil P
  All-set_else P (x ∷ xs) zero w is each =
      All-cons P w xs is (All-every P xs (λ other u e. each (suc other) u e (λ same. absurd (omega arith))))
  All-set_else P (x ∷ xs) (suc id) w is each =
      All-cons P x (set xs id w) (each zero x refl (λ same. absurd (omega arith)))
      (All-set_else P xs id w is (λ other u e apart. each (suc other) u e (λ same. apart (omega arith))))

  -- the items so far, and the next
  pushed : (item : ℕ → V) (items : List V) (next : V) → ((i : ℕ) → i < length items → slice_get items i ≡ Some (item i)) → next ≡ item (length items)
      → (i : ℕ) → i < length items + 1 → slice_get (items ++ next ∷ []) i ≡ Some (item i)
  pushed item [] next each is zero below = ap Some is
  pushed item [] next each is (suc i) below = absurd (omega arith)
  pushed item (x ∷ xs) next each is zero below = each 0 (omega arith)
  pushed item (x ∷ xs) next each is (suc i) below = pushed (λ n. item (suc n)) xs next (λ n at. each (suc n) (omega arith)) is i (omega arith)

  pub pushed_each : (item : ℕ → V) (items items' : List V) (next : V) (number : ℕ) → items' ≡ items ++ next ∷ [] → length items ≡ number
      → ((i : ℕ) → i < number → slice_get items i ≡ Some (item i)) → next ≡ item number → (i : ℕ) → i < number + 1 → slice_get items' i ≡ Some (item i)
  pushed_each item items items' next number is_pushed count each is i below =
      subst (λ xs. slice_get xs i ≡ Some (item i)) (sym is_pushed)
      (pushed item items next (λ k at. each k (omega arith)) (is ∙ ap item (sym count)) i (omega arith))

-- what a match says where there is a value
pub at_some : {A : Type 0} (P : Type 0) (Q : A → Type 0) (o : Option A) (x : A) → o ≡ Some x → MatchOption o P Q → Q x
at_some P Q o x is h = subst (λ (p : Option _). MatchOption p P Q) is h
