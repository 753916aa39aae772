-- Batches in order are the same batches.
use Rattle.std.proofs.Common.{◌≡◌, Bool, true, false, ◌||◌, List, [], ◌∷◌, fold, refl, ap, inl, inr, ◌∙◌, arith}
use Rattle.std.specs.List.{list_any}
use Rattle.std.proofs.lemmas.Bool.{cases_lt}
use Rattle.std.proofs.lemmas.Bool.Decides.{nat_tests}
use Rattle.qtc_store.specs.declared.batch.Batch.{Batch}
use Rattle.qtc_store.specs.Batches.{placed, in_order}

or_swap : (a b c : Bool) → (a || (b || c)) ≡ (b || (a || c))
or_swap a b c = grind arith

or_group : (a b c : Bool) → (a || (b || c)) ≡ ((b || a) || c)
or_group a b c = grind arith

or_none : (a : Bool) → (a || false) ≡ a
or_none true = refl
or_none false = refl

pub any-placed : {V : Type 0} (p : Batch V → Bool) (batches : List (Batch V)) (b : Batch V) → list_any p (placed batches b) ≡ (p b || list_any p batches)
any-placed p [] b = refl
any-placed p (first ∷ batches) b =
    elim (cases_lt b.begin first.begin) [
      | inl before ↦ grind (arith, nat_tests)
      | inr after ↦ let rest = any-placed p batches b in let swap = or_swap (p first) (p b) (list_any p batches) in grind (arith, nat_tests)
    ]

any-fold : {V : Type 0} (p : Batch V → Bool) (start batches : List (Batch V)) → list_any p (fold placed start batches) ≡ (list_any p batches || list_any p start)
any-fold p start [] = refl
any-fold p start (b ∷ batches) =
    any-fold p (placed start b) batches ∙ ap (λ c. list_any p batches || c) (any-placed p start b) ∙ or_group (list_any p batches) (p b) (list_any p start)

pub any-in_order : {V : Type 0} (p : Batch V → Bool) (batches : List (Batch V)) → list_any p (in_order batches) ≡ list_any p batches
any-in_order p batches = any-fold p [] batches ∙ or_none (list_any p batches)
