-- The field that an iterator over the words of an item gives.
use Rattle.std.proofs.Common.{◌≡◌, ℕ, zero, suc, ◌≤◌, ◌-◌, Option, unwrap_or, slice_get, List, [], ◌∷◌, get_or, refl, ap, ◌∙◌, arith}
use Rattle.qtc_ops.specs.Fields.{fields, field_of}

unwrap_or-get : (runs : List (List ℕ)) (place : ℕ) → unwrap_or (slice_get runs place) [] ≡ get_or runs place []
unwrap_or-get [] place = refl
unwrap_or-get (run ∷ runs) zero = refl
unwrap_or-get (run ∷ runs) (suc place) = unwrap_or-get runs place

pub field-at : (number : ℕ) (item : List ℕ) (r : Option (List ℕ)) → 1 ≤ number → r ≡ slice_get (fields item) (number - 1) → unwrap_or r [] ≡ field_of number item
field-at zero item r some is = absurd (omega arith)
field-at (suc before) item r some is =
    let less : suc before - 1 ≡ before = omega arith in
    ap (λ o. unwrap_or o []) is ∙ (ap (λ k. unwrap_or (slice_get (fields item) k) []) less ∙ unwrap_or-get (fields item) before)
