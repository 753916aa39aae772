-- A walk over the texts of a shelf.
use Rattle.std.proofs.Common.{◌≡◌, ℕ, zero, suc, ◌+◌, ◌<◌, ◌≤◌, List, [], ◌∷◌, Some, None, drop, length, get_or, cond, true, false, refl, ap, add-one, arith}
use Rattle.std.specs.Str.{bytes_eq}
use Rattle.std.proofs.Math.Seq.{drop-cons}
use Rattle.std.proofs.lemmas.List.{drop_all}
use Rattle.qtc_outside.specs.Shelf.{text_under, text_at}

pub text_at-get : (pairs : List (List ℕ × List ℕ)) (place : ℕ) (d : List ℕ × List ℕ) → place < length pairs → text_at pairs place ≡ (get_or pairs place d).1
text_at-get [] place d lt = absurd (omega arith)
text_at-get (pair ∷ pairs) zero d lt = refl
text_at-get (pair ∷ pairs) (suc place) d lt = text_at-get pairs place d (omega arith)

pub text_at-past : (pairs : List (List ℕ × List ℕ)) (place : ℕ) → length pairs ≤ place → text_at pairs place ≡ []
text_at-past [] place le = refl
text_at-past (pair ∷ pairs) zero le = absurd (omega arith)
text_at-past (pair ∷ pairs) (suc place) le = text_at-past pairs place (omega arith)

under-drop : (pairs : List (List ℕ × List ℕ)) (place : ℕ) (d : List ℕ × List ℕ) (name : List ℕ) → place < length pairs → text_under (drop place pairs) name ≡ cond (bytes_eq (get_or pairs place d).0 name) (Some (get_or pairs place d).1) (text_under (drop (suc place) pairs) name)
under-drop pairs place d name lt = ap (λ s. text_under s name) (drop-cons pairs place d lt)

-- the text at the place has another name
pub under-miss : (pairs read : List (List ℕ × List ℕ)) (place : ℕ) (d : List ℕ × List ℕ) (here name : List ℕ) → read ≡ pairs → place < length read → here ≡ (get_or read place d).0 → false ≡ bytes_eq here name → text_under (drop (place + 1) pairs) name ≡ text_under (drop place pairs) name
under-miss pairs read place d here name e lt is other =
    rw (← e, under-drop read place d name lt, ← is, ← other, add-one) refl

-- the text at the place has the name
pub under-hit : (pairs read : List (List ℕ × List ℕ)) (place : ℕ) (d : List ℕ × List ℕ) (here name : List ℕ) → read ≡ pairs → place < length read → here ≡ (get_or read place d).0 → true ≡ bytes_eq here name → text_under (drop place pairs) name ≡ Some (text_at pairs place)
under-hit pairs read place d here name e lt is same =
    rw (← e, under-drop read place d name lt, ← is, ← same, text_at-get read place d lt) refl

-- no text is left
pub under-past : (pairs read : List (List ℕ × List ℕ)) (place : ℕ) (name : List ℕ) → read ≡ pairs → length read ≤ place → text_under (drop place pairs) name ≡ None
under-past pairs read place name e le = ap (λ s. text_under s name) (drop_all place pairs (let f = ap length e in omega arith))
