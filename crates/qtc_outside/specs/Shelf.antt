-- Texts in memory. (Own.)
use Rattle.std.specs.Prelude.{ℕ, zero, suc, List, [], ◌∷◌, if◌then◌else◌, Option, Some, None}
use Rattle.std.specs.Str.{bytes_eq}

-- the text of the first pair with the name
abbrev pub text_under : List (List ℕ × List ℕ) → List ℕ → Option (List ℕ)
text_under [] name = None
text_under (pair ∷ pairs) name = if bytes_eq pair.0 name then Some pair.1 else text_under pairs name

-- the text of the pair at a place, and the empty text past the end
abbrev pub text_at : List (List ℕ × List ℕ) → ℕ → List ℕ
text_at [] place = []
text_at (pair ∷ pairs) zero = pair.1
text_at (pair ∷ pairs) (suc place) = text_at pairs place
