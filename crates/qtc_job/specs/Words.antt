-- The words of a line. (Own.)
use Rattle.std.specs.Prelude.{ℕ, List, [], ◌∷◌}
use Rattle.qtc_base.specs.Words.{words_by}

-- space, tab and CR part words
abbrev pub gaps : List ℕ
gaps = 32 ∷ 9 ∷ 13 ∷ []

abbrev pub words : List ℕ → List (List ℕ)
words line = words_by gaps line
