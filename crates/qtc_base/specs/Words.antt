-- The words of a text: its maximal runs of bytes that part nothing. (Own.)
use Rattle.std.specs.Prelude.{◌≡◌, ℕ, ◌<◌, Bool, true, not, ◌==◌, List, [], ◌∷◌, ◌++◌, length, filter, slice_index}
use Rattle.std.specs.List.{AllPass, list_any, slice_split}

-- whether the byte is one of those that part two words
abbrev pub parts : List ℕ → ℕ → Bool
parts gaps byte = list_any (λ gap. gap == byte) gaps

-- what stands between the gaps, where anything does
abbrev pub words_by : List ℕ → List ℕ → List (List ℕ)
words_by gaps text = filter (λ run. not (length run == 0)) (slice_split (parts gaps) text)

-- a text that is being cut: the gaps, and the bytes that are not cut yet
pub record Uncut : Type 0 where
  pub gaps : List ℕ
  pub rest : List ℕ

abbrev pub words_left : Uncut → List (List ℕ)
words_left s = words_by s.gaps s.rest

-- a word with gaps alone before it, and nothing or a gap right after it
pub record IsFirstWord (gaps text word rest : List ℕ) : Type 0 where
  pub before : List ℕ
  pub is : text ≡ before ++ (word ++ rest)
  pub apart : AllPass (parts gaps) before
  pub filled : AllPass (λ byte. not (parts gaps byte)) word
  pub some : 0 < length word
  pub maximal : 0 < length rest → parts gaps (slice_index rest 0) ≡ true

-- the words are the maximal runs of bytes that part nothing, in order
abbrev pub AreWords : (gaps text : List ℕ) → List (List ℕ) → Type 0
AreWords gaps text [] = AllPass (parts gaps) text
AreWords gaps text (word ∷ words) = (rest : List ℕ) × IsFirstWord gaps text word rest × AreWords gaps rest words
