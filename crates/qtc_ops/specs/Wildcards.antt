-- Patterns with `*` and `?`. (Own.)
use Rattle.std.specs.Prelude.{◌≡◌, ◌⊎◌, ℕ, Bool, true, false, codes, slice_index, ◌||◌, ◌&&◌, ◌==◌, List, [], ◌∷◌, length, if◌then◌else◌}
use Rattle.std.specs.List.{AllZip, concat}

-- the two symbols that stand for other bytes than themselves
abbrev pub star : ℕ
star = slice_index (codes "*") 0

abbrev pub question_mark : ℕ
question_mark = slice_index (codes "?") 0

-- what one symbol of a pattern stands for: itself, `?` for any one byte, `*` for any run of bytes
abbrev pub StandsFor : ℕ → List ℕ → Type 0
StandsFor symbol piece = (piece ≡ symbol ∷ []) ⊎ ((symbol ≡ question_mark) × (length piece ≡ 1)) ⊎ (symbol ≡ star)

-- the item can be cut into pieces, one for each symbol of the pattern, which stands for it
pub record Matches (pattern item : List ℕ) : Type 0 where
  pub pieces : List (List ℕ)
  pub each : AllZip StandsFor pattern pieces
  pub whole : concat pieces ≡ item

-- whether a suffix passes, the empty one and the whole among them
abbrev pub some_suffix : (List ℕ → Bool) → List ℕ → Bool
some_suffix test [] = test []
some_suffix test (byte ∷ item) = test (byte ∷ item) || some_suffix test item

-- whether a symbol other than `*` stands for the byte
abbrev pub fits : ℕ → ℕ → Bool
fits symbol byte = symbol == question_mark || symbol == byte

-- whether the item begins with a byte for the symbol, and what is after it passes
abbrev pub after_byte : ℕ → (List ℕ → Bool) → List ℕ → Bool
after_byte symbol test [] = false
after_byte symbol test (byte ∷ item) = fits symbol byte && test item

-- whether the pattern matches the item
abbrev pub wildcard : List ℕ → List ℕ → Bool
wildcard [] item = length item == 0
wildcard (symbol ∷ pattern) item =
    if symbol == star then some_suffix (wildcard pattern) item
    else after_byte symbol (wildcard pattern) item

-- the first symbol stands for the first byte, and these are left
pub record TakesOne (symbols bytes symbols_left bytes_left : List ℕ) : Type 0 where
  pub symbol : ℕ
  pub byte : ℕ
  pub symbols_are : symbols ≡ symbol ∷ symbols_left
  pub bytes_are : bytes ≡ byte ∷ bytes_left
  pub fit : fits symbol byte ≡ true

-- there is no first symbol, or no first byte, or the one doesn't stand for the other
abbrev pub CannotFit : List ℕ → List ℕ → Type 0
CannotFit symbols bytes =
    (length symbols ≡ 0) ⊎ (length bytes ≡ 0) ⊎ (fits (slice_index symbols 0) (slice_index bytes 0) ≡ false)
