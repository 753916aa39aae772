-- A joined text, and the greater of two. (Own.)
use Rattle.std.specs.Prelude.{◌≡◌, ℕ, false, List, [], ◌∷◌, ◌++◌, All, Contains, Option, Some, None, MatchOption, if◌then◌else◌}
use Rattle.std.specs.Ordering.{is_lt}
use Rattle.qtc_ops.specs.Order.{bytes_cmp}

-- a value after the separator, which the first value goes without
abbrev pub joined_text : Option (List ℕ) → List ℕ → List ℕ → List ℕ
joined_text None separator value = value
joined_text (Some text) separator value = text ++ (separator ++ value)

-- the greater by bytes
abbrev pub greater : Option (List ℕ) → List ℕ → List ℕ
greater None value = value
greater (Some best) value = if is_lt (bytes_cmp best value) then value else best

-- the values one after the other, with the separator between each two
abbrev pub joined_by : List ℕ → List (List ℕ) → List ℕ
joined_by separator [] = []
joined_by separator (value ∷ []) = value
joined_by separator (value ∷ next ∷ values) = value ++ (separator ++ joined_by separator (next ∷ values))

-- below none of the values
abbrev pub IsBelowNone : List (List ℕ) → List ℕ → Type 0
IsBelowNone values greatest = All (λ value. is_lt (bytes_cmp greatest value) ≡ false) values

-- one of the values, below none of them; nothing where there is no value
abbrev pub IsGreatestOf : List (List ℕ) → Option (List ℕ) → Type 0
IsGreatestOf values best =
    MatchOption best (values ≡ []) (λ greatest. Contains values greatest × IsBelowNone values greatest)
