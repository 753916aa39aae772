-- Numbers as decimal text. (Own.)
use Rattle.std.specs.Prelude.{ℕ, ◌+◌, ◌-◌, ◌*◌, ◌≤◌, List, length, All, fold}
use Rattle.std.specs.Fmt.{decimal}

-- the digits of a number without leading zeros; 0 is one digit
abbrev pub decimal_text : ℕ → List ℕ
decimal_text n = decimal n

abbrev pub IsDigit : ℕ → Type 0
IsDigit byte = (48 ≤ byte) × (byte ≤ 57)

-- 1 to most decimal digits
pub record IsNumber (most : ℕ) (word : List ℕ) : Type 0 where
  pub some : 1 ≤ length word
  pub few : length word ≤ most
  pub digits : All IsDigit word

-- the number that decimal digits spell
abbrev pub number_of : List ℕ → ℕ
number_of word = fold (λ n digit. 10 * n + (digit - 48)) 0 word
