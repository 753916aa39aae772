-- What is answered on the words of a line: the least of their codes, or what they mean. (Own.)
use Rattle.std.specs.Prelude.{◌≡◌, ℕ, ◌<◌, min, List, [], ◌∷◌, ◌++◌, ◌==◌, length, nat_lt, take, Option, Some, None, Result, Ok, Err}
use Rattle.std.specs.List.{flat_map}
use Rattle.qtc_job.specs.declared.codes.LineFault.{LineFault}
use Rattle.qtc_job.specs.declared.codes.LineFault.TheVariants.{Wrong, Memory}
use Rattle.qtc_job_file.specs.declared.keywords.Keyword.{Keyword}
use Rattle.qtc_job_file.specs.Keywords.{keyword_of}
use Rattle.qtc_job.specs.Forms.{Form, none}
use Rattle.qtc_job.specs.Codes.{where_}

-- the least of the codes; 100, which is above every code, where there is none
abbrev pub least : List ℕ → ℕ
least [] = 100
least (code ∷ codes) = min code (least codes)

pub record IsLeast (codes : List ℕ) (code : ℕ) : Type 0 where
  pub is : least codes ≡ code
  pub some : code < 100

-- the least of the codes; want of memory says nothing
abbrev pub IsFault : List ℕ → LineFault → Type 0
IsFault codes (Wrong code) = IsLeast codes code
IsFault codes Memory = Unit {0}

-- Ok means what the words mean, and exactly where they have no code
abbrev pub Gives : {T : Type 0} → List ℕ → T → Result T LineFault → Type 0
Gives codes meant (Ok value) = (codes ≡ []) × (value ≡ meant)
Gives codes meant (Err fault) = IsFault codes fault

-- the least code so far, where there is one
abbrev pub IsLeastSoFar : List ℕ → Option ℕ → Type 0
IsLeastSoFar codes None = codes ≡ []
IsLeastSoFar codes (Some code) = IsLeast codes code

-- the codes of just one place
abbrev pub one_codes : (List ℕ → List ℕ) → List (List ℕ) → List ℕ
one_codes codes [] = 2 ∷ []
one_codes codes (word ∷ after) = codes word ++ where_ (nat_lt 0 (length after)) 13

-- the codes of one place up to so many
abbrev pub many_codes : (List ℕ → List ℕ) → ℕ → List (List ℕ) → List ℕ
many_codes codes most words =
    where_ (length words == 0) 2 ++ (flat_map codes (take most words) ++ where_ (nat_lt most (length words)) 13)

-- the values that were read so far, unless a word had a code: then the least one
pub record IsSoFar {V : Type 0} (codes : List ℕ) (meant values : List V) (code : Option ℕ) : Type 0 where
  pub least : IsLeastSoFar codes code
  pub read : code ≡ None → values ≡ meant

-- the next word is the keyword, and the words after it are left
pub record IsChosen (words after : List (List ℕ)) (keyword : Keyword) : Type 0 where
  pub word : List ℕ
  pub cut : words ≡ word ∷ after
  pub is : keyword_of word ≡ Some keyword

-- no word that isn't a keyword chooses a form
abbrev pub IsNoneWithout : (Option Keyword → List (List ℕ) → Form) → Type 0
IsNoneWithout form = (args : List (List ℕ)) → form None args ≡ none
