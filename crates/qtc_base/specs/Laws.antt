-- The laws of escapes, decimal texts, lines and words. (Own.)
use Rattle.std.specs.Prelude.{◌≡◌, ◌≢◌, ℕ, ◌+◌, ◌-◌, ◌*◌, ◌^◌, ◌<◌, ◌≤◌, ◌==◌, if◌then◌else◌, List, [], ◌∷◌, ◌++◌, All, length, slice_index, replicate}
use Rattle.std.specs.List.{flat_map}
use Rattle.qtc_base.specs.Escape.{escaped}
use Rattle.qtc_base.specs.Decimal.{decimal_text, IsNumber, number_of}
use Rattle.qtc_base.specs.Lines.{lines}
use Rattle.qtc_base.specs.Words.{words_by, AreWords}

abbrev pub AreBytes : List ℕ → Type 0
AreBytes text = All (λ byte. byte < 256) text

-- no two texts have one escape
abbrev pub EscapesAreReadOnce : Type 0
EscapesAreReadOnce = (a b : List ℕ) → AreBytes a → AreBytes b → escaped a ≡ escaped b → a ≡ b

-- no control byte, and so no LF, and no 0x7f
abbrev pub EscapesAreOneLine : Type 0
EscapesAreOneLine = (text : List ℕ) → AreBytes text → All (λ byte. (32 ≤ byte) × (byte ≢ 127)) (escaped text)

-- at most so many digits, which spell the number, and of which the first is 0 only where it is alone
pub record Spells (most n : ℕ) (word : List ℕ) : Type 0 where
  pub digits : IsNumber most word
  pub value : number_of word ≡ n
  pub shortest : 1 < length word → slice_index word 0 ≢ 48

abbrev pub DecimalsSpellTheirNumber : Type 0
DecimalsSpellTheirNumber = (most n : ℕ) → 1 ≤ most → most ≤ 64 → n < 10 ^ most → Spells most n (decimal_text n)

-- each digit counts ten times as much as the next, and leading zeros count nothing
pub record DigitsCountByPlace : Type 0 where
  pub none : number_of [] ≡ 0
  pub first : (digit : ℕ) (word : List ℕ) → number_of (digit ∷ word) ≡ (digit - 48) * 10 ^ length word + number_of word
  pub zeros : (count : ℕ) (word : List ℕ) → number_of (replicate count 48 ++ word) ≡ number_of word

abbrev pub line_ended : List ℕ → List ℕ
line_ended line = line ++ 10 ∷ []

-- the text, with an LF where its end lacks one
abbrev pub ended : List ℕ → List ℕ
ended [] = []
ended (byte ∷ []) = if byte == 10 then byte ∷ [] else byte ∷ 10 ∷ []
ended (byte ∷ next ∷ text) = byte ∷ ended (next ∷ text)

-- no line has LF in it, and the lines, each ended by LF, are the ended text
pub record AreLinesOf (text : List ℕ) (cut : List (List ℕ)) : Type 0 where
  pub no_feed : All (λ line. All (λ byte. byte ≢ 10) line) cut
  pub whole : flat_map line_ended cut ≡ ended text

abbrev pub LinesAreCutAtLineFeeds : Type 0
LinesAreCutAtLineFeeds = (text : List ℕ) → AreLinesOf text (lines text)

abbrev pub LinesAreTheOnlyCut : Type 0
LinesAreTheOnlyCut = (text : List ℕ) (cut : List (List ℕ)) → AreLinesOf text cut → cut ≡ lines text

abbrev pub WordsAreMaximalRuns : Type 0
WordsAreMaximalRuns = (gaps text : List ℕ) → AreWords gaps text (words_by gaps text)
