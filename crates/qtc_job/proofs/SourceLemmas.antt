-- What a line says is no longer than the line.
use Rattle.std.proofs.Common.{◌≡◌, ℕ, suc, ◌+◌, ◌<◌, ◌≤◌, true, false, not, eqb, ltb, List, [], ◌∷◌, ◌++◌, length, get_or, map, Option, Some, None, refl, ap, sym, ◌∙◌, ⊎_elim, length-append, arith}
use Rattle.std.specs.List.{All}
use Rattle.std.proofs.lemmas.Bool.{cases_Bool, ltb-false, both_ways, not-true}
use Rattle.std.proofs.lemmas.List.Elements.{All-head, All-weaker}
use Rattle.qtc_base.specs.Lines.{lines}
use Rattle.qtc_base.specs.Words.{parts, AreWords}
use Rattle.qtc_base.proofs.WordLaws.{words-are}
use Rattle.qtc_job_file.specs.declared.keywords.Keyword.{Keyword}
use Rattle.qtc_job_file.specs.declared.keywords.Keyword.TheVariants as word
use Rattle.qtc_job_file.specs.Canonical.{line_text}
use Rattle.qtc_job_file.specs.Keywords.{keyword_of, spelling}
use Rattle.qtc_job.specs.Lines.{Line, workers, job, says, directive_line, line_of, line_of_words, lines_of}
use Rattle.qtc_job.specs.Tails.{tail}
use Rattle.qtc_job.specs.Words.{gaps, words}
use Rattle.qtc_job_file.proofs.KeywordLemmas.{keyword-is}
use Rattle.qtc_job.proofs.LineLemmas.{join-tail}

-- a word that was cut from a line
abbrev pub IsCut : List ℕ → Type 0
IsCut word = (1 ≤ length word) × All (λ byte. byte ≡ 32 → ⊥) word

abbrev pub AreCut : List (List ℕ) → Type 0
AreCut [] = Unit {0}
AreCut (word ∷ words) = IsCut word × AreCut words

-- a first word of this length with the others after it, each after a space, is no longer than a line may be
pub record IsSourced (size : ℕ) (args : List (List ℕ)) : Type 0 where
  pub cut : AreCut args
  pub short : size + length (tail args) ≤ 4096

abbrev pub IsFromText : Line → Type 0
IsFromText (workers args) = IsSourced 7 args
IsFromText (job args) = IsSourced 3 args
IsFromText (says keyword args) = IsSourced (length (spelling keyword)) args
IsFromText _ = Unit {0}

-- ---- words are no longer than what they were cut from

first-after : (text word : List ℕ) (rest before : List ℕ) (size : ℕ) → (0 < length text → parts gaps (get_or text 0 0) ≡ true) → 0 < length word → All (λ byte. not (parts gaps byte) ≡ true) word → text ≡ before ++ (word ++ rest) → size ≤ length rest → suc (length word) + size ≤ length text
first-after text [] rest before size gap some filled e le = absurd (omega arith)
first-after text (byte ∷ word) rest [] size gap some filled e le =
    let first : get_or text 0 0 ≡ byte = ap (λ t. get_or t 0 0) e in
    let long : 0 < length text = rw e (omega arith) in
    let parted : parts gaps byte ≡ true = ap (parts gaps) (sym first) ∙ gap long in
    let whole = not-true (parts gaps byte) (All-head (λ b. not (parts gaps b) ≡ true) byte word filled) in
    absurd (both_ways (parts gaps byte) whole parted)
first-after text (byte ∷ word) rest (b ∷ before) size gap some filled e le =
    let whole = ap length e in
    let a = length-append before ((byte ∷ word) ++ rest) in
    let c = length-append word rest in
    omega arith

words-after : (text : List ℕ) (ws : List (List ℕ)) → (0 < length text → parts gaps (get_or text 0 0) ≡ true) → AreWords gaps text ws → length (tail ws) ≤ length text
words-after text [] gap are = omega arith
words-after text (w ∷ ws) gap are =
    let first = are.1 in
    let there = words-after are.0 ws first.maximal are.2 in
    let here = first-after text w are.0 first.before (length (tail ws)) gap first.some first.filled first.is there in
    let sizes = length-append (32 ∷ w) (tail ws) in
    omega arith

words-within : (text w : List ℕ) (ws : List (List ℕ)) → AreWords gaps text (w ∷ ws) → length w + length (tail ws) ≤ length text
words-within text w ws are =
    let first = are.1 in
    let there = words-after are.0 ws first.maximal are.2 in
    let whole = ap length first.is in
    let a = length-append first.before (w ++ are.0) in
    let c = length-append w are.0 in
    omega arith

-- ---- words have no gap

filled-cut : (word : List ℕ) → All (λ byte. not (parts gaps byte) ≡ true) word → All (λ byte. byte ≡ 32 → ⊥) word
filled-cut word filled = All-weaker (λ byte. not (parts gaps byte) ≡ true) (λ byte. byte ≡ 32 → ⊥)
    (λ byte whole e. let part : parts gaps byte ≡ true = ap (parts gaps) e in both_ways (parts gaps byte) (not-true (parts gaps byte) whole) part) word filled

are-cut : (text : List ℕ) (ws : List (List ℕ)) → AreWords gaps text ws → AreCut ws
are-cut text [] are = tt
are-cut text (w ∷ ws) are = ((are.1.some, filled-cut w are.1.filled), are-cut are.0 ws are.2)

-- ---- what a line says

directive-sourced : (o : Option Keyword) (size : ℕ) (args : List (List ℕ)) → ((k : Keyword) → o ≡ Some k → length (spelling k) ≡ size) → IsSourced size args → IsFromText (directive_line o args)
directive-sourced None size args same s = tt
directive-sourced (Some word.Workers) size args same s = let e : 7 ≡ size = same word.Workers refl in rw e s
directive-sourced (Some word.Job) size args same s = let e : 3 ≡ size = same word.Job refl in rw e s
directive-sourced (Some word.Input) size args same s = let e : length (spelling word.Input) ≡ size = same word.Input refl in rw e s
directive-sourced (Some word.Map) size args same s = let e : length (spelling word.Map) ≡ size = same word.Map refl in rw e s
directive-sourced (Some word.Filter) size args same s = let e : length (spelling word.Filter) ≡ size = same word.Filter refl in rw e s
directive-sourced (Some word.Reduce) size args same s = let e : length (spelling word.Reduce) ≡ size = same word.Reduce refl in rw e s
directive-sourced (Some word.Order) size args same s = let e : length (spelling word.Order) ≡ size = same word.Order refl in rw e s
directive-sourced (Some word.Blocks) size args same s = let e : length (spelling word.Blocks) ≡ size = same word.Blocks refl in rw e s
directive-sourced (Some word.Priority) size args same s = let e : length (spelling word.Priority) ≡ size = same word.Priority refl in rw e s
directive-sourced (Some word.CancelAfter) size args same s = let e : length (spelling word.CancelAfter) ≡ size = same word.CancelAfter refl in rw e s
directive-sourced (Some word.SuspendAfter) size args same s = let e : length (spelling word.SuspendAfter) ≡ size = same word.SuspendAfter refl in rw e s
directive-sourced (Some word.Watch) size args same s = let e : length (spelling word.Watch) ≡ size = same word.Watch refl in rw e s
directive-sourced (Some word.Then) size args same s = let e : length (spelling word.Then) ≡ size = same word.Then refl in rw e s
directive-sourced (Some word.OnFailed) size args same s = let e : length (spelling word.OnFailed) ≡ size = same word.OnFailed refl in rw e s
directive-sourced (Some word.OnCanceled) size args same s = let e : length (spelling word.OnCanceled) ≡ size = same word.OnCanceled refl in rw e s
directive-sourced (Some _) size args same s = tt

words-sourced : (ws : List (List ℕ)) (text : List ℕ) → AreWords gaps text ws → length text ≤ 4096 → IsFromText (line_of_words ws)
words-sourced [] text are short = tt
words-sourced (w ∷ ws) text are short = ⊎_elim
    (λ (comment : eqb (get_or w 0 0) 35 ≡ true). rw comment tt)
    (λ (other : eqb (get_or w 0 0) 35 ≡ false). rw other
    (let size = words-within text w ws are in
    directive-sourced (keyword_of w) (length w) ws (λ k e. ap length (sym (keyword-is w k e))) (record { cut = are-cut are.0 ws are.2; short = omega arith })))
    (cases_Bool (eqb (get_or w 0 0) 35))

pub line-sourced : (line : List ℕ) → IsFromText (line_of line)
line-sourced line = ⊎_elim
    (λ (long : ltb 4096 (length line) ≡ true). rw long tt)
    (λ (short : ltb 4096 (length line) ≡ false). rw short (words-sourced (words line) line (words-are gaps line) (ltb-false 4096 (length line) short)))
    (cases_Bool (ltb 4096 (length line)))

abbrev pub AreFromText : List Line → Type 0
AreFromText [] = Unit {0}
AreFromText (line ∷ ls) = IsFromText line × AreFromText ls

all-sourced : (ls : List (List ℕ)) → AreFromText (map line_of ls)
all-sourced [] = tt
all-sourced (l ∷ ls) = (line-sourced l, all-sourced ls)

pub lines-sourced : (text : List ℕ) → AreFromText (lines_of text)
lines-sourced text = all-sourced (lines text)

-- ---- a line that is joined of words

pub join-size : (word : List ℕ) (words : List (List ℕ)) → length (line_text (word ∷ words)) ≡ length word + length (tail words)
join-size word words = ap length (join-tail word words) ∙ length-append word (tail words)
