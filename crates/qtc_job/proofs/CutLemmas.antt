-- The lines of a canonical text, and the words of each.
use Rattle.std.proofs.Common.{◌≡◌, ℕ, ◌<◌, ◌≤◌, true, false, not, eqb, ltb, List, [], ◌∷◌, ◌++◌, length, map, refl, ap, ◌∙◌, append_assoc, arith}
use Rattle.std.specs.List.{All, flat_map, onto_first}
use Rattle.std.proofs.lemmas.Bool.{ne_eqb, le-ltb}
use Rattle.std.proofs.lemmas.List.Elements.{All-nil, All-cons, All-head, All-tail, All-weaker, All-append}
use Rattle.std.proofs.lemmas.List.Splits.{slice_split_none, slice_split_at}
use Rattle.qtc_base.specs.Lines.{lines}
use Rattle.qtc_base.specs.Words.{parts}
use Rattle.qtc_job_file.specs.Canonical.{line_text, ended_line}
use Rattle.qtc_job.specs.Lines.{line_of, line_of_words, lines_of}
use Rattle.qtc_job.specs.Words.{gaps, words}

-- a word that is whole in every line: it parts nowhere
abbrev pub IsSolid : List ℕ → Type 0
IsSolid word = (1 ≤ length word) × All (λ byte. 32 < byte) word

abbrev pub AreSolid : List (List ℕ) → Type 0
AreSolid [] = Unit {0}
AreSolid (word ∷ words) = IsSolid word × AreSolid words

-- ---- the words of a line

solid-parts : (byte : ℕ) → 32 < byte → parts gaps byte ≡ false
solid-parts byte high =
    let space = ne_eqb 32 byte (λ e. omega arith) in
    let tab = ne_eqb 9 byte (λ e. omega arith) in
    let cr = ne_eqb 13 byte (λ e. omega arith) in
    rw (space, tab, cr) refl

solid-filled : (word : List ℕ) → All (λ byte. 32 < byte) word → All (λ byte. parts gaps byte ≡ false) word
solid-filled word high = All-weaker (λ byte. 32 < byte) (λ byte. parts gaps byte ≡ false) solid-parts word high

some-kept : (word : List ℕ) → 1 ≤ length word → not (eqb (length word) 0) ≡ true
some-kept word some = let e = ne_eqb (length word) 0 (λ z. omega arith) in rw e refl

pub words-joined : (ws : List (List ℕ)) → AreSolid ws → words (line_text ws) ≡ ws
words-joined [] solid = refl
words-joined (word ∷ []) solid =
    let one = slice_split_none (parts gaps) word (solid-filled word solid.0.1) in
    let some = some-kept word solid.0.0 in
    rw one (rw some refl)
words-joined (word ∷ next ∷ ws) solid =
    let there = words-joined (next ∷ ws) solid.1 in
    let cut = slice_split_at (parts gaps) word 32 (line_text (next ∷ ws)) (solid-filled word solid.0.1) refl in
    let some = some-kept word solid.0.0 in
    rw cut (rw some (ap (λ s. word ∷ s) there))

-- ---- the lines of a text

fed-line : (line rest : List ℕ) → All (λ byte. byte ≡ 10 → ⊥) line → lines (line ++ 10 ∷ rest) ≡ line ∷ lines rest
fed-line [] rest none = refl
fed-line (byte ∷ line) rest none =
    let other = ne_eqb byte 10 (All-head (λ byte. byte ≡ 10 → ⊥) byte line none) in
    let there = fed-line line rest (All-tail (λ byte. byte ≡ 10 → ⊥) byte line none) in
    rw other (ap (onto_first byte) there)

solid-fed : (word : List ℕ) → All (λ byte. 32 < byte) word → All (λ byte. byte ≡ 10 → ⊥) word
solid-fed word high = All-weaker (λ byte. 32 < byte) (λ byte. byte ≡ 10 → ⊥) (λ byte h e. omega arith) word high

joined-fed : (ws : List (List ℕ)) → AreSolid ws → All (λ byte. byte ≡ 10 → ⊥) (line_text ws)
joined-fed [] solid = All-nil (λ byte. byte ≡ 10 → ⊥)
joined-fed (word ∷ []) solid = solid-fed word solid.0.1
joined-fed (word ∷ next ∷ ws) solid =
    All-append (λ byte. byte ≡ 10 → ⊥) word (32 ∷ line_text (next ∷ ws)) (solid-fed word solid.0.1)
    (All-cons (λ byte. byte ≡ 10 → ⊥) 32 (line_text (next ∷ ws)) (λ e. omega arith) (joined-fed (next ∷ ws) solid.1))

-- lines whose words are whole and that aren't too long
abbrev pub AreWhole : List (List (List ℕ)) → Type 0
AreWhole [] = Unit {0}
AreWhole (ws ∷ ls) = AreSolid ws × (length (line_text ws) ≤ 4096) × AreWhole ls

line-whole : (ws : List (List ℕ)) → AreSolid ws → length (line_text ws) ≤ 4096 → line_of (line_text ws) ≡ line_of_words ws
line-whole ws solid short =
    let few : ltb 4096 (length (line_text ws)) ≡ false = le-ltb 4096 (length (line_text ws)) short in
    rw few (ap line_of_words (words-joined ws solid))

-- each line of words is read as it is
pub lines-whole : (ls : List (List (List ℕ))) → AreWhole ls → lines_of (flat_map ended_line ls) ≡ map line_of_words ls
lines-whole [] whole = refl
lines-whole (ws ∷ ls) whole =
    let here = line-whole ws whole.0 whole.1 in
    let there = lines-whole ls whole.2 in
    let cut = ap lines (append_assoc (line_text ws) (10 ∷ []) (flat_map ended_line ls)) ∙ fed-line (line_text ws) (flat_map ended_line ls) (joined-fed ws whole.0) in
    rw cut (rw (here, there) refl)
