-- The first word of a text, and where it ends.
use Rattle.std.proofs.Common.{◌≡◌, ℕ, zero, suc, ◌+◌, ◌<◌, ◌≤◌, List, [], ◌∷◌, length, take, drop, get_or, true, false, not, eqb, refl, ap, sym, ◌∙◌, arith}
use Rattle.std.specs.Prelude.{filter}
use Rattle.std.specs.List.{slice_split, onto_first}
use Rattle.std.proofs.lemmas.Bool.{ne_eqb}
use Rattle.std.proofs.lemmas.List.Splits.{slice_split-cons_yes, slice_split-cons_no}
use Rattle.std.proofs.Math.Seq.{drop-cons}
use Rattle.qtc_base.specs.Words.{words_by, parts}

-- a gap at the front says nothing
pub words-gap : (gaps : List ℕ) (byte : ℕ) (text : List ℕ) → parts gaps byte ≡ true → words_by gaps (byte ∷ text) ≡ words_by gaps text
words-gap gaps byte text gap = rw (slice_split-cons_yes (parts gaps) byte text gap) refl

-- the gap at a place says nothing
pub words-drop : (gaps text : List ℕ) (place : ℕ) → place < length text → parts gaps (get_or text place 0) ≡ true → words_by gaps (drop (place + 1) text) ≡ words_by gaps (drop place text)
words-drop gaps text place lt gap =
    let next : place + 1 ≡ suc place = omega arith in
    rw (next, drop-cons text place 0 lt) (sym (words-gap gaps (get_or text place 0) (drop (suc place) text) gap))

-- where the first part of a split ends
first_part : (gaps text : List ℕ) (end : ℕ) → end ≤ length text → ((k : ℕ) → k < end → parts gaps (get_or text k 0) ≡ false) → (end < length text → parts gaps (get_or text end 0) ≡ true) → (tail : List (List ℕ)) × (slice_split (parts gaps) text ≡ take end text ∷ tail) × (filter (λ run. not (eqb (length run) 0)) tail ≡ words_by gaps (drop end text))
first_part gaps [] zero within none stop = ([], refl, refl)
first_part gaps [] (suc end) within none stop = absurd (omega arith)
first_part gaps (byte ∷ text) zero within none stop =
    let gap = stop (omega arith) in
    (slice_split (parts gaps) text, slice_split-cons_yes (parts gaps) byte text gap, sym (words-gap gaps byte text gap))
first_part gaps (byte ∷ text) (suc end) within none stop =
    let filled = none 0 (omega arith) in
    let there = first_part gaps text end (omega arith) (λ k h. none (suc k) (omega arith)) (λ h. stop (omega arith)) in
    (there.0, slice_split-cons_no (parts gaps) byte text filled ∙ ap (onto_first byte) there.1, there.2)

pub first_word : (gaps text : List ℕ) (end : ℕ) → 0 < end → end ≤ length text → ((k : ℕ) → k < end → parts gaps (get_or text k 0) ≡ false) → (end < length text → parts gaps (get_or text end 0) ≡ true) → words_by gaps text ≡ take end text ∷ words_by gaps (drop end text)
first_word gaps text zero some within none stop = absurd (omega arith)
first_word gaps [] (suc end) some within none stop = absurd (omega arith)
first_word gaps (byte ∷ text) (suc end) some within none stop =
    let part = first_part gaps (byte ∷ text) (suc end) within none stop in
    let filled : eqb (suc (length (take end text))) 0 ≡ false = ne_eqb (suc (length (take end text))) 0 (λ e. omega arith) in
    let test : not (eqb (length (take (suc end) (byte ∷ text))) 0) ≡ true = rw filled refl in
    rw part.1 (rw test (ap (λ s. take (suc end) (byte ∷ text) ∷ s) part.2))
