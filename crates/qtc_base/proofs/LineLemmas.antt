-- Where the first line of a text ends.
use Rattle.std.proofs.Common.{◌≡◌, ℕ, zero, suc, ◌+◌, ◌-◌, ◌<◌, ◌≤◌, List, [], ◌∷◌, ◌++◌, length, take, drop, get_or, eqb, true, refl, ap, subst, sym, ◌∙◌, ⊎_elim, arith}
use Rattle.std.specs.List.{onto_first}
use Rattle.std.proofs.lemmas.Bool.{false_from_ne_true, cases_Bool}
use Rattle.std.proofs.lemmas.Grind.{common_steps}
use Rattle.std.specs.Prelude.{All, slice_range}
use Rattle.std.proofs.lemmas.List.Sums.{sum_by-cons}
use Rattle.qtc_base.specs.Items.{total_bytes}
use Rattle.std.proofs.lemmas.List.{append_assoc, map-append}
use Rattle.std.proofs.lemmas.List.Elements.{All-append, All-cons, All-nil}
use Rattle.qtc_base.proofs.SharedLemmas.{onto-bytes, onto-most}
use Rattle.qtc_base.specs.Lines.{lines}
use Rattle.qtc_base.specs.Parts.{AreWithin, part_of, parts_of}
use Rattle.qtc_base.specs.declared.ranges.Range.{Range}

-- no byte of the text is LF
one_line_after : (byte : ℕ) (text : List ℕ) → ((k : ℕ) → k < suc (length text) → eqb (get_or (byte ∷ text) k 0) 10 ≡ true → ⊥) → lines (byte ∷ text) ≡ (byte ∷ text) ∷ []
one_line_after byte [] none =
    let here = false_from_ne_true (eqb byte 10) (none 0 (omega arith)) in
    rw here refl
one_line_after byte (next ∷ text) none =
    let here = false_from_ne_true (eqb byte 10) (none 0 (omega arith)) in
    let there = one_line_after next text (λ k h. none (suc k) (omega arith)) in
    rw here (ap (onto_first byte) there)

pub one_line : (text : List ℕ) → 0 < length text → ((k : ℕ) → 0 ≤ k → k < length text → eqb (get_or text k 0) 10 ≡ true → ⊥) → lines text ≡ text ∷ []
one_line [] some none = absurd (omega arith)
one_line (byte ∷ text) some none = one_line_after byte text (λ k h. none k (omega arith) h)

-- the first LF is at the place end
first_line_at : (text : List ℕ) (end : ℕ) → end < length text → ((k : ℕ) → k < end → eqb (get_or text k 0) 10 ≡ true → ⊥) → eqb (get_or text end 0) 10 ≡ true → lines text ≡ take end text ∷ lines (drop (suc end) text)
first_line_at [] end within none here = absurd (omega arith)
first_line_at (byte ∷ text) zero within none here = rw here refl
first_line_at (byte ∷ text) (suc end) within none here =
    let first = false_from_ne_true (eqb byte 10) (none 0 (omega arith)) in
    let there = first_line_at text end (omega arith) (λ k h. none (suc k) (omega arith)) here in
    rw first (ap (onto_first byte) there)

-- the same, with the rest as the slice from the next byte to the end
pub first_line : (text : List ℕ) (end : ℕ) → end < length text → ((k : ℕ) → 0 ≤ k → k < end → eqb (get_or text k 0) 10 ≡ true → ⊥) → eqb (get_or text end 0) 10 ≡ true → lines text ≡ take end text ∷ lines (take (length text - (end + 1)) (drop (end + 1) text))
first_line text end within none here =
    let rest : take (length text - (end + 1)) (drop (end + 1) text) ≡ drop (suc end) text = grind (arith, common_steps) in
    rw rest (first_line_at text end within (λ k h. none k (omega arith) h) here)

-- one line more was found
pub found_more : (text : List ℕ) (old new : List Range) (part : Range) (begin end : ℕ) → new ≡ old ++ part ∷ [] → part.begin ≡ begin → part.end ≡ end → end ≤ length text → lines (drop begin text) ≡ slice_range text begin end ∷ lines (drop (end + 1) text) → AreWithin text old → parts_of text old ++ lines (drop begin text) ≡ lines text
    → AreWithin text new × (parts_of text new ++ lines (drop (end + 1) text) ≡ lines text)
found_more text old new part begin end new_is begin_is end_is below line within front =
    let P : Range → Type 0 = λ part. part.end ≤ length text in
    let last : part_of text part ≡ slice_range text begin end = ap (λ b. slice_range text b part.end) begin_is ∙ ap (slice_range text begin) end_is in
    let parts : parts_of text new ≡ parts_of text old ++ slice_range text begin end ∷ [] = ap (parts_of text) new_is ∙ map-append (part_of text) old (part ∷ []) ∙ ap (λ x. parts_of text old ++ x ∷ []) last in
    let joined : (parts_of text old ++ slice_range text begin end ∷ []) ++ lines (drop (end + 1) text) ≡ parts_of text old ++ (slice_range text begin end ∷ lines (drop (end + 1) text)) = append_assoc (parts_of text old) (slice_range text begin end ∷ []) (lines (drop (end + 1) text)) in (
      subst (All P) (sym new_is) (All-append P old (part ∷ []) within (All-cons P part [] (omega arith) (All-nil P))),
      ap (λ xs. xs ++ lines (drop (end + 1) text)) parts ∙ joined ∙ ap (λ xs. parts_of text old ++ xs) (sym line) ∙ front,
    )

-- ---- no text has more lines than bytes

pub lines_short : (text : List ℕ) → (length (lines text) ≤ length text) × (total_bytes (lines text) ≤ length text)
lines_short [] = (omega arith, omega arith)
lines_short (byte ∷ text) =
    let there = lines_short text in
    let number = there.0 in
    let bytes = there.1 in
    ⊎_elim
    (λ feed.
    let cut : lines (byte ∷ text) ≡ [] ∷ lines text = rw feed refl in
    let count = ap length cut in
    let size : total_bytes (lines (byte ∷ text)) ≡ 0 + total_bytes (lines text) = ap total_bytes cut ∙ sum_by-cons length [] (lines text) in
    (omega arith, omega arith))
    (λ other.
    let cut : lines (byte ∷ text) ≡ onto_first byte (lines text) = rw other refl in
    let count = ap length cut in
    let more = onto-most byte (lines text) in
    let size : total_bytes (lines (byte ∷ text)) ≡ 1 + total_bytes (lines text) = ap total_bytes cut ∙ onto-bytes byte (lines text) in
    (omega arith, omega arith))
    (cases_Bool (eqb byte 10))
