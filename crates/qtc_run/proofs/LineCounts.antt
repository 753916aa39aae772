-- How many lines a text has, and how many bytes stand in them.
use Rattle.std.proofs.Common.{◌≡◌, ℕ, suc, ◌+◌, ◌-◌, ◌≤◌, List, [], ◌∷◌, length, get_or, eqb, cond, refl, ap, sym, ◌∙◌, ⊎_elim, arith}
use Rattle.std.specs.List.{count_by, onto_first}
use Rattle.std.proofs.lemmas.Bool.{cases_Bool}
use Rattle.std.proofs.lemmas.List.Sums.{sum_by-cons}
use Rattle.qtc_base.specs.Items.{total_bytes}
use Rattle.qtc_base.specs.Lines.{lines}
use Rattle.qtc_run.specs.Laws.{tail_count, LinesAreCounted}

abbrev feeds : List ℕ → ℕ
feeds text = count_by (λ byte. eqb byte 10) text

feeds-cons : (byte : ℕ) (text : List ℕ) → feeds (byte ∷ text) ≡ cond (eqb byte 10) 1 0 + feeds text
feeds-cons byte text = sum_by-cons (λ b. cond (eqb b 10) 1 0) byte text

-- a byte before the first line
onto-bytes : (byte : ℕ) (ls : List (List ℕ)) → total_bytes (onto_first byte ls) ≡ 1 + total_bytes ls
onto-bytes byte [] = refl
onto-bytes byte (l ∷ ls) =
    let more = sum_by-cons length (byte ∷ l) ls in
    let less = sum_by-cons length l ls in
    omega arith

onto-number : (byte : ℕ) (ls : List (List ℕ)) → 1 ≤ length ls → length (onto_first byte ls) ≡ length ls
onto-number byte [] some = absurd (omega arith)
onto-number byte (l ∷ ls) some = refl

onto-some : (byte : ℕ) (ls : List (List ℕ)) → 1 ≤ length (onto_first byte ls)
onto-some byte [] = omega arith
onto-some byte (l ∷ ls) = omega arith

some-lines : (byte : ℕ) (text : List ℕ) → 1 ≤ length (lines (byte ∷ text))
some-lines byte text =
    ⊎_elim
    (λ feed. rw feed (omega arith))
    (λ other. rw other (onto-some byte (lines text)))
    (cases_Bool (eqb byte 10))

pub lines-bytes : (text : List ℕ) → total_bytes (lines text) + feeds text ≡ length text
lines-bytes [] = refl
lines-bytes (byte ∷ text) =
    let there = lines-bytes text in
    ⊎_elim
    (λ feed.
    let cut : lines (byte ∷ text) ≡ [] ∷ lines text = rw feed refl in
    let count : feeds (byte ∷ text) ≡ 1 + feeds text = feeds-cons byte text ∙ ap (λ b. cond b 1 0 + feeds text) feed in
    let bytes : total_bytes (lines (byte ∷ text)) ≡ 0 + total_bytes (lines text) = ap total_bytes cut ∙ sum_by-cons length [] (lines text) in
    omega arith)
    (λ other.
    let cut : lines (byte ∷ text) ≡ onto_first byte (lines text) = rw other refl in
    let count : feeds (byte ∷ text) ≡ 0 + feeds text = feeds-cons byte text ∙ ap (λ b. cond b 1 0 + feeds text) other in
    let bytes : total_bytes (lines (byte ∷ text)) ≡ 1 + total_bytes (lines text) = ap total_bytes cut ∙ onto-bytes byte (lines text) in
    omega arith)
    (cases_Bool (eqb byte 10))

tail-same : (byte next : ℕ) (text : List ℕ) → tail_count (byte ∷ next ∷ text) ≡ tail_count (next ∷ text)
tail-same byte next text =
    let long : suc (suc (length text)) - 1 ≡ suc (length text) = omega arith in
    let short : suc (length text) - 1 ≡ length text = omega arith in
    ap (λ n. cond (eqb (get_or (byte ∷ next ∷ text) n 10) 10) 0 1) long
    ∙ sym (ap (λ n. cond (eqb (get_or (next ∷ text) n 10) 10) 0 1) short)

pub lines-number : (text : List ℕ) → length (lines text) ≡ feeds text + tail_count text
lines-number [] = refl
lines-number (byte ∷ []) =
    ⊎_elim
    (λ feed. rw feed refl)
    (λ other. rw other refl)
    (cases_Bool (eqb byte 10))
lines-number (byte ∷ next ∷ text) =
    let there = lines-number (next ∷ text) in
    let tail = tail-same byte next text in
    ⊎_elim
    (λ feed.
    let cut : lines (byte ∷ next ∷ text) ≡ [] ∷ lines (next ∷ text) = rw feed refl in
    let count : feeds (byte ∷ next ∷ text) ≡ 1 + feeds (next ∷ text) = feeds-cons byte (next ∷ text) ∙ ap (λ b. cond b 1 0 + feeds (next ∷ text)) feed in
    let number : length (lines (byte ∷ next ∷ text)) ≡ suc (length (lines (next ∷ text))) = ap length cut in
    omega arith)
    (λ other.
    let cut : lines (byte ∷ next ∷ text) ≡ onto_first byte (lines (next ∷ text)) = rw other refl in
    let count : feeds (byte ∷ next ∷ text) ≡ 0 + feeds (next ∷ text) = feeds-cons byte (next ∷ text) ∙ ap (λ b. cond b 1 0 + feeds (next ∷ text)) other in
    let number : length (lines (byte ∷ next ∷ text)) ≡ length (lines (next ∷ text)) = ap length cut ∙ onto-number byte (lines (next ∷ text)) (some-lines next text) in
    omega arith)
    (cases_Bool (eqb byte 10))

pub lines-counted : (text : List ℕ) → LinesAreCounted text
lines-counted text = record { number = lines-number text; bytes = lines-bytes text }
