-- The pieces of a text.
use Rattle.std.proofs.Common.{◌≡◌, ℕ, zero, suc, ◌+◌, ◌-◌, ◌*◌, ◌/◌, ◌<◌, ◌≤◌, min, List, [], ◌∷◌, ◌++◌, length, take, drop, map, get_or, refl, ap, sym, ◌∙◌, ⊎_elim, arith}
use Rattle.std.specs.List.{concat, range_with_len}
use Rattle.std.proofs.Math.Nat.{add-mul-div_left, div-mul-le_self, mul-le-mul_right}
use Rattle.std.proofs.lemmas.Bool.{cases_lt}
use Rattle.std.proofs.lemmas.Nat.{div-mul-add, div-add-mod'}
use Rattle.std.proofs.lemmas.List.{drop-drop, length-take, length-drop, take-append-drop, take_min, drop_min, nil_from_length}
use Rattle.std.proofs.lemmas.List.Concat.{concat_is, length-flat_map}
use Rattle.std.proofs.lemmas.List.FromFn.{get_or-map-range_with_len, length-map-range_with_len}
use Rattle.qtc_base.specs.Items.{total_bytes}
use Rattle.qtc_run.specs.Laws.{ArePieces}
use Rattle.qtc_run.specs.Sources.{piece_at, piece_count, pieces_of}

-- ---- the first piece, and the pieces of the rest

count-none : (size : ℕ) → 1 ≤ size → piece_count size [] ≡ 0
count-none size some =
    let shape : 0 + (size - 1) ≡ 0 * size + (size - 1) = omega arith in
    ap (λ n. n / size) shape ∙ div-mul-add 0 size (size - 1) (omega arith)

count-more : (size len : ℕ) → 1 ≤ size → 1 ≤ len → (len + (size - 1)) / size ≡ suc ((len - size + (size - 1)) / size)
count-more size len some filled =
    ⊎_elim
    (λ (less : len < size).
    let one : len + (size - 1) ≡ 1 * size + (len - 1) = omega arith in
    let none : len - size + (size - 1) ≡ 0 * size + (size - 1) = omega arith in
    let first = ap (λ n. n / size) one ∙ div-mul-add 1 size (len - 1) (omega arith) in
    let rest = ap (λ n. n / size) none ∙ div-mul-add 0 size (size - 1) (omega arith) in
    first ∙ ap suc (sym rest))
    (λ (more : size ≤ len).
    let shape : len + (size - 1) ≡ len - size + (size - 1) + size * 1 = omega arith in
    let add = add-mul-div_left (len - size + (size - 1)) 1 {y = size} (omega arith) in
    ap (λ n. n / size) shape ∙ (add ∙ omega arith))
    (cases_lt len size)

-- a piece of the rest is the next one of the whole
piece-next : (size : ℕ) (text : List ℕ) (place : ℕ) → piece_at size text (place + 1) ≡ piece_at size (drop size text) place
piece-next size text place =
    let at : (place + 1) * size ≡ size + place * size = omega arith in
    let len = length-drop size text in
    let wide : min ((place + 1) * size + size) (length text) - (place + 1) * size ≡ min (place * size + size) (length (drop size text)) - place * size = omega arith in
    ap (λ n. take n (drop ((place + 1) * size) text)) wide
    ∙ ap (take (min (place * size + size) (length (drop size text)) - place * size)) (ap (λ n. drop n text) at ∙ sym (drop-drop (place * size) size text))

pieces-next : (size : ℕ) (text : List ℕ) (from count : ℕ) → map (piece_at size text) (range_with_len (from + 1) count) ≡ map (piece_at size (drop size text)) (range_with_len from count)
pieces-next size text from zero = refl
pieces-next size text from (suc count) =
    ap (λ p. p ∷ map (piece_at size text) (range_with_len (from + 1 + 1) count)) (piece-next size text from)
    ∙ ap (λ ps. piece_at size (drop size text) from ∷ ps) (pieces-next size text (from + 1) count)

piece-first : (size : ℕ) (text : List ℕ) → piece_at size text 0 ≡ take size text
piece-first size text =
    let wide : min (0 * size + size) (length text) - 0 * size ≡ min size (length text) = omega arith in
    let none : 0 * size ≡ 0 = omega arith in
    ap (λ n. take n (drop (0 * size) text)) wide ∙ (ap (λ n. take (min size (length text)) (drop n text)) none ∙ take_min size text)

pub pieces-none : (size : ℕ) → 1 ≤ size → pieces_of size [] ≡ []
pieces-none size some = ap (λ n. map (piece_at size []) (range_with_len 0 n)) (count-none size some)

pub pieces-more : (size : ℕ) (text : List ℕ) → 1 ≤ size → 1 ≤ length text → pieces_of size text ≡ take size text ∷ pieces_of size (drop size text)
pieces-more size text some filled =
    let count : piece_count size text ≡ suc (piece_count size (drop size text)) =
    count-more size (length text) some filled ∙ ap (λ n. suc ((n + (size - 1)) / size)) (sym (length-drop size text)) in
    ap (λ n. map (piece_at size text) (range_with_len 0 n)) count
    ∙ (ap (λ p. p ∷ map (piece_at size text) (range_with_len (0 + 1) (piece_count size (drop size text)))) (piece-first size text)
    ∙ ap (λ ps. take size text ∷ ps) (pieces-next size text 0 (piece_count size (drop size text))))

-- the first piece as it is cut off
pub pieces-step : (size mid : ℕ) (rest piece others : List ℕ) → 1 ≤ size → 1 ≤ length rest → mid ≡ min size (length rest) → piece ≡ take mid rest → others ≡ drop mid rest → pieces_of size rest ≡ piece ∷ pieces_of size others
pieces-step size mid rest piece others some filled at front back =
    let first : take size rest ≡ piece = sym (front ∙ (ap (λ n. take n rest) at ∙ take_min size rest)) in
    let left : drop size rest ≡ others = sym (back ∙ (ap (λ n. drop n rest) at ∙ drop_min size rest)) in
    pieces-more size rest some filled ∙ (ap (λ p. p ∷ pieces_of size (drop size rest)) first ∙ ap (λ r. piece ∷ pieces_of size r) left)

pub pieces-end : (size : ℕ) (rest : List ℕ) → 1 ≤ size → length rest ≡ 0 → pieces_of size rest ≡ []
pieces-end size rest some empty = ap (pieces_of size) (nil_from_length rest empty) ∙ pieces-none size some

-- ---- what the pieces are

whole-within : (fuel size : ℕ) (text : List ℕ) → 1 ≤ size → length text ≤ fuel → concat (pieces_of size text) ≡ text
whole-within fuel size [] some few = ap concat (pieces-none size some)
whole-within zero size (byte ∷ text) some few = absurd (omega arith)
whole-within (suc fuel) size (byte ∷ text) some few =
    let rest : length (drop size (byte ∷ text)) ≤ fuel = let len = length-drop size (byte ∷ text) in omega arith in
    ap concat (pieces-more size (byte ∷ text) some (omega arith))
    ∙ (ap (λ s. take size (byte ∷ text) ++ s) (whole-within fuel size (drop size (byte ∷ text)) some rest) ∙ take-append-drop size (byte ∷ text))

pub pieces-whole : (size : ℕ) (text : List ℕ) → 1 ≤ size → concat (pieces_of size text) ≡ text
pieces-whole size text some = whole-within (length text) size text some (omega arith)

pub pieces-bytes : (size : ℕ) (text : List ℕ) → 1 ≤ size → total_bytes (pieces_of size text) ≡ length text
pieces-bytes size text some =
    sym (length-flat_map (λ (p : List ℕ). p) (pieces_of size text)) ∙ ap length (sym (concat_is (pieces_of size text)) ∙ pieces-whole size text some)

pub pieces-number : (size : ℕ) (text : List ℕ) → length (pieces_of size text) ≡ piece_count size text
pieces-number size text = length-map-range_with_len (piece_at size text) 0 (piece_count size text)

-- the length of a piece that begins within the text
piece-length : (size : ℕ) (text : List ℕ) (place : ℕ) (d : List ℕ) → place < piece_count size text → place * size ≤ length text → length (get_or (pieces_of size text) place d) ≡ min (place * size + size) (length text) - place * size
piece-length size text place d within low =
    let at = get_or-map-range_with_len (piece_at size text) 0 (piece_count size text) place place d within (omega arith) in
    let cut = length-take (min (place * size + size) (length text) - place * size) (drop (place * size) text) in
    let rest = length-drop (place * size) text in
    ap length at ∙ (cut ∙ omega arith)

-- where the last piece begins and ends
count-bounds : (size : ℕ) (text : List ℕ) → 1 ≤ size → (piece_count size text * size ≤ length text + (size - 1)) × (length text ≤ piece_count size text * size)
count-bounds size text some =
    let parts = div-add-mod' (length text + (size - 1)) size in
    let low = div-mul-le_self (length text + (size - 1)) size in
    (low, omega arith)

pub pieces-are : (size : ℕ) (text : List ℕ) → 1 ≤ size → ArePieces size text (pieces_of size text)
pieces-are size text some = record {
  full = λ place d before.
      let number = pieces-number size text in
      let bounds = count-bounds size text some in
      let within : place + 2 ≤ piece_count size text = omega arith in
      let wide : (place + 2) * size ≤ piece_count size text * size = mul-le-mul_right size within in
      piece-length size text place d (omega arith) (omega arith) ∙ omega arith;
  some = λ place d last.
      let number = pieces-number size text in
      let bounds = count-bounds size text some in
      let is : piece_count size text * size ≡ (place + 1) * size = ap (λ n. n * size) (sym number ∙ sym last) in
      let len = piece-length size text place d (omega arith) (omega arith) in
      omega arith;
  most = λ place d last.
      let number = pieces-number size text in
      let bounds = count-bounds size text some in
      let is : piece_count size text * size ≡ (place + 1) * size = ap (λ n. n * size) (sym number ∙ sym last) in
      let len = piece-length size text place d (omega arith) (omega arith) in
      omega arith;
  whole = pieces-whole size text some;
}
