-- How many values a table has for a range.
use Rattle.std.proofs.Common.{◌≡◌, ◌≢◌, ℕ, zero, suc, ◌+◌, ◌-◌, ◌≤◌, List, [], ◌∷◌, All, length, take, drop, refl, ◌∙◌, arith}
use Rattle.std.proofs.lemmas.List.Elements.{All-cons, All-head, All-nil, All-tail}
use Rattle.qtc_inbox.specs.declared.entry.Cell.{Cell}
use Rattle.qtc_inbox.specs.declared.entry.Cell.TheVariants.{Kept, Absent, Bad}
use Rattle.qtc_inbox.specs.Entries.{IsFull, IsGood, cells_of, values_in}

module _ {V : Type 0} where
  most_values : (cells : List (Cell V)) → length (values_in cells) ≤ length cells
  most_values [] = omega arith
  most_values (Kept value ∷ cells) = let rest = most_values cells in omega (arith, rest)
  most_values (Absent ∷ cells) = let rest = most_values cells in omega (arith, rest)
  most_values (Bad ∷ cells) = let rest = most_values cells in omega (arith, rest)

  most_taken : (count : ℕ) (cells : List (Cell V)) → length (take count cells) ≤ count
  most_taken zero cells = omega arith
  most_taken (suc count) [] = omega arith
  most_taken (suc count) (cell ∷ cells) = let rest = most_taken count cells in omega (arith, rest)

  -- a range has no more values than indexes
  pub values_few : (table : List (Cell V)) (range : ℕ × ℕ) → length (values_in (cells_of table range)) ≤ range.1 - range.0
  values_few table range =
      let some = most_values (cells_of table range) in
      let few = most_taken (range.1 - range.0) (drop range.0 table) in
      omega (arith, some, few)

  all_taken : (P : Cell V → Type 0) (count : ℕ) (cells : List (Cell V)) → All P cells → All P (take count cells)
  all_taken P zero cells all = All-nil P
  all_taken P (suc count) [] all = All-nil P
  all_taken P (suc count) (cell ∷ cells) all = All-cons P cell (take count cells) (All-head P cell cells all) (all_taken P count cells (All-tail P cell cells all))

  all_dropped : (P : Cell V → Type 0) (count : ℕ) (cells : List (Cell V)) → All P cells → All P (drop count cells)
  all_dropped P zero cells all = all
  all_dropped P (suc count) [] all = All-nil P
  all_dropped P (suc count) (cell ∷ cells) all = all_dropped P count cells (All-tail P cell cells all)

  kept_whole : (cells : List (Cell V)) → All (λ cell. cell ≢ Bad) cells → All (λ cell. cell ≢ Absent) cells → length (values_in cells) ≡ length cells
  kept_whole [] good there = refl
  kept_whole (Kept value ∷ cells) good there =
      let rest = kept_whole cells (All-tail (λ cell. cell ≢ Bad) (Kept value) cells good) (All-tail (λ cell. cell ≢ Absent) (Kept value) cells there) in
      omega (arith, rest)
  kept_whole (Absent ∷ cells) good there = absurd (All-head (λ cell. cell ≢ Absent) Absent cells there refl)
  kept_whole (Bad ∷ cells) good there = absurd (All-head (λ cell. cell ≢ Bad) Bad cells good refl)

  taken_whole : (begin count : ℕ) (cells : List (Cell V)) → begin + count ≤ length cells → length (take count (drop begin cells)) ≡ count
  taken_whole zero zero cells long = refl
  taken_whole zero (suc count) [] long = absurd (omega (arith, long))
  taken_whole zero (suc count) (cell ∷ cells) long = let rest = taken_whole zero count cells (omega (arith, long)) in omega (arith, rest)
  taken_whole (suc begin) count [] long = absurd (omega (arith, long))
  taken_whole (suc begin) count (cell ∷ cells) long = taken_whole begin count cells (omega (arith, long))

  -- a range without a bad index has a value for each, where the table has
  pub values_whole : (n : ℕ) (table : List (Cell V)) (range : ℕ × ℕ) → IsFull n table → IsGood table range → range.0 ≤ range.1 → range.1 ≤ n → length (values_in (cells_of table range)) ≡ range.1 - range.0
  values_whole n table range full good order within =
      let there = all_taken (λ cell. cell ≢ Absent) (range.1 - range.0) (drop range.0 table) (all_dropped (λ cell. cell ≢ Absent) range.0 table full.none_absent) in
      let cells = full.cells in
      kept_whole (cells_of table range) good there ∙ taken_whole range.0 (range.1 - range.0) table (omega (arith, order, within, cells))
