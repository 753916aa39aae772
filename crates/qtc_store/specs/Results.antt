-- The results of a plain store: a finite map from indexes to values. (After Qt's ResultStoreBase.)
use Rattle.std.specs.Prelude.{ℕ, List, map, length}
use Rattle.std.specs.List.{flat_map, enumerate_from, take_while, range_with_len}
use Rattle.std.specs.Ordering.{nat_cmp}
use Rattle.std.specs.FinMap.{FinMap, from_entries, contains_key}
use Rattle.qtc_store.specs.declared.batch.Batch.{Batch}
use Rattle.qtc_store.specs.Batches.{end_of, greatest_end}

-- each value of a batch with its index
abbrev pub cells_of : {V : Type 0} → Batch V → List (ℕ × V)
cells_of batch = enumerate_from batch.begin batch.values

abbrev pub results : {V : Type 0} → List (Batch V) → FinMap nat_cmp V
results batches = from_entries (flat_map cells_of batches)

-- how many results there are from index 0 on, without a gap
abbrev pub result_count : {V : Type 0} → List (Batch V) → ℕ
result_count batches = length (take_while (contains_key (results batches)) (range_with_len 0 (greatest_end batches)))

-- the indexes of each batch
abbrev pub result_ranges : {V : Type 0} → List (Batch V) → List (ℕ × ℕ)
result_ranges batches = map (λ batch. (batch.begin, end_of batch)) batches
