-- The results of a filter store: one visible list. (After Qt's ResultStoreBase in filter mode.)
use Rattle.std.specs.Prelude.{ℕ, ◌+◌, ◌==◌, if◌then◌else◌, List, [], ◌∷◌, ◌++◌, length}
use Rattle.std.specs.List.{flat_map}
use Rattle.qtc_store.specs.declared.batch.Batch.{Batch}
use Rattle.qtc_store.specs.Batches.{end_of, values_of}

-- the batches that meet from a place on: one that begins there, one that begins at its end, and so on
abbrev pub meeting : {V : Type 0} → ℕ → List (Batch V) → List (Batch V)
meeting place [] = []
meeting place (batch ∷ batches) = if batch.begin == place then batch ∷ meeting (end_of batch) batches else []

-- where they end
abbrev pub meeting_end : {V : Type 0} → ℕ → List (Batch V) → ℕ
meeting_end place [] = place
meeting_end place (batch ∷ batches) = if batch.begin == place then meeting_end (end_of batch) batches else place

-- their values, one after the other, without what waits behind a gap
abbrev pub visible : {V : Type 0} → List (Batch V) → List V
visible batches = flat_map values_of (meeting 0 batches)

-- the positions of some values, where there are any
abbrev pub positions : (position count : ℕ) → List (ℕ × ℕ)
positions position count = if count == 0 then [] else (position, position + count) ∷ []

-- the positions of each batch that has values, the first value's being given
abbrev pub position_ranges : {V : Type 0} → ℕ → List (Batch V) → List (ℕ × ℕ)
position_ranges position [] = []
position_ranges position (batch ∷ batches) = positions position (length batch.values) ++ position_ranges (position + length batch.values) batches

abbrev pub visible_ranges : {V : Type 0} → List (Batch V) → List (ℕ × ℕ)
visible_ranges batches = position_ranges 0 (meeting 0 batches)
