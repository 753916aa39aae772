-- Accepted batches, in order of their begins. (After Qt's result store; that a batch is refused where any index is covered is own.)
use Rattle.std.specs.Prelude.{ℕ, ◌+◌, ◌≤◌, ◌<◌, ◌≡◌, Bool, false, ◌&&◌, nat_lt, nat_le, max, if◌then◌else◌, Option, List, [], ◌∷◌, length, fold}
use Rattle.std.specs.List.{list_any, find, range_with_len}
use Rattle.qtc_store.specs.declared.batch.Batch.{Batch}

abbrev pub end_of : {V : Type 0} → Batch V → ℕ
end_of batch = batch.begin + batch.total

abbrev pub begin_of : {V : Type 0} → Batch V → ℕ
begin_of batch = batch.begin

abbrev pub values_of : {V : Type 0} → Batch V → List V
values_of batch = batch.values

-- whether the index lies in the batch's range
abbrev pub covers : {V : Type 0} → ℕ → Batch V → Bool
covers index batch = nat_le batch.begin index && nat_lt index (end_of batch)

abbrev pub is_covered : {V : Type 0} → List (Batch V) → ℕ → Bool
is_covered batches index = list_any (covers index) batches

-- the least index of a range that a batch covers
abbrev pub least_covered : {V : Type 0} → List (Batch V) → (begin total : ℕ) → Option ℕ
least_covered batches begin total = find (is_covered batches) (range_with_len begin total)

-- where the last batch ends, or 0
abbrev pub greatest_end : {V : Type 0} → List (Batch V) → ℕ
greatest_end [] = 0
greatest_end (batch ∷ batches) = max (end_of batch) (greatest_end batches)

-- with one batch more, in its place
abbrev pub placed : {V : Type 0} → List (Batch V) → Batch V → List (Batch V)
placed [] batch = batch ∷ []
placed (first ∷ batches) batch = if nat_lt batch.begin first.begin then batch ∷ first ∷ batches else first ∷ placed batches batch

-- the batches in order of their begins
abbrev pub in_order : {V : Type 0} → List (Batch V) → List (Batch V)
in_order batches = fold placed [] batches

-- from `low` on each batch covers something, and begins where the one before ends or later
abbrev pub AreApart : {V : Type 0} → ℕ → List (Batch V) → Type 0
AreApart low [] = Unit {0}
AreApart low (batch ∷ batches) = (low ≤ batch.begin) × (0 < batch.total) × AreApart (end_of batch) batches

-- the values of a batch, at most as many as it covers, and in plain mode just as many
pub record IsWhole {V : Type 0} (filter : Bool) (batch : Batch V) : Type 0 where
  pub few : length batch.values ≤ batch.total
  pub whole : filter ≡ false → length batch.values ≡ batch.total
