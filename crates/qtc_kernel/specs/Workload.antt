-- What an engine works on, and what the sequential answer is. (Own.)
use Rattle.std.specs.Prelude.{◌≡◌, ◌≢◌, ℕ, ◌+◌, ◌-◌, Bool, true, false, List, [], ◌∷◌, length, slice_index_or, Option, All}
use Rattle.std.specs.List.{find, range_with_len}
use Rattle.qtc_ops.specs.ItemValue.{ItemValue, kept, dropped, bad}
use Rattle.qtc_ops.specs.Kept.{pairs, pairs_between, texts, fails}

-- items in order, and what a function makes of each
pub record Workload : Type 0 where
  pub items : List (List ℕ)
  pub value : List ℕ → ItemValue

abbrev pub workload : List (List ℕ) → (List ℕ → ItemValue) → Workload
workload items value = record { items = items; value = value }

-- how many indexes it has
abbrev pub size_of : Workload → ℕ
size_of work = length work.items

abbrev pub item_at : Workload → ℕ → List ℕ
item_at work index = slice_index_or work.items index []

-- the numbers of a range, ascending
abbrev pub indexes_of : ℕ × ℕ → List ℕ
indexes_of range = range_with_len range.0 (range.1 - range.0)

-- what is kept of the items of a range, by ascending index
abbrev pub texts_in : Workload → ℕ × ℕ → List (List ℕ)
texts_in work range = texts (pairs_between work.value work.items range.0 range.1)

-- what is kept of all items
abbrev pub kept_texts : Workload → List (List ℕ)
kept_texts work = texts (pairs work.value work.items)

abbrev pub is_bad : ItemValue → Bool
is_bad (kept text) = false
is_bad dropped = false
is_bad bad = true

-- the least index of a range whose item is bad
abbrev pub first_bad : Workload → ℕ × ℕ → Option ℕ
first_bad work range = find (λ index. is_bad (work.value (item_at work index))) (indexes_of range)

-- the indexes whose items are bad, ascending
abbrev pub bad_indexes : Workload → List ℕ
bad_indexes work = fails work.value (λ text. false) work.items

-- how many items are worked on from the first: all, or those up to the first bad one
abbrev pub worked_on : Workload → List ℕ → ℕ
worked_on work [] = size_of work
worked_on work (index ∷ others) = index + 1

-- no item is dropped, as in a map
abbrev pub KeepsAll : Workload → Type 0
KeepsAll work = All (λ item. work.value item ≢ dropped) work.items

-- where no item may be dropped, none is
abbrev pub Suits : Bool → Workload → Type 0
Suits drops work = drops ≡ false → KeepsAll work
