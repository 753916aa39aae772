-- What an item function keeps of a list of items, and where it fails. (Own.)
use Rattle.std.specs.Prelude.{ℕ, Bool, true, false, ◌&&◌, nat_le, nat_lt, List, map, filter, Option, Some, None, if◌then◌else◌}
use Rattle.std.specs.List.{enumerate_from, filter_map}
use Rattle.qtc_ops.specs.ItemValue.{ItemValue, kept, dropped, bad}

-- the index with the kept text
abbrev pub kept_pair : ℕ → ItemValue → Option (ℕ × List ℕ)
kept_pair index (kept text) = Some (index, text)
kept_pair index dropped = None
kept_pair index bad = None

-- the kept texts with their indexes, ascending, where the first item has this index
abbrev pub pairs_from : (List ℕ → ItemValue) → ℕ → List (List ℕ) → List (ℕ × List ℕ)
pairs_from value first items = filter_map (λ item. kept_pair item.0 (value item.1)) (enumerate_from first items)

-- the kept pairs of all items
abbrev pub pairs : (List ℕ → ItemValue) → List (List ℕ) → List (ℕ × List ℕ)
pairs value items = pairs_from value 0 items

-- those with an index from begin on and below end
abbrev pub pairs_between : (List ℕ → ItemValue) → List (List ℕ) → ℕ → ℕ → List (ℕ × List ℕ)
pairs_between value items begin end = filter (λ pair. nat_le begin pair.0 && nat_lt pair.0 end) (pairs value items)

abbrev pub texts : List (ℕ × List ℕ) → List (List ℕ)
texts kept_pairs = map (λ pair. pair.1) kept_pairs

-- a value that is bad, or whose kept text the fold refuses
abbrev pub fails_at : (List ℕ → Bool) → ItemValue → Bool
fails_at refuses (kept text) = refuses text
fails_at refuses dropped = false
fails_at refuses bad = true

-- the failing indexes, ascending
abbrev pub fails : (List ℕ → ItemValue) → (List ℕ → Bool) → List (List ℕ) → List ℕ
fails value refuses items =
    filter_map (λ item. if fails_at refuses (value item.1) then Some item.0 else None) (enumerate_from 0 items)
