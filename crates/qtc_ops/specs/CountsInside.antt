-- How the counts lie in a map.
use Rattle.std.specs.Prelude.{ℕ, List, map}
use Rattle.qtc_ops.specs.declared.tallies.Counts.TheInside.{Inside}

-- the map's entries, the keys seen as lists of bytes
abbrev pub seen_counts : Inside → List (List ℕ × ℕ)
seen_counts s = map (λ entry. (entry.0.items, entry.1)) s.counts.entries
