-- Which items a predicate keeps. (Own.)
use Rattle.std.specs.Prelude.{ℕ, ◌<◌, Bool, nat_lt, nat_eq, List, length}
use Rattle.std.specs.List.{starts_with}
use Rattle.memchr.specs.Find.{OccursAt}
use Rattle.qtc_ops.specs.Wildcards.{Matches, some_suffix, wildcard}
use Rattle.qtc_ops.specs.declared.predicates.Pred.{Pred}
use Rattle.qtc_ops.specs.declared.predicates.Pred.TheVariants.{Contains, Wildcard, Longer}

-- the literal stands in the item at some place, the pattern matches the item, or the item is longer than the bound
abbrev pub Keeps : Pred → List ℕ → Type 0
Keeps (Contains literal) item = (place : ℕ) × OccursAt item literal place
Keeps (Wildcard pattern) item = Matches pattern item
Keeps (Longer bound) item = bound < length item

-- whether the predicate keeps the item
abbrev pub keeps : Pred → List ℕ → Bool
keeps (Contains literal) item = some_suffix (λ suffix. starts_with nat_eq suffix literal) item
keeps (Wildcard pattern) item = wildcard pattern item
keeps (Longer bound) item = nat_lt bound (length item)
