-- Lists of entries. (Own.)
use Rattle.std.specs.Prelude.{List, [], ◌∷◌, Option, Some}
use Rattle.std.specs.Option.{option_and_then}
use Rattle.qtc_pool_core.specs.declared.entries.PoolEntry.{PoolEntry}
use Rattle.qtc_pool_core.specs.Machine.{Pool, step}

-- the pool after these entries, or nothing where one of them may not stand in its place
abbrev pub run_of : Pool → List PoolEntry → Option Pool
run_of pool [] = Some pool
run_of pool (entry ∷ entries) = option_and_then (λ next. run_of next entries) (step pool entry)
