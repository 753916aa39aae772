-- The value of an item by the operation that a job names. (Own.)
use Rattle.std.specs.Prelude.{ℕ, Bool, not as not_bool, List, if◌then◌else◌}
use Rattle.qtc_ops.specs.ItemValue.{ItemValue, kept, dropped}
use Rattle.qtc_ops.specs.Maps.{map_value}
use Rattle.qtc_ops.specs.Predicates.{keeps}
use Rattle.qtc_ops.specs.declared.operations.ItemOp.{ItemOp}
use Rattle.qtc_ops.specs.declared.operations.ItemOp.TheVariants.{Map, Keep}

-- a kept item is its own value
abbrev pub kept_where : Bool → List ℕ → ItemValue
kept_where keep item = if keep then kept item else dropped

abbrev pub value_of : ItemOp → List ℕ → ItemValue
value_of (Map op) item = map_value op item
value_of (Keep negated pred) item = kept_where (if negated then not_bool (keeps pred item) else keeps pred item) item
