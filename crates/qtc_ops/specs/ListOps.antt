-- What each list operation gives. (Own.)
use Rattle.std.specs.Prelude.{ℕ, List, [], ◌∷◌, take, if◌then◌else◌}
use Rattle.std.specs.List.{concat}
use Rattle.std.specs.Ordering.{is_lt}
use Rattle.qtc_ops.specs.Order.{bytes_cmp}
use Rattle.qtc_ops.specs.declared.list_ops.ListOp.{ListOp}
use Rattle.qtc_ops.specs.declared.list_ops.ListOp.TheVariants.{First, Sorted, Concat}

-- a value at its place among values that ascend
abbrev pub inserted : List ℕ → List (List ℕ) → List (List ℕ)
inserted value [] = value ∷ []
inserted value (next ∷ values) =
    if is_lt (bytes_cmp next value) then next ∷ inserted value values else value ∷ next ∷ values

-- the values ascending by bytes, equal ones all kept
abbrev pub sorted : List (List ℕ) → List (List ℕ)
sorted [] = []
sorted (value ∷ values) = inserted value (sorted values)

-- one row for each list operation
abbrev pub list_value : ListOp → List (List ℕ) → List (List ℕ)
list_value (First count) values = take count values
list_value Sorted values = sorted values
list_value Concat values = concat values ∷ []
