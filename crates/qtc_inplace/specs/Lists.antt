-- What a function makes of the members of a list. (Own, after what the Qt 6 documentation says of map and filter.)
use Rattle.std.specs.Prelude.{◌≡◌, ◌≢◌, ◌<◌, ℕ, List, Option, None, Some, Result, Ok, Err, All, Any, filter, is_some, length, take}
use Rattle.std.specs.List.{filter_map}
use Rattle.qtc_ops.specs.ItemValue.{ItemValue, kept, dropped, bad}
use Rattle.qtc_ops.specs.Laws.{value_at}
use Rattle.qtc_inplace.specs.declared.faults.InPlaceFault.{InPlaceFault}
use Rattle.qtc_inplace.specs.declared.faults.InPlaceFault.TheVariants.{Bad, Memory}

-- the kept text, where there is one
abbrev pub text_of : ItemValue → Option (List ℕ)
text_of (kept text) = Some text
text_of dropped = None
text_of bad = None

-- all values that aren't dropped, in order
abbrev pub mapped : (List ℕ → ItemValue) → List (List ℕ) → List (List ℕ)
mapped value list = filter_map (λ member. text_of (value member)) list

-- the members whose value isn't dropped, in order
abbrev pub filtered : (List ℕ → ItemValue) → List (List ℕ) → List (List ℕ)
filtered value list = filter (λ member. is_some (text_of (value member))) list

-- ---- bad members

abbrev pub NoneBad : (List ℕ → ItemValue) → List (List ℕ) → Type 0
NoneBad value list = All (λ member. value member ≢ bad) list

abbrev pub SomeBad : (List ℕ → ItemValue) → List (List ℕ) → Type 0
SomeBad value list = Any (λ member. value member ≡ bad) list

-- the member at the index is bad, and none before it is
pub record IsLeastBad (value : List ℕ → ItemValue) (list : List (List ℕ)) (index : ℕ) : Type 0 where
  pub within : index < length list
  pub is : value_at value list index ≡ bad
  pub least : NoneBad value (take index list)

-- `Bad` comes only with the least index whose member is bad, and `Ok` only where there is none
abbrev pub TellsBad : {X : Type 0} → (List ℕ → ItemValue) → List (List ℕ) → Result X InPlaceFault → Type 0
TellsBad value list (Ok _) = NoneBad value list
TellsBad value list (Err (Bad index)) = IsLeastBad value list index
TellsBad value list (Err Memory) = Unit {0}
