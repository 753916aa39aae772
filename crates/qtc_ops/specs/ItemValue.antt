-- What an item function makes of one item, and the answers that say so. (Own.)
use Rattle.std.specs.Prelude.{◌≡◌, ℕ, List, [], ◌∷◌, ◌++◌, Option, Some, None, Result, Ok, Err}
use Rattle.qtc_ops.specs.declared.item_faults.ItemFault.{ItemFault}
use Rattle.qtc_ops.specs.declared.item_faults.ItemFault.TheVariants.{Bad, Memory}

-- the value of an item: a kept text, dropped, or bad
pub data ItemValue : Type 0 where
  kept : List ℕ → ItemValue
  dropped : ItemValue
  bad : ItemValue

-- the answers that say a value; want of memory may come in place of each
abbrev pub Answers : ItemValue → Result (Option (List ℕ)) ItemFault → Type 0
Answers value (Ok (Some text)) = value ≡ kept text
Answers value (Ok None) = value ≡ dropped
Answers value (Err Bad) = value ≡ bad
Answers value (Err Memory) = Unit {0}

-- the calls after one more: it is listed, whatever it answered but want of memory
abbrev pub listed : List ℕ → ℕ → Result (Option (List ℕ)) ItemFault → List ℕ
listed calls index (Ok answer) = calls ++ index ∷ []
listed calls index (Err Bad) = calls ++ index ∷ []
listed calls index (Err Memory) = calls
