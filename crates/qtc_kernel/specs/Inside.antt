-- What the work on one block comes to. (Own.)
use Rattle.std.specs.Prelude.{◌≡◌, ◌⊎◌, ◌+◌, ◌<◌, ◌≤◌, ℕ, false, List, [], ◌∷◌, ◌++◌, None, Some, Result, Ok, Err}
use Rattle.qtc_ops.specs.ItemValue.{ItemValue, kept, dropped, bad}
use Rattle.qtc_ops.specs.declared.item_faults.ItemFault.{ItemFault}
use Rattle.qtc_ops.specs.declared.item_faults.ItemFault.TheVariants.{Bad as BadItem, Memory}
use Rattle.qtc_kernel.specs.Workload.{Workload, first_bad, indexes_of, is_bad, item_at, texts_in}
use Rattle.qtc_kernel.specs.declared.blocks.Block.{Block}
use Rattle.qtc_kernel.specs.declared.blocks.Block.TheVariants.{Kept, Bad}

-- ---- one item

-- the values after one more item that isn't bad
abbrev pub IsTaken : ItemValue → List (List ℕ) → List (List ℕ) → Type 0
IsTaken (kept text) old new = new ≡ old ++ text ∷ []
IsTaken dropped old new = new ≡ old
IsTaken bad old new = ⊥

-- a bad item is answered as such; want of memory may come in the place of each answer
abbrev pub Takes : ItemValue → List (List ℕ) → List (List ℕ) → Result (Unit {0}) ItemFault → Type 0
Takes value old new (Ok _) = IsTaken value old new
Takes value old new (Err BadItem) = value ≡ bad
Takes value old new (Err Memory) = Unit {0}

-- the calls after one more, which for want of memory may not have come
abbrev pub Calls : List ℕ → ℕ → List ℕ → Result (Unit {0}) ItemFault → Type 0
Calls before index after (Ok _) = after ≡ before ++ index ∷ []
Calls before index after (Err BadItem) = after ≡ before ++ index ∷ []
Calls before index after (Err Memory) = (after ≡ before) ⊎ (after ≡ before ++ index ∷ [])

-- ---- one block

-- what is kept of the items of a range, of which none is bad; or the first bad one
abbrev pub IsBlockOf : Workload → ℕ × ℕ → Block → Type 0
IsBlockOf work range (Kept values) = (values ≡ texts_in work range) × (first_bad work range ≡ None)
IsBlockOf work range (Bad index) = first_bad work range ≡ Some index

-- the indexes that the function is called on
abbrev pub called_in : ℕ × ℕ → Block → List ℕ
called_in range (Kept values) = indexes_of range
called_in range (Bad index) = indexes_of (range.0, index + 1)

-- where memory ran out, the function was called on a front of the range, before whose last index no item is bad
pub record CallsUpTo (work : Workload) (range : ℕ × ℕ) (before after : List ℕ) : Type 0 where
  pub at : ℕ
  pub low : range.0 ≤ at
  pub high : at ≤ range.1
  pub good : (index : ℕ) → range.0 ≤ index → index + 1 < at → is_bad (work.value (item_at work index)) ≡ false
  pub calls : after ≡ before ++ indexes_of (range.0, at)
