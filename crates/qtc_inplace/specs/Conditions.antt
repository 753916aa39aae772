-- What is asked of the list, the chunks and the functions of a call. (Own.)
use Rattle.std.specs.Prelude.{◌≡◌, ◌≢◌, ◌≤◌, ℕ, List, [], ◌∷◌, All, length}
use Rattle.qtc_base.specs.Limits.{most_block, most_items, most_workers}
use Rattle.qtc_ops.specs.ItemValue.{ItemValue, dropped}

-- a chunk is at most what one claim asks for
abbrev pub most_chunk : ℕ
most_chunk = most_block

-- the functions that work on a list at once are at most the workers of a job
abbrev pub most_functions : ℕ
most_functions = most_workers

-- the value of the first function, which the others share; no function drops each member
abbrev pub value_of : {F : Type 0} → (F → List ℕ → ItemValue) → List F → List ℕ → ItemValue
value_of value [] = λ member. dropped
value_of value (function ∷ functions) = value function

-- all functions have one value
abbrev pub ShareValue : {F : Type 0} → (F → List ℕ → ItemValue) → List F → Type 0
ShareValue value functions = All (λ function. value function ≡ value_of value functions) functions

pub record CanWork {F : Type 0} (value : F → List ℕ → ItemValue) (list : List (List ℕ)) (chunk : ℕ)
    (functions : List F) : Type 0 where
  pub few_members : length list ≤ most_items
  pub some_in_chunk : 1 ≤ chunk
  pub few_in_chunk : chunk ≤ most_chunk
  pub some_functions : 1 ≤ length functions
  pub few_functions : length functions ≤ most_functions
  pub one_value : ShareValue value functions

abbrev pub NeverDrops : (List ℕ → ItemValue) → Type 0
NeverDrops value = (member : List ℕ) → value member ≢ dropped
