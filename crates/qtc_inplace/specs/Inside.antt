-- Runs of chunks, and how what they come to is put together. (Own.)
use Rattle.std.specs.Prelude.{◌≡◌, ◌≢◌, ◌⊎◌, ◌+◌, ◌*◌, ◌^◌, ◌<◌, ◌≤◌, ℕ, List, [], ◌∷◌, ◌++◌, Option, Result, Ok, Err, OnOk, IsOk, IfOk, length, map}
use Rattle.std.specs.List.{concat, filter_map, range_with_len}
use Rattle.std.specs.Option.{option_to_list}
use Rattle.qtc_ops.specs.ItemValue.{ItemValue, bad}
use Rattle.qtc_inplace.specs.Calls.{Appends}
use Rattle.qtc_inplace.specs.Chunks.{ChunksLeft}
use Rattle.qtc_inplace.specs.Conditions.{most_functions, ShareValue, value_of}
use Rattle.qtc_inplace.specs.Lists.{IsLeastBad, mapped, NoneBad, text_of}
use Rattle.qtc_inplace.specs.declared.faults.InPlaceFault.{InPlaceFault}
use Rattle.qtc_inplace.specs.declared.faults.InPlaceFault.TheVariants.{Bad, Memory}

-- ---- the plan

-- a place within a list at which a chunk begins
pub record IsCut (size len at : ℕ) : Type 0 where
  pub within : at ≤ len
  pub chunks : ℕ
  pub whole : at ≡ chunks * size

pub record IsReady {F : Type 0} (value : F → List ℕ → ItemValue) (size first : ℕ) (list : List (List ℕ))
    (functions : List F) : Type 0 where
  pub some_in_chunk : 0 < size
  pub room : first + length list < 2 ^ 32
  pub some_functions : 0 < length functions
  pub few_functions : length functions ≤ most_functions
  pub one_value : ShareValue value functions

-- ---- one member

-- what is taken of the members, by each and its text
abbrev pub taken_of : {T : Type 0} → (List ℕ → Option (List ℕ) → Option T) → (List ℕ → ItemValue) → List (List ℕ) → List T
taken_of taken value members = filter_map (λ member. taken member (text_of (value member))) members

abbrev pub TakesOne : {T : Type 0} → (List ℕ → Option (List ℕ) → Option T) → ItemValue → ℕ → List ℕ
    → (old new : List T) → Result (Unit {0}) InPlaceFault → Type 0
TakesOne taken value index member old new (Ok _) = (value ≢ bad) × (new ≡ old ++ option_to_list (taken member (text_of value)))
TakesOne taken value index member old new (Err (Bad at)) = (at ≡ index) × (value ≡ bad)
TakesOne taken value index member old new (Err Memory) = Unit {0}

-- the calls after one more, which for want of memory may not have come
abbrev pub CallsOne : List ℕ → ℕ → List ℕ → Result (Unit {0}) InPlaceFault → Type 0
CallsOne before index after (Ok _) = after ≡ before ++ index ∷ []
CallsOne before index after (Err (Bad at)) = after ≡ before ++ index ∷ []
CallsOne before index after (Err Memory) = (after ≡ before) ⊎ (after ≡ before ++ index ∷ [])

-- ---- calls

-- numbers that ascend, from low on and below high
abbrev pub Ascends : ℕ → List ℕ → ℕ → Type 0
Ascends low [] high = low ≤ high
Ascends low (number ∷ numbers) high = (low ≤ number) × (number < high) × Ascends (number + 1) numbers high

-- the n indexes from the first on, of which some may be missing after a refusal
abbrev pub AreCalled : {X : Type 0} → ℕ → ℕ → Result X InPlaceFault → List ℕ → Type 0
AreCalled first n (Ok _) added = added ≡ range_with_len first n
AreCalled first n (Err _) added = Ascends first added (first + n)

pub record CallsInTurn {X : Type 0} (first n : ℕ) (before after : List ℕ) (result : Result X InPlaceFault) : Type 0 where
  pub added : List ℕ
  pub appended : after ≡ before ++ added
  pub called : AreCalled first n result added

pub record CallsTogether {F X : Type 0} (called_by : F → List ℕ) (first n : ℕ) (before after : List F)
    (result : Result X InPlaceFault) : Type 0 where
  pub added : List (List ℕ)
  pub appended : Appends called_by before after added
  pub called : AreCalled first n result (concat added)

-- ---- bad members

-- the same as TellsBad, where the first member has another index than 0
abbrev pub TellsBadFrom : {X : Type 0} → ℕ → (List ℕ → ItemValue) → List (List ℕ) → Result X InPlaceFault → Type 0
TellsBadFrom first value list (Ok _) = NoneBad value list
TellsBadFrom first value list (Err (Bad index)) = (offset : ℕ) × (index ≡ first + offset) × IsLeastBad value list offset
TellsBadFrom first value list (Err Memory) = Unit {0}

-- ---- two runs, the second right behind the first

abbrev pub IsBadAt : {X : Type 0} → ℕ → Result X InPlaceFault → Type 0
IsBadAt index (Ok _) = ⊥
IsBadAt index (Err (Bad at)) = at ≡ index
IsBadAt index (Err Memory) = ⊥

abbrev pub HasMemory : {X : Type 0} → Result X InPlaceFault → Type 0
HasMemory (Ok _) = Unit {0}
HasMemory (Err (Bad at)) = Unit {0}
HasMemory (Err Memory) = ⊥

-- `Ok` where both are, the bad index of the earlier where no memory lacked
abbrev pub JoinsBoth : {X Y Z : Type 0} → Result X InPlaceFault → Result Y InPlaceFault → Result Z InPlaceFault → Type 0
JoinsBoth front back (Ok _) = IsOk front × IsOk back
JoinsBoth front back (Err (Bad index)) = (IsBadAt index front × HasMemory back) ⊎ (IsOk front × IsBadAt index back)
JoinsBoth front back (Err Memory) = Unit {0}

-- ---- lists that are mapped in place

pub record IsLeft {X : Type 0} (value : List ℕ → ItemValue) (size first : ℕ) (old new : List (List ℕ))
    (result : Result X InPlaceFault) : Type 0 where
  pub whole : OnOk result (new ≡ mapped value old)
  pub chunks : ChunksLeft value size result old new
  pub len : length new ≡ length old
  pub tells : TellsBadFrom first value old result

-- one function's work on a list
pub record MapsInTurn {X : Type 0} (value : List ℕ → ItemValue) (size first : ℕ) (old new : List (List ℕ))
    (before after : List ℕ) (result : Result X InPlaceFault) : Type 0 where
  pub left : IsLeft value size first old new result
  pub calls : CallsInTurn first (length old) before after result

-- the work of several functions, each on a run of the list
pub record MapsTogether {F X : Type 0} (value : F → List ℕ → ItemValue) (called : F → List ℕ) (size first : ℕ)
    (old new : List (List ℕ)) (before after : List F) (result : Result X InPlaceFault) : Type 0 where
  pub left : IsLeft (value_of value before) size first old new result
  pub calls : CallsTogether called first (length old) before after result
  pub value_stays : map value after ≡ map value before

-- two runs that were mapped at once
pub record BothMapped {F : Type 0} (value : F → List ℕ → ItemValue) (called : F → List ℕ) (size first : ℕ)
    (front front' : List (List ℕ)) (low low' : List F) (second : ℕ) (back back' : List (List ℕ))
    (high high' : List F) (result : Result (Unit {0}) InPlaceFault) : Type 0 where
  pub first_result : Result (Unit {0}) InPlaceFault
  pub second_result : Result (Unit {0}) InPlaceFault
  pub first_run : MapsTogether value called size first front front' low low' first_result
  pub second_run : MapsTogether value called size second back back' high high' second_result
  pub joins : JoinsBoth first_result second_result result

-- ---- lists of which something is taken

-- after `Ok` the first items and behind them the second
abbrev pub Appended : {X T : Type 0} → (X → List T) → Result X InPlaceFault → Result X InPlaceFault
    → Result X InPlaceFault → Type 0
Appended items (Ok front) (Ok back) (Ok whole) = items whole ≡ items front ++ items back
Appended items _ _ _ = Unit {0}

-- the work of several functions, each on a run of the list
pub record TakesTogether {F X T : Type 0} (value : F → List ℕ → ItemValue) (called : F → List ℕ)
    (taken : List ℕ → Option (List ℕ) → Option T) (items : X → List T) (first : ℕ) (list : List (List ℕ))
    (before after : List F) (result : Result X InPlaceFault) : Type 0 where
  pub whole : IfOk result (λ made. items made ≡ taken_of taken (value_of value before) list)
  pub tells : TellsBadFrom first (value_of value before) list result
  pub calls : CallsTogether called first (length list) before after result
  pub value_stays : map value after ≡ map value before

-- two runs that were worked on at once
pub record BothTaken {F X T : Type 0} (value : F → List ℕ → ItemValue) (called : F → List ℕ)
    (taken : List ℕ → Option (List ℕ) → Option T) (items : X → List T) (first : ℕ) (front : List (List ℕ))
    (low low' : List F) (second : ℕ) (back : List (List ℕ)) (high high' : List F)
    (result : Result X InPlaceFault) : Type 0 where
  pub first_result : Result X InPlaceFault
  pub second_result : Result X InPlaceFault
  pub first_run : TakesTogether value called taken items first front low low' first_result
  pub second_run : TakesTogether value called taken items second back high high' second_result
  pub joins : JoinsBoth first_result second_result result
  pub appended : Appended items first_result second_result result
