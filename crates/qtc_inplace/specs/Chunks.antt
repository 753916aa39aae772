-- What becomes of the chunks of a list that is mapped in place. (Own.)
use Rattle.std.specs.Prelude.{◌≡◌, ◌⊎◌, ℕ, List, Result, Ok, Err}
use Rattle.std.specs.List.{AllZip}
use Rattle.rayon.specs.Lists.{chunks_of}
use Rattle.qtc_ops.specs.ItemValue.{ItemValue}
use Rattle.qtc_inplace.specs.Lists.{mapped, NoneBad, SomeBad}
use Rattle.qtc_inplace.specs.declared.faults.InPlaceFault.{InPlaceFault}
use Rattle.qtc_inplace.specs.declared.faults.InPlaceFault.TheVariants.{Bad, Memory}

-- no member was bad, and each is now its value
abbrev pub IsNew : (List ℕ → ItemValue) → (old new : List (List ℕ)) → Type 0
IsNew value old new = NoneBad value old × (new ≡ mapped value old)

-- with a bad member it is as before, and else it is new
abbrev pub IsNewUnlessBad : (List ℕ → ItemValue) → (old new : List (List ℕ)) → Type 0
IsNewUnlessBad value old new = IsNew value old new ⊎ (SomeBad value old × (new ≡ old))

-- new or as before, and with a bad member as before
abbrev pub IsNewOrOld : (List ℕ → ItemValue) → (old new : List (List ℕ)) → Type 0
IsNewOrOld value old new = IsNew value old new ⊎ (new ≡ old)

-- what becomes of a chunk, by the call's answer
abbrev pub ChunkLeft : {X : Type 0} → (List ℕ → ItemValue) → Result X InPlaceFault → (old new : List (List ℕ)) → Type 0
ChunkLeft value (Ok _) old new = IsNew value old new
ChunkLeft value (Err (Bad index)) old new = IsNewUnlessBad value old new
ChunkLeft value (Err Memory) old new = IsNewOrOld value old new

-- the same of each chunk of a list
abbrev pub ChunksLeft : {X : Type 0} → (List ℕ → ItemValue) → ℕ → Result X InPlaceFault → (old new : List (List ℕ)) → Type 0
ChunksLeft value chunk result old new = AllZip (ChunkLeft value result) (chunks_of chunk old) (chunks_of chunk new)
