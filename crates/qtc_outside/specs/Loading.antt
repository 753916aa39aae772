-- What the loading of a text comes to. (Own.)
use Rattle.std.specs.Prelude.{◌≡◌, ℕ, ◌+◌, ◌<◌, ◌≤◌, ◌↔◌, List, [], ◌++◌, length, Option, Some, IfSome}
use Rattle.qtc_outside.specs.Counts.{risen, Rose}
use Rattle.qtc_outside.specs.Source.{Source, IsCalm, Faults}
use Rattle.qtc_outside.specs.declared.loading.LoadFault.{LoadFault}
use Rattle.qtc_outside.specs.declared.loading.LoadFault.TheVariants.{Read, TooLong, Memory}

-- at most so many bytes were given
abbrev pub GaveAtMost : ℕ → ℕ → ℕ → Type 0
GaveAtMost most old new = (given : ℕ) × (given ≤ most) × (new ≡ risen old given)

-- the text is what is held under the name, where that is told, and all of it was given
pub record Loads (limit : ℕ) (old : Source) (name text : List ℕ) (new : Source) : Type 0 where
  pub told : IfSome (old.held name) (λ held. text ≡ held)
  pub within : length text ≤ limit
  pub taken : new.taken ≡ risen old.taken (length text)
  pub calm : IsCalm old new

-- what is held under the name is longer than the limit, and just one byte more than the limit was given
pub record IsTooLong (limit : ℕ) (old : Source) (name : List ℕ) (new : Source) : Type 0 where
  pub told : IfSome (old.held name) (λ held. limit < length held)
  pub taken : new.taken ≡ risen old.taken (limit + 1)
  pub calm : IsCalm old new

-- a fault came under the name, and at most as many bytes as the limit were given
pub record FailsToLoad (limit : ℕ) (old : Source) (name : List ℕ) (new : Source) : Type 0 where
  pub rose : Rose old.faults new.faults
  pub blamed : new.blamed ≡ Some name
  pub gave : GaveAtMost limit old.taken new.taken
  pub held : new.held ≡ old.held

-- memory lacks, and at most one byte more than the limit was given
pub record LacksMemory (limit : ℕ) (old new : Source) : Type 0 where
  pub gave : GaveAtMost (limit + 1) old.taken new.taken
  pub calm : IsCalm old new

-- why the text under a name was not loaded, and what the source is then
abbrev pub NotLoaded : ℕ → Source → List ℕ → LoadFault → Source → Type 0
NotLoaded limit old name Read new = FailsToLoad limit old name new
NotLoaded limit old name TooLong new = IsTooLong limit old name new
NotLoaded limit old name Memory new = LacksMemory limit old new

-- count bytes came behind the text: the next of what was left, where that is told, and 0 is the end
pub record AppendsNext (left : Option (List ℕ)) (old : List ℕ) (count : ℕ) (new : List ℕ) (after : Option (List ℕ)) : Type 0 where
  pub piece : List ℕ
  pub appended : new ≡ old ++ piece
  pub counted : length piece ≡ count
  pub next : IfSome left (λ bytes. (others : List ℕ) × (after ≡ Some others) × (bytes ≡ piece ++ others) × ((count ≡ 0) ↔ (bytes ≡ [])))

-- one read behind a text
pub record ReadsOn (old : Source) (before : List ℕ) (count : ℕ) (after : List ℕ) (new : Source) : Type 0 where
  pub piece : AppendsNext old.rest before count after new.rest
  pub taken : new.taken ≡ risen old.taken count
  pub chosen : 1 ≤ count → new.chosen ≡ old.chosen
  pub calm : IsCalm old new

-- why nothing was read
abbrev pub ReadsNothing : Source → LoadFault → Source → Type 0
ReadsNothing old Read new = Faults old old.chosen new
ReadsNothing old TooLong new = ⊥
ReadsNothing old Memory new = new ≡ old

-- the text so far and what is left are what was left at first
pub record IsReadSoFar (first : Source) (text : List ℕ) (limit : ℕ) (now : Source) : Type 0 where
  pub told : IfSome first.rest (λ held. (left : List ℕ) × (now.rest ≡ Some left) × (held ≡ text ++ left))
  pub within : length text ≤ limit + 1
  pub taken : now.taken ≡ risen first.taken (length text)
  pub chosen : length text ≤ limit → now.chosen ≡ first.chosen
  pub calm : IsCalm first now

-- more than the limit was left, and one byte more than the limit was given
pub record RestIsTooLong (limit : ℕ) (old new : Source) : Type 0 where
  pub told : IfSome old.rest (λ left. limit < length left)
  pub taken : new.taken ≡ risen old.taken (limit + 1)
  pub calm : IsCalm old new

-- a fault came under the chosen name, after at most as many bytes as the limit
pub record RestFails (limit : ℕ) (old new : Source) : Type 0 where
  pub rose : Rose old.faults new.faults
  pub blamed : new.blamed ≡ old.chosen
  pub gave : GaveAtMost limit old.taken new.taken
  pub held : new.held ≡ old.held

-- the chosen text was read to its end
pub record ReadsRest (limit : ℕ) (old : Source) (text : List ℕ) (new : Source) : Type 0 where
  pub told : IfSome old.rest (λ left. text ≡ left)
  pub within : length text ≤ limit
  pub taken : new.taken ≡ risen old.taken (length text)
  pub calm : IsCalm old new

-- why the rest of a text was not read
abbrev pub RestNotRead : ℕ → Source → LoadFault → Source → Type 0
RestNotRead limit old Read new = RestFails limit old new
RestNotRead limit old TooLong new = RestIsTooLong limit old new
RestNotRead limit old Memory new = LacksMemory limit old new
