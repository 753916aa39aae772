-- What contracts see of a source of texts, and what its calls do. (Own.)
use Rattle.std.specs.Prelude.{◌≡◌, ℕ, ◌≤◌, ◌↔◌, ◌==◌, if◌then◌else◌, List, [], length, take, drop, Option, Some, None, MatchOption}
use Rattle.qtc_outside.specs.Counts.{risen, Rose}

pub record Source : Type 0 where
  -- the bytes under a name, where the source tells them
  pub held : List ℕ → Option (List ℕ)
  -- the bytes of the chosen text that were not given yet, where it tells them
  pub rest : Option (List ℕ)
  -- how many bytes were given so far
  pub taken : ℕ
  -- how many faults there were so far
  pub faults : ℕ
  -- the name under which the last fault came
  pub blamed : Option (List ℕ)
  -- the name of the chosen text; none where nothing is chosen, or a read since then gave 0 or failed
  pub chosen : Option (List ℕ)

-- no fault came: what is held, the count of faults and the name to blame stay
pub record IsCalm (old new : Source) : Type 0 where
  pub held : new.held ≡ old.held
  pub faults : new.faults ≡ old.faults
  pub blamed : new.blamed ≡ old.blamed

-- the text under the name is chosen, and all of it is left
pub record Chooses (old : Source) (name : List ℕ) (new : Source) : Type 0 where
  pub chosen : new.chosen ≡ Some name
  pub whole : new.rest ≡ old.held name
  pub taken : new.taken ≡ old.taken
  pub calm : IsCalm old new

-- a fault came under a name: no byte was given, and nothing is chosen
pub record Faults (old : Source) (name : Option (List ℕ)) (new : Source) : Type 0 where
  pub rose : Rose old.faults new.faults
  pub blamed : new.blamed ≡ name
  pub chosen : new.chosen ≡ None
  pub taken : new.taken ≡ old.taken
  pub held : new.held ≡ old.held

-- the first count bytes of into are the next of what was left, the others are left, and 0 is the end
pub record GivesNext (left into : List ℕ) (count : ℕ) (after : Option (List ℕ)) : Type 0 where
  pub next : take count into ≡ take count left
  pub others : after ≡ Some (drop count left)
  pub end : (count ≡ 0) ↔ (left ≡ [])

-- the next bytes of the chosen text were given, at most as many as fit; after the last, nothing is chosen
pub record Gives (old : Source) (into : List ℕ) (count : ℕ) (new : Source) : Type 0 where
  pub within : count ≤ length into
  pub next : MatchOption old.rest (new.rest ≡ None) (λ left. GivesNext left into count new.rest)
  pub taken : new.taken ≡ risen old.taken count
  pub chosen : new.chosen ≡ (if count == 0 then None else old.chosen)
  pub calm : IsCalm old new
