-- What contracts see of a lock and of a hold, and what its own functions know of a seat (own).
use Rattle.std.specs.Prelude.{◌≡◌, [], ◌∷◌, Option, None}
use Rattle.atomic_table.specs.Seated.{TableId}
use Rattle.atomic_table.specs.declared.shared.Seat.{Seat}
use Rattle.qtc_lock.specs.declared.rule.View.{View}
use Rattle.qtc_lock.specs.Rule.{idle, holding, Has}

-- which lock it is, as no other has its table, and the key that its maker named, for good
pub record Lock (K : Type 0) : Type 0 where
  pub table : TableId
  pub key : K

-- a name that stands for any table, for a key that nobody picks
abbrev pub no_table : TableId
no_table = record { words = 0; slots = 0; views_name = 0; atom = 0; block = 0; offset = 0; slot_names = [] }

module _ {S K : Type 0} where
  -- a seat of the lock that is idle
  pub record IsIdle (lock : Lock K) (seat : Seat (Option S) (View K)) : Type 0 where
    pub table : seat.table_id ≡ lock.table
    pub me : seat.me ≡ (idle lock.key, [])

  -- a seat of the lock that is holding, with the slot empty
  pub record IsHolding (lock : Lock K) (seat : Seat (Option S) (View K)) : Type 0 where
    pub table : seat.table_id ≡ lock.table
    pub me : seat.me ≡ (holding lock.key, (0, None) ∷ [])

  -- a seat of the lock that is holding, with a value that fits in the slot
  pub record HasValue (fits : K → S → Type 0) (lock : Lock K) (seat : Seat (Option S) (View K)) : Type 0 where
    pub table : seat.table_id ≡ lock.table
    pub me : Has fits lock.key seat.me
