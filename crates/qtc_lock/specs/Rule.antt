-- The rule of a lock over one word and one slot (own). The word says whether the value is out, and a seat's view
-- whether the seat has it.
use Rattle.std.specs.Prelude.{◌≡◌, ◌≢◌, ℕ, ◌⊎◌, true, false, List, [], ◌∷◌, Option, Some, All, count_by}
use mathlib.Core.Option.{none, some}
use Rattle.atomic_table.specs.Table.{State, Me}
use Rattle.qtc_lock.specs.declared.rule.View.{View}

module _ {K : Type 0} where
  abbrev pub idle : K → View K
  idle key = record { marker = record {}; key = key; holding = false }

  abbrev pub holding : K → View K
  holding key = record { marker = record {}; key = key; holding = true }

  abbrev pub HasKey : K → View K → Type 0
  HasKey key view = view.key ≡ key

  -- how many views are holding
  abbrev pub holders : List (View K) → ℕ
  holders views = count_by (λ (view : View K). view.holding) views

-- the value is out, and just one view is holding
pub record IsTaken {S K : Type 0} (s : State (Option S) (View K)) : Type 0 where
  pub word : s.words ≡ 1 ∷ []
  pub out : s.homes ≡ none ∷ []
  pub one : holders s.views ≡ 1

module _ {S K : Type 0} (fits : K → S → Type 0) where
  -- the value is home and fits the key, and no view is holding
  pub record IsFree (key : K) (s : State (Option S) (View K)) : Type 0 where
    pub word : s.words ≡ 0 ∷ []
    pub home : (value : S) × (s.homes ≡ some (Some value) ∷ []) × fits key value
    pub nobody : holders s.views ≡ 0

  -- every view has the key, and the lock is free, or its value is out
  pub record IsKept (key : K) (s : State (Option S) (View K)) : Type 0 where
    pub keyed : All (HasKey key) s.views
    pub either : IsFree key s ⊎ IsTaken s

  -- the seat is holding, and has a value that fits the key
  pub record Has (key : K) (m : Me (Option S) (View K)) : Type 0 where
    pub view : m.0 ≡ holding key
    pub value : (value : S) × (m.1 ≡ (0, Some value) ∷ []) × fits key value

  -- where the word was 0 the seat has the value, else it is as before
  abbrev pub Tries : Me (Option S) (View K) → ℕ → Me (Option S) (View K) → Type 0
  Tries before found after = (found ≡ 0 → Has before.0.key after) × (found ≢ 0 → after ≡ before)

module _ {S K : Type 0} where
  -- the seat is idle, and its slot is home
  abbrev pub Puts : Me (Option S) (View K) → ℕ → Me (Option S) (View K) → Type 0
  Puts before stored after = after ≡ (idle before.0.key, [])
