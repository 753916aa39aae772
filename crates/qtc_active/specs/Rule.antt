-- The rule of a count's table: one word, which is how many workers are in, and no slots (own). The word and what a view
-- says of its badges change together, or not at all.
use Rattle.std.specs.Prelude.{◌≡◌, ℕ, ◌+◌, ◌-◌, ◌≤◌, Bool, true, false, List, [], ◌∷◌, ◌++◌, length, sum_by, count_by, All}
use Rattle.atomic_table.specs.Table.{State, Me}
use Rattle.qtc_active.specs.declared.rule.View.{View}

-- Views. One shape serves all: what a seat is shows in what its view has. That is, of each badge that it is or took in,
-- whether its worker is in (`are_in`); how many badges it has still to make (`unmade`); and the numbers that its own loads
-- gave, in order (`seen`). `workers` is for how many workers the count is.

-- a badge
abbrev pub badge_view : (workers : ℕ) → (is_in : Bool) → (seen : List ℕ) → View
badge_view workers is_in seen = record { workers = workers; unmade = 0; are_in = is_in ∷ []; seen = seen }

-- the maker of the badges, before it made one
abbrev pub first_view : (workers : ℕ) → View
first_view workers = record { workers = workers; unmade = workers; are_in = []; seen = [] }

-- a gatherer, before it took in a badge
abbrev pub gatherer_view : (workers : ℕ) → View
gatherer_view workers = record { workers = workers; unmade = 0; are_in = []; seen = [] }

-- a seat that was joined away
abbrev pub spent_view : View
spent_view = gatherer_view 0

-- Sums.

-- how many workers of the view's badges are in
abbrev pub inside : View → ℕ
inside view = count_by (λ is_in. is_in) view.are_in

-- how many badges it has, or has still to make
abbrev pub badges : View → ℕ
badges view = length view.are_in + view.unmade

-- What holds between any two steps: the word is how many workers are in; there is a badge for each worker, made or not;
-- and no load that a view remembers gave more than there are workers.
pub record Holds (workers count : ℕ) (views : List View) : Type 0 where
  pub in_all : sum_by inside views ≡ count
  pub one_each : sum_by badges views ≡ workers
  pub seen : All (λ view. All (λ number. number ≤ workers) view.seen) views

pub record IsKept (workers : ℕ) (s : State (Unit {0}) View) : Type 0 where
  pub count : ℕ
  pub word : s.words ≡ count ∷ []
  pub holds : Holds workers count s.views

-- What the steps make of a view.

-- the worker's badge has this to say now
abbrev pub recorded : Bool → View → View
recorded is_in view = record view { are_in = is_in ∷ [] }

-- it remembers the number that its load gave
abbrev pub remembering : ℕ → View → View
remembering number view = record view { seen = view.seen ++ number ∷ [] }

-- the maker makes a badge
abbrev pub left_to_make : View → View
left_to_make view = record view { unmade = view.unmade - 1 }

abbrev pub made : View → View
made view = badge_view view.workers false []

-- a gatherer takes in a badge
abbrev pub gathered : View → View → View
gathered view other = record view { are_in = view.are_in ++ other.are_in }

-- What the steps tell of the seat before, the number found, and the seat after.

abbrev pub Enters : Me (Unit {0}) View → ℕ → Me (Unit {0}) View → Type 0
Enters before found after = after ≡ (recorded true before.0, before.1)

abbrev pub Leaves : Me (Unit {0}) View → ℕ → Me (Unit {0}) View → Type 0
Leaves before found after = after ≡ (recorded false before.0, before.1)

-- what the owner of the view knows of the number that a load gave: it is at least as many as the view's badges that are
-- in, and leaves out those that are out
pub record Knows (view : View) (found : ℕ) : Type 0 where
  pub least : inside view ≤ found
  pub most : found + (length view.are_in - inside view) ≤ view.workers

pub record Looks (before : Me (Unit {0}) View) (found : ℕ) (after : Me (Unit {0}) View) : Type 0 where
  pub remembers : after ≡ (remembering found before.0, before.1)
  pub knows : Knows before.0 found

abbrev pub Begins : Me (Unit {0}) View → ℕ → Me (Unit {0}) View → Type 0
Begins before found after = after ≡ (gatherer_view before.0.workers, before.1)

pub record LooksWithAll (before : Me (Unit {0}) View) (found : ℕ) (after : Me (Unit {0}) View) : Type 0 where
  pub same : after ≡ before
  pub knows : Knows before.0 found
