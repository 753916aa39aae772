-- The rule of a line (own). What was put so far, in order, is what was taken so far, in order, and then what stands in the
-- line. What each place put and took are sums over all places.
use Rattle.std.specs.Prelude.{◌≡◌, ℕ, ◌+◌, ◌-◌, ◌<◌, ◌≤◌, List, [], ◌∷◌, ◌++◌, All, sum_by}
use Rattle.qtc_lock.specs.Lock.{no_table}
use Rattle.qtc_inbox.specs.declared.entry.Entry.{Entry}
use Rattle.qtc_inbox.specs.declared.rule.View.{View}
use Rattle.qtc_inbox.specs.Entries.{IsEntry}
use Rattle.qtc_inbox.specs.Parts.{LineKey, Numbered}

module _ {V : Type 0} where
  -- Views. One shape serves all: what a place has put and taken, and its parts of the right to know the whole.

  abbrev pub no_key : LineKey V
  no_key = record { counter = record { table = no_table; n = 0; workers = 0 }; table = []; parts = 1 }

  -- a place with so many parts that put and took nothing
  abbrev pub new_view : LineKey V → ℕ → View V
  new_view key parts = record { marker = record {}; key = key; parts = parts; put = []; taken = [] }

  -- the only place of a line that is for nothing yet
  abbrev pub first_view : View V
  first_view = new_view no_key 1

  -- a place that was taken in by another
  abbrev pub spent_view : View V
  spent_view = new_view no_key 0

  -- Sums.

  abbrev pub with_ticket : ℕ → Entry V → Numbered V
  with_ticket ticket entry = record { ticket = ticket; entry = entry }

  -- the entries, numbered from this number on
  abbrev pub numbered : ℕ → List (Entry V) → List (Numbered V)
  numbered from [] = []
  numbered from (entry ∷ entries) = with_ticket from entry ∷ numbered (from + 1) entries

  abbrev pub has_put : (Numbered V → ℕ) → View V → ℕ
  has_put weight view = sum_by weight view.put

  abbrev pub has_taken : (Numbered V → ℕ) → View V → ℕ
  has_taken weight view = sum_by weight view.taken

  abbrev pub parts_of : View V → ℕ
  parts_of view = view.parts

  abbrev pub Fits : LineKey V → Entry V → Type 0
  Fits key entry = IsEntry key.counter key.table entry

  -- What holds between any two steps.

  -- however numbered entries are weighed, what all places put weighs as much as what was put, each entry with its number
  -- once, and so with what they took; and all parts are somewhere
  pub record AddsUp (parts : ℕ) (pushed popped : List (Entry V)) (total : (View V → ℕ) → ℕ) : Type 0 where
    pub put : (weight : Numbered V → ℕ) → total (has_put weight) ≡ sum_by weight (numbered 0 pushed)
    pub taken : (weight : Numbered V → ℕ) → total (has_taken weight) ≡ sum_by weight (numbered 0 popped)
    pub parts_are : total parts_of ≡ parts

  -- a place with a part is at a line with this key, and one without a part put and took nothing
  pub record IsRight (key : LineKey V) (view : View V) : Type 0 where
    pub keyed : 1 ≤ view.parts → view.key ≡ key
    pub none_put : view.parts ≡ 0 → view.put ≡ []
    pub none_taken : view.parts ≡ 0 → view.taken ≡ []

  pub record Holds (key : LineKey V) (pushed popped items : List (Entry V)) (views : List (View V)) : Type 0 where
    pub order : pushed ≡ popped ++ items
    pub fits : All (Fits key) pushed
    pub right : All (IsRight key) views
    pub sums : AddsUp key.parts pushed popped (λ measure. sum_by measure views)

  pub record IsKept (items : List (Entry V)) (views : List (View V)) : Type 0 where
    pub key : LineKey V
    pub pushed : List (Entry V)
    pub popped : List (Entry V)
    pub holds : Holds key pushed popped items views

  -- What a place's owner knows of what the line holds at one moment.

  -- with every part: what it put is all that was put, with the numbers in order, and what it took is all that was taken;
  -- and that, followed by what the line holds, is what was put
  pub record KnowsAll (view : View V) (items : List (Entry V)) : Type 0 where
    pub pushed : List (Entry V)
    pub popped : List (Entry V)
    pub order : pushed ≡ popped ++ items
    pub put : (weight : Numbered V → ℕ) → sum_by weight view.put ≡ sum_by weight (numbered 0 pushed)
    pub taken : (weight : Numbered V → ℕ) → sum_by weight view.taken ≡ sum_by weight (numbered 0 popped)

  pub record Knows (view : View V) (items : List (Entry V)) : Type 0 where
    pub fits : All (Fits view.key) items
    pub all : view.parts ≡ view.key.parts → KnowsAll view items

  -- What the steps make of a view, and what they tell.

  -- it has every part of a line with this key
  abbrev pub opened : LineKey V → View V
  opened key = new_view key key.parts

  abbrev pub one_part_less : View V → View V
  one_part_less view = record view { parts = view.parts - 1 }

  abbrev pub one_part : View V → View V
  one_part view = new_view view.key 1

  abbrev pub absorbed : View V → View V → View V
  absorbed view other = record view {
    parts = view.parts + other.parts;
    put = view.put ++ other.put;
    taken = view.taken ++ other.taken;
  }

  abbrev pub Below : ℕ → List (Numbered V) → Type 0
  Below ticket earlier = All (λ one. one.ticket < ticket) earlier

  -- an entry went to the back: it has a number above those of all that this place put before
  pub record Puts (before : View V) (entry : Entry V) (after : View V) : Type 0 where
    pub ticket : ℕ
    pub last : Below ticket before.put
    pub is : after ≡ record before { put = before.put ++ with_ticket ticket entry ∷ [] }

  -- an entry came from the front: it has a number above those of all that this place took before, and it fits
  pub record Takes (before : View V) (entry : Entry V) (after : View V) : Type 0 where
    pub ticket : ℕ
    pub last : Below ticket before.taken
    pub fits : Fits before.key entry
    pub is : after ≡ record before { taken = before.taken ++ with_ticket ticket entry ∷ [] }
