-- The rule of a shared future's table: one word, the flags, and no slots. (Own.)
use Rattle.std.specs.Prelude.{◌≡◌, ℕ, ◌+◌, ◌<◌, ◌≤◌, ◌==◌, cond, nat_lt, false, List, [], ◌∷◌, ◌++◌, map, length, sum_by, count_by, All}
use Rattle.atomic_table.specs.Table.{State}
use Rattle.qtc_base.specs.Ranges.{in_range}
use Rattle.qtc_events.specs.Flags.{Standing, flags_in}
use Rattle.qtc_future.specs.Future.{Logged}
use Rattle.qtc_shared.specs.Journals.{IsJournal, Saw, Shows, calls_by}
use Rattle.qtc_base.specs.Limits.{most_passes}
use Rattle.qtc_shared.specs.Parts.{Terms, PassPart, BookPart}
use Rattle.qtc_shared.specs.declared.rule.View.{View}
use Rattle.qtc_shared.specs.declared.rule.Opening.{Opening}

abbrev pub no_terms : Terms
no_terms = record { filter = false; thresholds = record { cancel_after = 0; suspend_after = 0 }; makers = 0 }

-- Views. One shape serves all: a seat is the passes and the books that its view has. Splitting takes these apart, and
-- joining puts them together. While a pass is lent to the book, one seat has both.

module _ {V : Type 0} where
  abbrev pub view_with : Terms → List (PassPart V) → List (BookPart V) → View V
  view_with terms passes books = record { marker = record {}; terms = terms; passes = passes; books = books }

  -- what is left of a seat that was joined away, on no future's terms
  abbrev pub nothing : Terms → View V
  nothing terms = view_with terms [] []

-- What holds between any two steps.

-- a pass fits the journal: it begins with all that the pass knows, what the pass saw since stood on the way to it, and
-- the pass knows each call of its own number in it
pub record Fits {V : Type 0} (journal : List (Logged V)) (pass : PassPart V) : Type 0 where
  pub saw : Saw pass.known journal pass.seen
  pub own : calls_by pass.number journal ≡ calls_by pass.number pass.known

-- the book has the journal, and each call in it is of a pass that was made
pub record IsBook {V : Type 0} (journal : List (Logged V)) (book : BookPart V) : Type 0 where
  pub same : book.journal ≡ journal
  pub few : book.made ≤ most_passes
  pub callers : All (λ logged. logged.entry.caller < book.made) journal

pub record IsRight {V : Type 0} (journal : List (Logged V)) (view : View V) : Type 0 where
  pub passes : All (Fits journal) view.passes
  pub books : All (IsBook journal) view.books

module _ {V : Type 0} where
  -- how often the book has the number, as one that no pass was given yet
  abbrev pub kept_in : ℕ → BookPart V → ℕ
  kept_in number book = cond (in_range number (book.made, most_passes)) 1 0

  -- how often the view has it, as that of a pass or in the book
  abbrev pub numbered : ℕ → View V → ℕ
  numbered number view =
      count_by (λ pass. pass.number == number) view.passes + sum_by (kept_in number) view.books

  abbrev pub book_count : View V → ℕ
  book_count view = length view.books

-- what all views have together: each number once, and one book
pub record AddsUp {V : Type 0} (total : (View V → ℕ) → ℕ) : Type 0 where
  pub numbers : (number : ℕ) → total (numbered number) ≡ cond (nat_lt number most_passes) 1 0
  pub book : total book_count ≡ 1

pub record Holds {V : Type 0} (terms : Terms) (journal : List (Logged V)) (views : List (View V)) : Type 0 where
  pub lawful : IsJournal terms journal
  pub right : All (IsRight journal) views
  pub sums : AddsUp (λ measure. sum_by measure views)

abbrev pub terms_of : {V : Type 0} → Opening V → Terms
terms_of key = record { filter = key.core.filter; thresholds = key.core.thresholds; makers = key.makers }

-- there is one journal, and the word shows its flags
pub record IsKept {V : Type 0} (key : Opening V) (s : State (Unit {0}) (View V)) : Type 0 where
  pub journal : List (Logged V)
  pub word : ℕ
  pub words : s.words ≡ word ∷ []
  pub shows : Shows journal word
  pub holds : Holds (terms_of key) journal s.views

-- what a seat's owner knows where it found this word
pub record Knows {V : Type 0} (view : View V) (word : ℕ) : Type 0 where
  pub journal : List (Logged V)
  pub shows : Shows journal word
  pub lawful : IsJournal view.terms journal
  pub right : IsRight journal view
  pub numbers : (number : ℕ) → numbered number view ≤ cond (nat_lt number most_passes) 1 0

-- What the steps make of a view.

module _ {V : Type 0} where
  -- at the beginning the first pass is lent to the book
  abbrev pub first_pass : List (Logged V) → PassPart V
  first_pass journal = record { number = 0; known = journal; seen = []; looks = []; children = 0 }

  abbrev pub first_book : List (Logged V) → BookPart V
  first_book journal = record { journal = journal; made = 1 }

  abbrev pub first_view : Opening V → View V
  first_view key = view_with (terms_of key) (first_pass key.core.calls ∷ []) (first_book key.core.calls ∷ [])

  -- a pass sees the flags
  abbrev pub saw_flags : Standing → PassPart V → PassPart V
  saw_flags flags pass = record pass { seen = pass.seen ++ flags ∷ []; looks = pass.looks ++ flags ∷ [] }

  abbrev pub looked : Standing → View V → View V
  looked flags view = record view { passes = map (saw_flags flags) view.passes }

  -- a pass comes to know the journal
  abbrev pub learned : List (Logged V) → PassPart V → PassPart V
  learned journal pass = record pass { known = journal; seen = [] }

  abbrev pub journal_in : List (BookPart V) → List (Logged V)
  journal_in [] = []
  journal_in (book ∷ books) = book.journal

  -- the passes that are lent to the book learn its journal
  abbrev pub shown : View V → View V
  shown view = record view { passes = map (learned (journal_in view.books)) view.passes }

  abbrev pub rewritten : List (Logged V) → BookPart V → BookPart V
  rewritten journal book = record book { journal = journal }

  -- the journal becomes this one, which the passes that are lent know
  abbrev pub entered : List (Logged V) → View V → View V
  entered journal view = record view {
    passes = map (learned journal) view.passes;
    books = map (rewritten journal) view.books;
  }

  -- a pass and the book become one seat
  abbrev pub lent : View V → View V → View V
  lent view other = record view { passes = view.passes ++ other.passes; books = view.books ++ other.books }

  -- and two again
  abbrev pub pass_only : View V → View V
  pass_only view = record view { books = [] }

  abbrev pub book_only : View V → View V
  book_only view = record view { passes = [] }

  -- the book makes a pass with the next number, which knows the journal: a child of the pass that is lent
  abbrev pub one_more : BookPart V → BookPart V
  one_more book = record book { made = book.made + 1 }

  abbrev pub with_child : PassPart V → PassPart V
  with_child pass = record pass { children = pass.children + 1 }

  abbrev pub counted_on : View V → View V
  counted_on view = record view { passes = map with_child view.passes; books = map one_more view.books }

  abbrev pub made_pass : BookPart V → PassPart V
  made_pass book = record { number = book.made; known = book.journal; seen = []; looks = []; children = 0 }

  abbrev pub made_from : View V → View V
  made_from view = record view { passes = map made_pass view.books; books = [] }

-- What the steps on the word tell.

module _ {V : Type 0} where
  -- a load by a pass
  abbrev pub Looks : View V → ℕ → View V → Type 0
  Looks before found after = (after ≡ looked (flags_in found) before) × Knows after found

  -- a load by the book, with a pass that is lent or without one
  abbrev pub Meets : View V → ℕ → View V → Type 0
  Meets before found after = (after ≡ shown before) × Knows before found

  -- a store by the book and the pass that is lent
  abbrev pub Enters : List (Logged V) → View V → View V → Type 0
  Enters journal before after = after ≡ entered journal before
