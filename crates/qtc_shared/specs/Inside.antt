-- What the fields of a pass and of the flag word mean, and what a book is while a pass is lent to it. (Own.)
use Rattle.std.specs.Prelude.{◌≡◌, ℕ, List, [], ◌∷◌}
use Rattle.atomic_table.specs.declared.shared.Seat as table
use Rattle.qtc_future.specs.Future.{Future, Logged}
use Rattle.qtc_shared.specs.Parts.{PassPart, BookPart, future_at}
use Rattle.qtc_shared.specs.Passes.{FutureId, PassState}
use Rattle.qtc_shared.specs.Rule.{view_with, terms_of, first_pass, journal_in, learned}
use Rattle.qtc_shared.specs.declared.flag_word.FlagWord.TheInside as word
use Rattle.qtc_shared.specs.declared.pass.Pass.TheInside as pass
use Rattle.qtc_shared.specs.declared.guarded.Guarded.{Guarded}
use Rattle.qtc_shared.specs.declared.guarded.FutureKey.{FutureKey}
use Rattle.qtc_shared.specs.declared.rule.View.{View}

abbrev pub word_state : {V : Type 0} → word.Inside V → FutureId
word_state a = record { table = a.table.shared.table_id; terms = terms_of a.table.shared.key }

abbrev pub IsWord : {V : Type 0} → word.Inside V → Type 0
IsWord a = a.table.shared.table_id.words ≡ 1

module _ {V : Type 0} where
  -- the future that a seat of its table belongs to, by what its view says
  abbrev pub of_seat : table.Seat (Unit {0}) (View V) → FutureId
  of_seat seat = record { table = seat.table_id; terms = seat.me.0.terms }

  -- the one pass of a pass's view
  abbrev pub pass_in : List (PassPart V) → PassPart V
  pass_in [] = first_pass []
  pass_in (pass ∷ passes) = pass

  abbrev pub state_of : FutureId → PassPart V → PassState V
  state_of of pass = record {
    of = of;
    number = pass.number;
    known = pass.known;
    seen = pass.seen;
    looks = pass.looks;
    children = pass.children;
  }

abbrev pub pass_state : {V : Type 0} → pass.Inside V → PassState V
pass_state a = state_of (of_seat a.seat) (pass_in a.seat.me.0.passes)

-- a seat of the future that has just this pass
pub record IsPassSeat {V : Type 0} (of : FutureId) (pass : PassPart V)
    (seat : table.Seat (Unit {0}) (View V)) : Type 0 where
  pub at : seat.table_id ≡ of.table
  pub me : seat.me ≡ (view_with of.terms (pass ∷ []) [], [])

pub record IsPass {V : Type 0} (a : pass.Inside V) : Type 0 where
  pub seat : IsPassSeat (of_seat a.seat) (pass_in a.seat.me.0.passes) a.seat
  pub number : a.number ≡ (pass_in a.seat.me.0.passes).number

module _ {V : Type 0} where
  abbrev pub book_with : List (Logged V) → ℕ → BookPart V
  book_with journal made = record { journal = journal; made = made }

-- the core stands at a journal of the future
abbrev pub IsCoreOf : {V : Type 0} → FutureId → Future V → Type 0
IsCoreOf of core = core ≡ future_at of.terms core.calls

-- a book of the future, with its seat: no pass is lent to it
pub record IsBookOf {V : Type 0} (of : FutureId) (book : Guarded V) : Type 0 where
  pub at : book.seat.table_id ≡ of.table
  pub me : book.seat.me ≡ (view_with of.terms [] (book_with book.core.value.calls book.made.count ∷ []), [])
  pub core : IsCoreOf of book.core.value

abbrev pub fits_key : {V : Type 0} → FutureKey → Guarded V → Type 0
fits_key place book = IsBookOf (record { table = place.table; terms = place.terms }) book

-- a seat that has this pass, which learned this journal, and the book, which has it
pub record IsLentSeat {V : Type 0} (of : FutureId) (pass : PassPart V) (made : ℕ) (journal : List (Logged V))
    (seat : table.Seat (Unit {0}) (View V)) : Type 0 where
  pub at : seat.table_id ≡ of.table
  pub me : seat.me ≡ (view_with of.terms (learned journal pass ∷ []) (book_with journal made ∷ []), [])

module _ {V : Type 0} where
  -- the one pass of a seat, and its number
  abbrev pub pass_at_seat : table.Seat (Unit {0}) (View V) → PassPart V
  pass_at_seat seat = pass_in seat.me.0.passes

  abbrev pub number_in : table.Seat (Unit {0}) (View V) → ℕ
  number_in seat = (pass_at_seat seat).number

  abbrev pub journal_of : table.Seat (Unit {0}) (View V) → List (Logged V)
  journal_of seat = journal_in seat.me.0.books
