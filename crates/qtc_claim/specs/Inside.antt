-- What the fields of a counter, a seat, a piece and a tally mean (own).
use Rattle.std.specs.Prelude.{◌≡◌, ℕ, ◌+◌, ◌^◌, ◌≤◌, ◌<◌, List, [], ◌∷◌, map, length, cond, nat_lt, slice_index_or, sum_by, All, Option, None, is_some}
use Rattle.qtc_base.specs.Ranges.{Tiles}
use Rattle.qtc_claim.specs.declared.counter.Counter.TheInside as counter
use Rattle.qtc_claim.specs.declared.seat.Seat.TheInside as seat
use Rattle.qtc_claim.specs.declared.piece.Piece.TheInside as piece
use Rattle.qtc_claim.specs.declared.receipt.Receipt.TheInside as receipt
use Rattle.qtc_claim.specs.declared.token.Token.TheInside as token
use Rattle.qtc_claim.specs.declared.tally.Tally.TheInside as tally
use Rattle.atomic_table.specs.declared.shared.Seat as table
use Rattle.qtc_claim.specs.declared.rule.View.{View}
use Rattle.qtc_claim.specs.Claims.{IsWithinLimits, Addition, addition_at, after_load, after_addition, Worker, new_worker, added, added_past, claims_of, clipped, Loan, Book}
use Rattle.qtc_claim.specs.Rule.{worker_view, piece_view, receipt_view, token_view, marked, tallies}
use Rattle.qtc_claim.specs.Counter.{CounterId, SeatState, PieceState, ReceiptState, TokenState, TallyState, Sees, IsGathered, HasAll, IsEnd, IsSettled, KnowsClaims, added_by}

abbrev pub counter_id : counter.Inside → CounterId
counter_id a = record { table = a.table.shared.table_id; n = a.limits.n; workers = a.limits.workers }

pub record IsCounter (a : counter.Inside) : Type 0 where
  pub key : a.table.shared.key ≡ a.limits
  pub words : a.table.shared.table_id.words ≡ 1
  pub limits : IsWithinLimits a.limits.n a.limits.workers

-- the counter that a seat of its table belongs to, by what its view says
abbrev pub of_seat : table.Seat (Unit {0}) View → CounterId
of_seat seat = record { table = seat.table_id; n = seat.me.0.n; workers = seat.me.0.most }

-- the one worker of a worker's view
abbrev pub worker_of : View → Worker
worker_of view = slice_index_or view.workers 0 (new_worker 0)

abbrev pub seat_of : table.Seat (Unit {0}) View → SeatState
seat_of seat = record { of = of_seat seat; worker = worker_of seat.me.0 }

abbrev pub seat_state : seat.Inside → SeatState
seat_state a = seat_of a.seat

-- the range in hand after an addition
abbrev pub in_hand : ℕ → Addition → List Addition
in_hand n addition = cond (nat_lt addition.begin n) (addition ∷ []) []

-- a seat of the counter that is this worker's, with a range in hand or none
pub record IsWorker (counter : CounterId) (worker : Worker) (held : List Addition)
    (seat : table.Seat (Unit {0}) View) : Type 0 where
  pub at : seat.table_id ≡ counter.table
  pub me : seat.me ≡ (worker_view counter.n counter.workers worker held, [])

-- the worker of the seat loaded the counter, which was `count`
pub record HasLoaded (counter : CounterId) (count : ℕ) (before after : table.Seat (Unit {0}) View) : Type 0 where
  pub worker : IsWorker counter (after_load count (worker_of before.me.0)) [] after
  pub sees : Sees counter (worker_of before.me.0) (after_load count (worker_of before.me.0))

-- the worker of the seat made the addition
pub record HasAdded (counter : CounterId) (addition : Addition)
    (before after : table.Seat (Unit {0}) View) : Type 0 where
  pub worker : IsWorker counter (after_addition addition (worker_of before.me.0)) (in_hand counter.n addition) after
  pub later : (worker_of before.me.0).seen ≤ addition.begin
  pub sees : Sees counter (worker_of before.me.0) (after_addition addition (worker_of before.me.0))

-- a worker's seat, with nothing in hand
pub record IsSeat (a : seat.Inside) : Type 0 where
  pub me : a.seat.me ≡ (worker_view a.seat.me.0.n a.seat.me.0.most (worker_of a.seat.me.0) [], [])
  pub claimed : a.claimed ≡ added (worker_of a.seat.me.0).claims
  pub blank : a.blank ≡ added_past a.seat.me.0.n (worker_of a.seat.me.0).claims

-- the one range of a piece's view
abbrev pub addition_of : View → Addition
addition_of view = slice_index_or view.held 0 (addition_at 0 0)

abbrev pub piece_state : piece.Inside → PieceState
piece_state a = record {
  of = of_seat a.seat;
  addition = addition_of a.seat.me.0;
}

pub record IsPiece (a : piece.Inside) : Type 0 where
  pub me : a.seat.me ≡ (piece_view a.seat.me.0.n a.seat.me.0.most (addition_of a.seat.me.0 ∷ []), [])
  pub range : (a.range.begin, a.range.end) ≡ clipped a.seat.me.0.n (addition_of a.seat.me.0)
  pub size : a.size ≡ (addition_of a.seat.me.0).size

-- the one addition of a receipt's view
abbrev pub receipted_of : View → Addition
receipted_of view = slice_index_or view.receipts 0 (addition_at 0 0)

abbrev pub receipt_state : receipt.Inside → ReceiptState
receipt_state a = record { of = of_seat a.seat; addition = receipted_of a.seat.me.0 }

pub record IsReceipt (a : receipt.Inside) : Type 0 where
  pub me : a.seat.me ≡ (receipt_view a.seat.me.0.n a.seat.me.0.most (receipted_of a.seat.me.0 ∷ []), [])

-- what a token's view is lent for
abbrev pub loan_of : View → Loan
loan_of view = slice_index_or view.tokens 0 (record { note = []; due = addition_at 0 0 })

abbrev pub token_state : token.Inside → TokenState
token_state a = record { of = of_seat a.seat; loan = loan_of a.seat.me.0 }

pub record IsToken (a : token.Inside) : Type 0 where
  pub me : a.seat.me ≡ (token_view a.seat.me.0.n a.seat.me.0.most (loan_of a.seat.me.0 ∷ []), [])

-- what the first book lent the token for
abbrev pub lent_in : List Book → Option Loan
lent_in [] = None
lent_in (book ∷ _) = book.lent

abbrev pub tally_state : tally.Inside → TallyState
tally_state a = record {
  of = of_seat a.seat;
  pieces = a.seat.me.0.held;
  workers = a.seat.me.0.workers;
  kept = a.seat.me.0.receipts;
  lent = lent_in a.seat.me.0.books;
}

-- a tally whose workers are all made, and which gave a receipt of each piece
pub record IsTally (a : tally.Inside) : Type 0 where
  pub slots : a.seat.me.1 ≡ []
  pub made : a.seat.me.0.unmade ≡ 0
  pub gathered : a.gathered ≡ added a.seat.me.0.held
  pub blank : a.blank ≡ added_past a.seat.me.0.n (claims_of a.seat.me.0.workers)
  pub seats : a.seats ≡ length a.seat.me.0.workers
  pub one : tallies a.seat.me.0 ≡ 1
  pub marked : (weight : Addition → ℕ) → marked weight a.seat.me.0 ≡ sum_by weight a.seat.me.0.held
  pub lent : a.is_lent ≡ is_some (lent_in a.seat.me.0.books)

-- what a tally's seat has, once it found the counter at `count`
abbrev pub tally_of : CounterId → table.Seat (Unit {0}) View → TallyState
tally_of counter seat = record {
  of = counter;
  pieces = seat.me.0.held;
  workers = seat.me.0.workers;
  kept = seat.me.0.receipts;
  lent = lent_in seat.me.0.books;
}

pub record HasRead (counter : CounterId) (count : ℕ) (tally : TallyState) : Type 0 where
  pub limits : IsWithinLimits counter.n counter.workers
  pub gathered : IsGathered counter tally
  pub fits : count < 2 ^ 64
  pub sizes : added tally.pieces + added_past counter.n (claims_of tally.workers) ≤ count
  pub all : HasAll tally → added_by tally.workers ≡ count
  pub claims : HasAll tally → KnowsClaims tally
  pub pieces : IsEnd tally → Tiles (map (clipped counter.n) tally.pieces) counter.n

-- where all seats are gathered and settled, the tally is at its end, and keeps no receipt
pub record HasSettled (tally : TallyState) : Type 0 where
  pub end : IsSettled tally → IsEnd tally
  pub kept : IsSettled tally → tally.kept ≡ []
