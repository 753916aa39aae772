-- What contracts see of a counter, a seat, a piece and a tally, and what the calls answer (own).
use Rattle.std.specs.Prelude.{◌≡◌, ℕ, ◌+◌, ◌*◌, ◌<◌, ◌≤◌, ◌⊎◌, cond, nat_lt, List, [], Option, Some, None, map, length, slice_get, All, Contains, sum_by}
use Rattle.atomic_table.specs.Seated.{TableId}
use Rattle.qtc_base.specs.Ranges.{Tiles}
use Rattle.qtc_claim.specs.Claims.{Addition, Worker, new_worker, after_load, after_addition, added, added_past, times_numbered, claims_of, settled_of, clipped, gave, AreParts, MeetNowhere, Loan}
use Rattle.qtc_base.specs.Limits.{most_block}

-- which counter it is, as no other has its table; how many indexes it counts, and for how many workers
pub record CounterId : Type 0 where
  pub table : TableId
  pub n : ℕ
  pub workers : ℕ

-- a seat of the counter, and the worker that has it
pub record SeatState : Type 0 where
  pub of : CounterId
  pub worker : Worker

-- a piece of the counter, and the addition that gave it
pub record PieceState : Type 0 where
  pub of : CounterId
  pub addition : Addition

-- a receipt of the counter, and the addition of its piece
pub record ReceiptState : Type 0 where
  pub of : CounterId
  pub addition : Addition

-- the token of the counter, and what it is lent for
pub record TokenState : Type 0 where
  pub of : CounterId
  pub loan : Loan

-- the tally of the counter: the pieces and the workers that it gathered, in order; the receipts that it keeps; and what
-- the token is lent for, while it is out
pub record TallyState : Type 0 where
  pub of : CounterId
  pub pieces : List Addition
  pub workers : List Worker
  pub kept : List Addition
  pub lent : Option Loan

-- nothing was gathered, and the token is home
abbrev pub new_tally : CounterId → TallyState
new_tally counter = record { of = counter; pieces = []; workers = []; kept = []; lent = None }

-- the counter is for so much; there is a seat for each worker, with the numbers from 0 on; nothing was claimed or
-- gathered
pub record IsNew (n workers : ℕ) (counter : CounterId) (seats : List SeatState) (tally : TallyState) : Type 0 where
  pub indexes : counter.n ≡ n
  pub for_workers : counter.workers ≡ workers
  pub count : length seats ≡ workers
  pub each : (i : ℕ) → i < workers → slice_get seats i ≡ Some (record { of = counter; worker = new_worker i })
  pub nothing : tally ≡ new_tally counter

-- what a worker knows of the counter as it saw it last: it never goes back, it passes n by at most so much for each
-- worker, all that the worker added is in it, and what the worker claimed meets nowhere
pub record Sees (counter : CounterId) (before after : Worker) : Type 0 where
  pub later : before.seen ≤ after.seen
  pub bound : after.seen ≤ counter.n + most_block * counter.workers
  pub added : added after.claims ≤ after.seen
  pub apart : MeetNowhere counter.n after.claims

-- the worker loaded the counter, and then added `size` to it
pub record LoadsAndAdds (size : ℕ) (before : Worker) (addition : Addition) (after : Worker) : Type 0 where
  pub sized : addition.size ≡ size
  pub later : before.seen ≤ addition.begin
  pub grown : after ≡ after_addition addition (after_load before.seen before)

-- a claim that gave a piece: the addition began below n
pub record ClaimsPiece (counter : CounterId) (size : ℕ) (before after : Worker) (piece : PieceState) : Type 0 where
  pub of : piece.of ≡ counter
  pub below : piece.addition.begin < counter.n
  pub adds : LoadsAndAdds size before piece.addition after

-- a claim that gave none: the load gave n or more, or the addition began there
abbrev pub ClaimsNone : (n size : ℕ) → (before after : Worker) → Type 0
ClaimsNone n size before after =
    ((n ≤ after.seen) × (after ≡ after_load after.seen before))
    ⊎ ((addition : Addition) × (n ≤ addition.begin) × LoadsAndAdds size before addition after)

-- what the tally's owner knows of what it gathered: the pieces meet nowhere, nor do the claims of the workers, whose
-- numbers differ and are below the number of workers
pub record IsGathered (counter : CounterId) (tally : TallyState) : Type 0 where
  pub pieces : MeetNowhere counter.n tally.pieces
  pub claims : MeetNowhere counter.n (claims_of tally.workers)
  pub numbers : (number : ℕ) → times_numbered number tally.workers ≤ cond (nat_lt number counter.workers) 1 0
  pub count : length tally.workers ≤ counter.workers

-- all seats are gathered
abbrev pub HasAll : TallyState → Type 0
HasAll tally = length tally.workers ≡ tally.of.workers

-- what all workers added together: where all seats are gathered, the counter
abbrev pub added_by : List Worker → ℕ
added_by workers = added (claims_of workers)

-- all seats are gathered; what the gathered pieces and the additions without a piece added is all that was added; and
-- that is n or more
pub record IsEnd (tally : TallyState) : Type 0 where
  pub all : HasAll tally
  pub nothing_out : added tally.pieces + added_past tally.of.n (claims_of tally.workers) ≡ added_by tally.workers
  pub past : tally.of.n ≤ added_by tally.workers

-- what follows where all seats are gathered: no worker saw more than was added; where that is n or more, what they
-- claimed below n tiles 0 to n; the gathered pieces, with others that are out, are the claims that gave one; and each
-- number below the number of workers is that of one of them
pub record KnowsClaims (tally : TallyState) : Type 0 where
  pub seen : All (λ worker. worker.seen ≤ added_by tally.workers) tally.workers
  pub tiles : tally.of.n ≤ added_by tally.workers
      → Tiles (map (clipped tally.of.n) (claims_of tally.workers)) tally.of.n
  pub pieces : (out : List Addition) × AreParts tally.pieces out (gave tally.of.n (claims_of tally.workers))
  pub numbers : (number : ℕ) → number < tally.of.workers → times_numbered number tally.workers ≡ 1

-- one of the workers saw n or more
abbrev pub SawAll : ℕ → List Worker → Type 0
SawAll n workers = (worker : Worker) × Contains workers worker × (n ≤ worker.seen)

-- all seats are gathered; what their workers settled is, each once, what they claimed with a piece; and one of them saw
-- n or more
pub record IsSettled (tally : TallyState) : Type 0 where
  pub all : HasAll tally
  pub each : (weight : Addition → ℕ) → sum_by weight (settled_of tally.workers) ≡ sum_by weight (gave tally.of.n (claims_of tally.workers))
  pub saw : SawAll tally.of.n tally.workers
