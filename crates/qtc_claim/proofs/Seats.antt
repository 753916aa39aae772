-- What the views of seats say to those who have them.
use Rattle.std.proofs.Common.{◌≡◌, ℕ, ◌+◌, ◌*◌, ◌^◌, ◌<◌, ◌≤◌, ◌==◌, cond, nat_lt, List, [], ◌∷◌, ◌++◌, length, map, sym, ap, ◌∙◌, subst, arith, sum_by, count_by, slice_get, Some, All}
use Rattle.std.proofs.lemmas.Bool.Decides.{nat_tests}
use Rattle.std.proofs.lemmas.List.Sums.{sum_by_push, sum_by-le-sum_by}
use Rattle.std.proofs.lemmas.List.Elements.{All-head, All-contains}
use Rattle.qtc_base.specs.Ranges.{Tiles}
use Rattle.atomic_table.specs.Seated.{TableId}
use Rattle.qtc_claim.specs.declared.rule.View.{View}
use Rattle.qtc_claim.specs.Claims.{IsWithinLimits, Addition, addition_at, Worker, new_worker, added, added_past, claims_of, settled_of, clipped, gave, times_numbered, MeetNowhere, after_load, after_addition}
use Rattle.qtc_base.specs.Limits.{most_items, most_workers, most_block}
use Rattle.qtc_claim.specs.Rule.{worker_view, covers, covering, blank, claimed, kept, tallies, KnowsAll, Knows, looked, grown, made, Looks, Grows}
use Rattle.qtc_claim.specs.Counter.{CounterId, SeatState, PieceState, TallyState, Sees, ClaimsPiece, IsGathered, HasAll, IsEnd, IsSettled, KnowsClaims, added_by}
use Rattle.atomic_table.specs.declared.shared.Seat.{Seat}
use Rattle.qtc_claim.specs.declared.counter.Counter.TheInside.{Inside}
use Rattle.qtc_claim.specs.Inside.{counter_id, IsCounter, IsWorker, worker_of, seat_of, in_hand, of_seat, tally_of, lent_in, HasRead, HasSettled}
use Rattle.qtc_claim.proofs.Sums.{pushed_each, of_claims, apart_from, tiles_from, covers_below, covers_none, covers_upto, blank_below, gave_and_blank, sum_by_none}
use Rattle.qtc_claim.proofs.Books.{of_settled, weighs_nothing}

pub in_word : (count n workers : ℕ) → n ≤ most_items → workers ≤ most_workers → count ≤ n + most_block * workers → count < 2 ^ 64
in_word count n workers a b bound = omega arith

-- what a worker's view says of its worker
pub sees_from : (counter : CounterId) (before after : Worker) (held : List Addition) (count : ℕ) → before.seen ≤ count → count ≤ after.seen → after.seen ≤ count
    → Knows (worker_view counter.n counter.workers after held) count → Sees counter before after
sees_from counter before after held count later at at' knows = record {
  later = omega arith;
  bound = let bound = knows.bound in omega arith;
  added = let sizes = knows.sizes in omega arith;
  apart = apart_from counter.n after.claims (λ number. let apart = knows.apart number in omega arith);
}

first_seen : (count : ℕ) (worker : Worker) (workers : List Worker) → workers ≡ worker ∷ [] → All (λ (it : Worker). it.seen ≤ count) workers → worker.seen ≤ count
first_seen count worker workers one all = All-head (λ (it : Worker). it.seen ≤ count) worker [] (subst (λ ws. All (λ (it : Worker). it.seen ≤ count) ws) one all)

pub grow_later : (counter : CounterId) (worker : Worker) (size count : ℕ) (before after : View) → before ≡ worker_view counter.n counter.workers worker [] → Grows size before count after → worker.seen ≤ count
grow_later counter worker size count before after is told = first_seen count worker before.workers (ap (λ (v : View). v.workers) is) told.1

-- after a load, and after an addition
pub look_sees : (counter : CounterId) (worker : Worker) (held : List Addition) (count : ℕ) (before after : View) → before ≡ worker_view counter.n counter.workers worker held
    → Looks before count after → Sees counter worker (after_load count worker)
look_sees counter worker held count before after is told =
    let after_is : after ≡ worker_view counter.n counter.workers (after_load count worker) held = told.0 ∙ ap (looked count) is in
    sees_from counter worker (after_load count worker) held count
    (first_seen count worker before.workers (ap (λ (v : View). v.workers) is) told.1)
    (omega arith)
    (omega arith)
    (subst (λ v. Knows v count) after_is told.2)

pub grow_sees : (counter : CounterId) (worker : Worker) (size count : ℕ) (before after : View) → before ≡ worker_view counter.n counter.workers worker []
    → Grows size before count after → Sees counter worker (after_addition (addition_at count size) worker)
grow_sees counter worker size count before after is told =
    let held = in_hand counter.n (addition_at count size) in
    let after_is : after ≡ worker_view counter.n counter.workers (after_addition (addition_at count size) worker) held = told.0 ∙ ap (grown count size) is in
    let seen = first_seen count worker before.workers (ap (λ (v : View). v.workers) is) told.1 in
    sees_from counter worker (after_addition (addition_at count size) worker) held (count + size)
    (omega arith)
    (omega arith)
    (omega arith)
    (subst (λ v. Knows v (count + size)) after_is told.2)

-- a worker's seat, at the counter's table and under its key
pub record IsAtKey (a : Inside) (worker : Worker) (held : List Addition) (seat : Seat (Unit {0}) View) : Type 0 where
  pub at : seat.table_id ≡ a.table.shared.table_id
  pub word : 0 < a.table.shared.table_id.words
  pub me : seat.me ≡ (worker_view a.table.shared.key.n a.table.shared.key.workers worker held, [])

pub at_key : (a : Inside) (counter : CounterId) (worker : Worker) (held : List Addition) (seat : Seat (Unit {0}) View)
    → IsCounter a → counter_id a ≡ counter → IsWorker counter worker held seat → IsAtKey a worker held seat
at_key a counter worker held seat is view_is mine =
    let key_n : counter.n ≡ a.table.shared.key.n = sym (ap (λ c. c.n) view_is) ∙ sym (ap (λ k. k.n) is.key) in
    let key_workers : counter.workers ≡ a.table.shared.key.workers = sym (ap (λ c. c.workers) view_is) ∙ sym (ap (λ k. k.workers) is.key) in
    record {
      at = mine.at ∙ sym (ap (λ c. c.table) view_is);
      word = let words = is.words in omega arith;
      me = mine.me ∙ ap (λ n. (worker_view n counter.workers worker held, [])) key_n ∙ ap (λ most. (worker_view a.table.shared.key.n most worker held, [])) key_workers;
    }

-- what the tally's view says of what it gathered
module _ (counter : CounterId) (count : ℕ) (view : View) (limits : IsWithinLimits counter.n counter.workers) (n_is : view.n ≡ counter.n) (most_is : view.most ≡ counter.workers)
    (knows : Knows view count) where
  abbrev tally : TallyState
  tally = record { of = counter; pieces = view.held; workers = view.workers; kept = view.receipts; lent = lent_in view.books }

  claims_apart : MeetNowhere counter.n (claims_of view.workers)
  claims_apart = apart_from counter.n (claims_of view.workers) (λ number. let flat = of_claims (covering number) view.workers in let apart = knows.apart number in omega arith)

  pieces_apart : MeetNowhere counter.n view.held
  pieces_apart = apart_from counter.n view.held knows.pieces_apart

  gathered : IsGathered counter tally
  gathered = record {
    pieces = pieces_apart;
    claims = claims_apart;
    numbers = λ number.
        let few : count_by (λ (worker : Worker). worker.number == number) view.workers ≤ covers number 0 view.most = let these = knows.numbers number in omega arith in
        let upto : covers number 0 view.most ≡ cond (nat_lt number counter.workers) 1 0 = ap (covers number 0) most_is ∙ covers_upto number counter.workers in
        omega arith;
    count = let places = knows.places in omega arith;
  }

  added_is : added (claims_of view.workers) ≡ claimed (λ addition. addition.size) view
  added_is = of_claims (λ addition. addition.size) view.workers

  past_is : added_past counter.n (claims_of view.workers) ≡ claimed (blank view.n (λ addition. addition.size)) view
  past_is = of_claims (blank counter.n (λ addition. addition.size)) view.workers ∙ ap (λ n. claimed (blank n (λ addition. addition.size)) view) (sym n_is)

  module _ (all : HasAll tally) where
    knows_all : KnowsAll view count
    knows_all = knows.all (all ∙ sym most_is)

    all_added : added_by view.workers ≡ count
    all_added = let sizes = knows_all.sizes in added_is ∙ sizes

    parts_once : (weight : Addition → ℕ) → sum_by weight view.held + sum_by weight knows_all.out.0 ≡ sum_by weight (gave counter.n (claims_of view.workers))
    parts_once weight =
        let out : kept counter.n weight view + sum_by weight knows_all.out.0 ≡ claimed weight view = subst (λ n. kept n weight view + sum_by weight knows_all.out.0 ≡ claimed weight view) n_is (knows_all.out.1 weight) in
        omega
        (arith, out, gave_and_blank counter.n weight (claims_of view.workers), of_claims weight view.workers, of_claims (blank counter.n weight) view.workers)

    each_number : (number : ℕ) → number < counter.workers → times_numbered number view.workers ≡ 1
    each_number number below =
        let numbers = knows_all.numbers number in
        let places = knows.places in
        let unmade : view.unmade ≡ 0 = omega (arith, places, all, most_is) in
        let nothing : covers number view.next view.unmade ≡ 0 = ap (λ size. covers number view.next size) unmade ∙ covers_none number view.next in
        let one : covers number 0 view.most ≡ 1 = ap (covers number 0) most_is ∙ covers_below number counter.workers below in
        omega (arith, numbers, nothing, one)

    knows_claims : KnowsClaims tally
    knows_claims = record {
      seen = subst (λ most. All (λ (worker : Worker). worker.seen ≤ most) view.workers) (sym all_added) knows.right.seen;
      numbers = each_number;
      pieces = (knows_all.out.0, record { once = λ weight. parts_once weight });
      tiles = λ far. tiles_from counter.n count (claims_of view.workers) (let is = all_added in omega arith) (λ number below. of_claims (covering number) view.workers ∙ knows_all.tiles number);
    }

  tiled : IsEnd tally → Tiles (map (clipped counter.n) view.held) counter.n
  tiled end =
      let is : added_by view.workers ≡ count = all_added end.all in
      let nothing_out = end.nothing_out in
      let past = end.past in
      let whole : kept view.n (λ addition. addition.size) view ≡ count = let blanks = past_is in omega arith in
      let covered : (number : ℕ) → kept view.n (covering number) view ≡ covers number 0 count = (knows_all end.all).nothing_out whole in
      let no_blank : (number : ℕ) → number < view.n → claimed (blank view.n (covering number)) view ≡ 0 = λ number below.
      sum_by_none (λ (worker : Worker). sum_by (blank view.n (covering number)) worker.claims) view.workers
      (λ worker. sum_by_none (blank view.n (covering number)) worker.claims (λ addition. blank_below view.n number addition below))
      in
      tiles_from counter.n count view.held (omega arith)
      (λ number below. let cover = covered number in let none = no_blank number (omega arith) in omega arith)

  -- where all is settled, the receipts that were given are those of the claims that gave a piece
  module _ (one : tallies view ≡ 1) (is : IsSettled tally) where
    settles_all : (weight : Addition → ℕ) → sum_by weight view.receipts + sum_by weight (gave counter.n (claims_of view.workers)) ≤ sum_by weight view.held
    settles_all weight = omega (arith, knows.receipts one weight, knows.right.marks weight, of_settled weight view.workers, is.each weight)

    none_left : view.receipts ≡ []
    none_left = weighs_nothing view.receipts (let weight : Addition → ℕ = λ _. 1 in omega (arith, settles_all weight, parts_once is.all weight))

    at_end : IsEnd tally
    at_end =
        let size : Addition → ℕ = λ addition. addition.size in
        let claims = knows_claims is.all in
        record {
          all = is.all;
          nothing_out = omega (arith, settles_all size, parts_once is.all size, gave_and_blank counter.n size (claims_of view.workers));
          past = let seen = All-contains (λ (worker : Worker). worker.seen ≤ added_by view.workers) view.workers is.saw.0 claims.seen is.saw.1 in omega (arith, seen, is.saw.2);
        }

  pub has_settled : tallies view ≡ 1 → HasSettled tally
  has_settled one = record { end = λ is. at_end one is; kept = λ is. none_left one is }

  pub has_read : HasRead counter count tally
  has_read = record {
    limits = limits;
    gathered = gathered;
    fits = let bound = knows.bound in let a = limits.indexes in let b = limits.few in in_word count view.n view.most (omega arith) (omega arith) bound;
    sizes = let blanks = past_is in let sizes = knows.kept_sizes in omega arith;
    all = all_added;
    claims = knows_claims;
    pieces = tiled;
  }

pub read_knows : (a : Inside) (counter : CounterId) (count : ℕ) (seat : Seat (Unit {0}) View) → IsCounter a → counter_id a ≡ counter → of_seat seat ≡ counter → Knows seat.me.0 count
    → HasRead counter count (tally_of counter seat)
read_knows a counter count seat is view_is of knows =
    let limits : IsWithinLimits counter.n counter.workers = subst (λ (c : CounterId). IsWithinLimits c.n c.workers) view_is is.limits in
    has_read counter count seat.me.0 limits (ap (λ (c : CounterId). c.n) of) (ap (λ (c : CounterId). c.workers) of) knows

pub read_settles : (a : Inside) (counter : CounterId) (count : ℕ) (seat : Seat (Unit {0}) View) → IsCounter a → counter_id a ≡ counter → of_seat seat ≡ counter → Knows seat.me.0 count
    → tallies seat.me.0 ≡ 1 → HasSettled (tally_of counter seat)
read_settles a counter count seat is view_is of knows =
    let limits : IsWithinLimits counter.n counter.workers = subst (λ (c : CounterId). IsWithinLimits c.n c.workers) view_is is.limits in
    has_settled counter count seat.me.0 limits (ap (λ (c : CounterId). c.n) of) (ap (λ (c : CounterId). c.workers) of) knows

past_le : (n : ℕ) (addition : Addition) → blank n (λ it. it.size) addition ≤ addition.size
past_le n addition = grind (arith, nat_tests)

-- what the additions without a piece added is within what all added
pub past_within : (n : ℕ) (claims : List Addition) (addition : Addition) → added_past n claims + addition.size ≤ added (claims ++ addition ∷ [])
past_within n claims addition =
    let size : Addition → ℕ = λ it. it.size in
    let within : sum_by (blank n size) claims ≤ sum_by size claims = sum_by-le-sum_by (blank n size) size claims (past_le n) in
    let pushed = sum_by_push size claims addition in omega arith

-- the worker of a seat's view
pub worker_is : (counter : CounterId) (worker : Worker) (held : List Addition) (seat : Seat (Unit {0}) View) → IsWorker counter worker held seat → worker_of seat.me.0 ≡ worker
worker_is counter worker held seat is = ap (λ m. worker_of m.0) is.me

-- a claim that gives a piece: a load, an addition below n, and a cut
pub claim_gives : (counter : CounterId) (size begin found : ℕ) (before worker looked grown after : Worker) (piece : PieceState)
    → worker ≡ before → looked ≡ after_load found worker → grown ≡ after_addition (addition_at begin size) looked → after ≡ grown
    → piece ≡ record { of = counter; addition = addition_at begin size }
    → worker.seen ≤ found → looked.seen ≤ begin → begin < counter.n
    → ClaimsPiece counter size before after piece
claim_gives counter size begin found before worker looked grown after piece whose looked_is grown_is after_is piece_is later later' below =
    let found_is : looked.seen ≡ found = ap (λ (w : Worker). w.seen) looked_is in
    let begin_is : piece.addition.begin ≡ begin = ap (λ (p : PieceState). p.addition.begin) piece_is in
    let seen_is : worker.seen ≡ before.seen = ap (λ (w : Worker). w.seen) whose in
    record {
      of = ap (λ (p : PieceState). p.of) piece_is;
      below = omega arith;
      adds = record {
        sized = ap (λ (p : PieceState). p.addition.size) piece_is;
        later = omega arith;
        grown = after_is ∙ grown_is ∙ ap (after_addition (addition_at begin size)) looked_is ∙ ap (λ (w : Worker). after_addition (addition_at begin size) (after_load found w)) whose
            ∙ ap (λ (p : PieceState). after_addition p.addition (after_load before.seen before)) (sym piece_is);
      };
    }

-- a seat that the tally split off is a new worker's
pub new_seat : (seat : Seat (Unit {0}) View) (table : TableId) (view : View) (n most number : ℕ) → seat.table_id ≡ table → seat.me ≡ (made view, []) → view.n ≡ n → view.most ≡ most → view.next ≡ number
    → seat_of seat ≡ record { of = record { table = table; n = n; workers = most }; worker = new_worker number }
new_seat seat table view n most number at me n_is most_is number_is =
    let n' : seat.me.0.n ≡ n = ap (λ m. m.0.n) me ∙ n_is in
    let most' : seat.me.0.most ≡ most = ap (λ m. m.0.most) me ∙ most_is in
    let worker : worker_of seat.me.0 ≡ new_worker number = ap (λ m. worker_of m.0) me ∙ ap new_worker number_is in
    λ i. record { of = record { table = at i; n = n' i; workers = most' i }; worker = worker i }

-- the seats so far, and the next
pub next_seat : (state : ℕ → SeatState) (seats seats' : List SeatState) (seat : SeatState) (number : ℕ) → seats' ≡ seats ++ seat ∷ [] → length seats ≡ number
    → ((i : ℕ) → i < number → slice_get seats i ≡ Some (state i)) → seat ≡ state number → (i : ℕ) → i < number + 1 → slice_get seats' i ≡ Some (state i)
next_seat state seats seats' seat number items count each is i within =
    subst (λ xs. slice_get xs i ≡ Some (state i)) (sym items)
    (pushed_each state seats seat (λ k below. each k (omega arith)) (is ∙ ap state (sym count)) i (omega arith))

-- the seat after a load, and after an addition
pub looked_worker : (counter : CounterId) (worker : Worker) (count : ℕ) (before after : Seat (Unit {0}) View) → IsWorker counter worker [] before → after.table_id ≡ before.table_id
    → (after.me.1 ≡ []) × Looks before.me.0 count after.me.0 → IsWorker counter (after_load count worker) [] after
looked_worker counter worker count before after is at told =
    let view : after.me.0 ≡ worker_view counter.n counter.workers (after_load count worker) [] = told.1.0 ∙ ap (λ m. looked count m.0) is.me in
    record { at = at ∙ is.at; me = λ i. (view i, told.0 i) }

pub grown_worker : (counter : CounterId) (worker : Worker) (size count : ℕ) (before after : Seat (Unit {0}) View) → IsWorker counter worker [] before → after.table_id ≡ before.table_id
    → (after.me.1 ≡ []) × Grows size before.me.0 count after.me.0
    → IsWorker counter (after_addition (addition_at count size) worker) (in_hand counter.n (addition_at count size)) after
grown_worker counter worker size count before after is at told =
    let view : after.me.0 ≡ worker_view counter.n counter.workers (after_addition (addition_at count size) worker) (in_hand counter.n (addition_at count size)) =
    told.1.0 ∙ ap (λ m. grown count size m.0) is.me
    in
    record { at = at ∙ is.at; me = λ i. (view i, told.0 i) }
