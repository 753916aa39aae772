-- Each step on a counter keeps its rule, and what it tells.
use Rattle.std.proofs.Common.{◌≡◌, ℕ, ◌+◌, ◌*◌, ◌%◌, ◌^◌, ◌<◌, ◌≤◌, ◌==◌, cond, nat_lt, nat_le, true, false, not, Bool, List, [], ◌∷◌, ◌++◌, length, set, sym, refl, ap, ◌∙◌, subst, arith, sum_by, All, Contains, slice_index, slice_set, length-append, map, Option, Some, None}
use Rattle.std.proofs.Math.Nat.{mod-eq_of_lt}
use Rattle.std.proofs.lemmas.Bool.Decides.{nat_tests}
use Rattle.std.proofs.lemmas.List.Sums.{sum_by-append, sum_by_push, sum_by-remove, sum_by-le-sum_by, count_by-le-length}
use Rattle.std.proofs.lemmas.List.Elements.{All-set, All-append, All-cons, All-nil, All-weaker, All-head, All-map, Contains-append_left}
use Rattle.std.specs.List.{flat_map, remove}
use mathlib.Core.Option.{some}
use lib.ListN.{get_elem?}
use Rattle.atomic_table.specs.Table.{Me, Act, Valid, keeps, homes_after, carried_after, Allows, Splits, Joins}
use Rattle.atomic_table.proofs.Lists.{set_here, set_else, set_again}
use Rattle.qtc_lock.proofs.Views.{placed, All-at, All-snoc, sum_by-set_view, sum_by-snoc}
use Rattle.qtc_claim.specs.declared.rule.View.{View}
use Rattle.qtc_claim.specs.declared.rule.Limits.{Limits}
use Rattle.qtc_claim.specs.Claims.{Addition, addition_at, Worker, new_worker, after_load, after_addition, after_settle, Loan, Book}
use Rattle.qtc_base.specs.Limits.{most_items, most_workers, most_block}
use Rattle.qtc_claim.specs.Rule.{worker_view, receipt_view, token_view, spent_view, covers, covering, blank, claimed, kept, saw, numbered, seats, receipted, marked, borrowed, loan_weight, lent, tallies, IsRight, AddsUp, Holds, IsKept, KnowsAll, Knows, looked, grown, left_to_make, made, empty_handed, cut, gathered, IsUnmarked, last_of, with_mark, last_marked, last_receipt, settling, without_receipts, receipts_of, lending, token_for, first_loan, back_in, back_home, Looks, Grows, Reads}
use Rattle.qtc_claim.proofs.Sums.{covers_none, covers_one, covers_on, covers_first, sum_by_nothing, of_held, sum_by_both}
use Rattle.qtc_claim.proofs.Books.{no_marks, no_loans}

-- what a step changes: a measure of the views that it touches, before and after
abbrev pub Changes : (T T' before after : (View → ℕ) → ℕ) → Type 0
Changes T T' before after = (measure : View → ℕ) → T' measure + before measure ≡ T measure + after measure

-- what a step leaves to receipts, tokens and the tally, of the views that it touches
pub record SameBooks (before after : (View → ℕ) → ℕ) : Type 0 where
  pub receipts : (weight : Addition → ℕ) → after (receipted weight) + before (marked weight) ≡ before (receipted weight) + after (marked weight)
  pub tokens : (weight : Loan → ℕ) → after (borrowed weight) + before (lent weight) ≡ before (borrowed weight) + after (lent weight)
  pub one : after tallies ≡ before tallies

module _ (n most count count' : ℕ) (T T' before after : (View → ℕ) → ℕ) (change : Changes T T' before after) (sums : AddsUp n most count T) where
  -- what the touched views have goes on as the counter does
  moves : ((weight : Addition → ℕ) → after (kept n weight) + before (claimed weight) ≡ before (kept n weight) + after (claimed weight))
      → ((number : ℕ) → after (claimed (covering number)) + covers number 0 count ≡ before (claimed (covering number)) + covers number 0 count')
      → after (claimed (λ addition. addition.size)) + count ≡ before (claimed (λ addition. addition.size)) + count'
      → count' ≤ n + most_block * T' (saw n)
      → ((number : ℕ) → after (numbered number) ≡ before (numbered number))
      → after seats ≡ before seats
      → SameBooks before after
      → AddsUp n most count' T'
  moves once tiles sizes bound numbers places books = record {
    once = λ weight. omega (arith, change (kept n weight), change (claimed weight), once weight, sums.once weight);
    tiles = λ number. omega (arith, change (claimed (covering number)), tiles number, sums.tiles number);
    sizes = omega (arith, change (claimed (λ addition. addition.size)), sizes, sums.sizes);
    bound = bound;
    numbers = λ number. omega (arith, change (numbered number), numbers number, sums.numbers number);
    places = omega (arith, change seats, places, sums.places);
    receipts = λ weight. omega (arith, change (receipted weight), change (marked weight), books.receipts weight, sums.receipts weight);
    tokens = λ weight. omega (arith, change (borrowed weight), change (lent weight), books.tokens weight, sums.tokens weight);
    one = omega (arith, change tallies, books.one, sums.one);
  }

module _ (n most count : ℕ) (T T' before after : (View → ℕ) → ℕ) (change : Changes T T' before after) (sums : AddsUp n most count T) where
  -- the touched views have what they had, and the counter is as it was
  pub rests : ((weight : Addition → ℕ) → after (kept n weight) ≡ before (kept n weight))
      → ((weight : Addition → ℕ) → after (claimed weight) ≡ before (claimed weight))
      → before (saw n) ≤ after (saw n)
      → ((number : ℕ) → after (numbered number) ≡ before (numbered number))
      → after seats ≡ before seats
      → SameBooks before after
      → AddsUp n most count T'
  rests same_kept same_claimed more same_numbers places books = moves n most count count T T' before after change sums
      (λ weight. omega (arith, same_kept weight, same_claimed weight))
      (λ number. omega (arith, same_claimed (covering number)))
      (omega (arith, same_claimed (λ addition. addition.size)))
      (omega (arith, change (saw n), sums.bound))
      same_numbers
      places
      books

-- the sum over all views
abbrev pub over : List View → (View → ℕ) → ℕ
over views measure = sum_by measure views

set_changes : (views : List View) (id : ℕ) (v w : View) → get_elem? views id ≡ some v → Changes (over views) (over (set views id w)) (λ measure. measure v) (λ measure. measure w)
set_changes views id v w at measure = sum_by-set_view measure views id v w at

pub split_changes : (views : List View) (id : ℕ) (v left right : View) → get_elem? views id ≡ some v
    → Changes (over views) (over (set views id left ++ right ∷ [])) (λ measure. measure v) (λ measure. measure left + measure right)
split_changes views id v left right at measure =
    omega (arith, sum_by-set_view measure views id v left at, sum_by-snoc measure (set views id left) right)

pub join_changes : (views : List View) (id other : ℕ) (v w both spent : View) → get_elem? views id ≡ some v → get_elem? (set views id both) other ≡ some w
    → Changes (over views) (over (set (set views id both) other spent)) (λ measure. measure v + measure w) (λ measure. measure both + measure spent)
join_changes views id other v w both spent at at' measure =
    omega (arith, sum_by-set_view measure views id v both at, sum_by-set_view measure (set views id both) other w spent at')

-- what a view is known to have, within all that there is
saw_few : (n : ℕ) (view : View) → saw n view ≤ seats view
saw_few n view = omega (arith, count_by-le-length (λ (worker : Worker). nat_le n worker.seen) view.workers)

no_workers : (weight : Addition → ℕ) (workers : List Worker) → length workers ≡ 0 → sum_by (λ (worker : Worker). sum_by weight worker.claims) workers ≡ 0
no_workers weight [] none = refl
no_workers weight (worker ∷ workers) none = absurd (omega arith)

-- a view without a worker has no claims
no_seat : (weight : Addition → ℕ) (view : View) → seats view ≡ 0 → claimed weight view ≡ 0
no_seat weight view none = no_workers weight view.workers (omega arith)

-- a view that has nothing has it nowhere
no_size : (number : ℕ) (addition : Addition) → addition.size ≡ 0 → covering number addition ≡ 0
no_size number addition none = ap (λ size. covers number addition.begin size) none ∙ covers_none number addition.begin

no_blank_size : (n number : ℕ) (addition : Addition) → blank n (λ it. it.size) addition ≡ 0 → blank n (covering number) addition ≡ 0
no_blank_size n number addition none = by (nat_le n addition.begin) none
  where
    by : (b : Bool) → cond b addition.size 0 ≡ 0 → cond b (covering number addition) 0 ≡ 0
    by true e = no_size number addition e
    by false e = refl

nothing_kept : (n number : ℕ) (view : View) → kept n (λ addition. addition.size) view ≡ 0 → kept n (covering number) view ≡ 0
nothing_kept n number view none =
    let size : Addition → ℕ = λ addition. addition.size in
    let held : sum_by (covering number) view.held ≡ 0 = sum_by_nothing (covering number) size view.held (no_size number) (omega arith) in
    let of_worker : (worker : Worker) → sum_by (blank n size) worker.claims ≡ 0 → sum_by (blank n (covering number)) worker.claims ≡ 0 =
    λ worker. sum_by_nothing (blank n (covering number)) (blank n size) worker.claims (no_blank_size n number)
    in
    let blanks : claimed (blank n (covering number)) view ≡ 0 =
    sum_by_nothing (λ (worker : Worker). sum_by (blank n (covering number)) worker.claims) (λ (worker : Worker). sum_by (blank n size) worker.claims) view.workers of_worker (omega arith)
    in
    omega arith

-- nor a number
no_number : (number : ℕ) (view : View) → seats view ≡ 0 → numbered number view ≡ 0
no_number number view none =
    let unmade : view.unmade ≡ 0 = omega (arith, none) in
    let empty : length view.workers ≡ 0 = omega (arith, none) in
    let nothing : covers number view.next view.unmade ≡ 0 = ap (λ size. covers number view.next size) unmade ∙ covers_none number view.next in
    let few = count_by-le-length (λ (worker : Worker). worker.number == number) view.workers in
    omega (arith, nothing, empty, few)

module _ (key : Limits) (count : ℕ) (views : List View) (holds : Holds key count views) where
  pub in_bound : count ≤ key.n + most_block * key.workers
  in_bound =
      let few : over views (saw key.n) ≤ over views seats = sum_by-le-sum_by (saw key.n) seats views (saw_few key.n) in
      omega (arith, holds.sums.bound, holds.sums.places)

  module _ (id : ℕ) (v : View) (at : get_elem? views id ≡ some v) where
    others : (View → ℕ) → ℕ
    others measure = sum_by measure (remove views id)

    -- the sum is this view's part and the others'
    parts : (measure : View → ℕ) → over views measure ≡ sum_by measure (remove views id) + measure v
    parts measure =
        let it = placed views id v at in
        sym (sum_by-remove measure views id v it.0) ∙ ap (λ w. sum_by measure (remove views id) + measure w) it.1

    knows_all : length v.workers ≡ key.workers → v.n ≡ key.n → v.most ≡ key.workers → KnowsAll v count
    knows_all all n_is most_is =
        let size : Addition → ℕ = λ addition. addition.size in
        let no_seats : sum_by seats (remove views id) ≡ 0 = omega (arith, parts seats, holds.sums.places, all) in
        let none : (weight : Addition → ℕ) → sum_by (claimed weight) (remove views id) ≡ 0 =
        λ weight. sum_by_nothing (claimed weight) seats (remove views id) (no_seat weight) no_seats
        in
        let held_by_others : List Addition = flat_map (λ (view : View). view.held) (remove views id) in
        let out : (weight : Addition → ℕ) → kept key.n weight v + sum_by weight held_by_others ≡ claimed weight v =
        λ weight.
        omega (
          arith,
          parts (kept key.n weight),
          parts (claimed weight),
          none weight,
          none (blank key.n weight),
          holds.sums.once weight,
          of_held weight (remove views id),
          sum_by_both (λ (view : View). sum_by weight view.held) (claimed (blank key.n weight)) (remove views id),
        )
        in
        record {
          out = (held_by_others, subst (λ n. (weight : Addition → ℕ) → kept n weight v + sum_by weight held_by_others ≡ claimed weight v) (sym n_is) out);
          numbers = λ number.
              let no_others : sum_by (numbered number) (remove views id) ≡ 0 = sum_by_nothing (numbered number) seats (remove views id) (no_number number) no_seats in
              subst (λ most. numbered number v ≡ covers number 0 most) (sym most_is) (omega (arith, parts (numbered number), no_others, holds.sums.numbers number));
          tiles = λ number. omega (arith, parts (claimed (covering number)), none (covering number), holds.sums.tiles number);
          sizes = omega (arith, parts (claimed size), none size, holds.sums.sizes);
          nothing_out = λ whole number.
              let whole' : kept key.n size v ≡ count = subst (λ n. kept n size v ≡ count) n_is whole in
              let no_others : sum_by (kept key.n size) (remove views id) ≡ 0 = omega (arith, parts (kept key.n size), holds.sums.once size, holds.sums.sizes, whole') in
              let no_cover : sum_by (kept key.n (covering number)) (remove views id) ≡ 0 =
              sum_by_nothing (kept key.n (covering number)) (kept key.n size) (remove views id) (nothing_kept key.n number) no_others
              in
              let here : kept key.n (covering number) v ≡ covers number 0 count =
              omega (arith, parts (kept key.n (covering number)), holds.sums.once (covering number), holds.sums.tiles number, no_cover)
              in
              subst (λ n. kept n (covering number) v ≡ covers number 0 count) (sym n_is) here;
        }

    -- where the view has the book, the others have none
    no_others : tallies v ≡ 1 → sum_by tallies (remove views id) ≡ 0
    no_others one = omega (arith, parts tallies, holds.sums.one, one)

    receipts_given : tallies v ≡ 1 → (weight : Addition → ℕ) → receipted weight v ≤ marked weight v
    receipts_given one weight =
        let none : sum_by (marked weight) (remove views id) ≡ 0 = sum_by_nothing (marked weight) tallies (remove views id) (no_marks weight) (no_others one) in
        omega (arith, parts (receipted weight), parts (marked weight), none, holds.sums.receipts weight)

    -- what it lent the tokens are
    pub loans_given : tallies v ≡ 1 → (weight : Loan → ℕ) → over views (borrowed weight) ≡ lent weight v
    loans_given one weight =
        let none : sum_by (lent weight) (remove views id) ≡ 0 = sum_by_nothing (lent weight) tallies (remove views id) (no_loans weight) (no_others one) in
        omega (arith, parts (lent weight), none, holds.sums.tokens weight)

    -- and what it has itself is among all
    pub within : (measure : View → ℕ) → measure v ≤ over views measure
    within measure = omega (arith, parts measure)

    pub knows_view : v.n ≡ key.n → v.most ≡ key.workers → Knows v count
    knows_view n_is most_is =
        let size : Addition → ℕ = λ addition. addition.size in
        record {
          right = subst (λ n. IsRight n count v) (sym n_is) (All-at (IsRight key.n count) views id v at holds.right);
          bound = omega (arith, in_bound, n_is, most_is);
          apart = λ number. omega (arith, parts (claimed (covering number)), holds.sums.tiles number, covers_one number 0 count);
          pieces_apart = λ number. omega (arith, parts (kept key.n (covering number)), holds.sums.once (covering number), holds.sums.tiles number, covers_one number 0 count);
          sizes = omega (arith, parts (claimed size), holds.sums.sizes);
          kept_sizes =
              subst (λ n. kept n size v ≤ count) (sym n_is) (omega (arith, parts (kept key.n size), holds.sums.once size, holds.sums.sizes));
          numbers = λ number.
              subst (λ most. numbered number v ≤ covers number 0 most) (sym most_is) (omega (arith, parts (numbered number), holds.sums.numbers number));
          places = omega (arith, parts seats, holds.sums.places, most_is);
          all = λ all. knows_all (all ∙ most_is) n_is most_is;
          receipts = λ one weight. receipts_given one weight;
        }

module _ (key : Limits) (slots id : ℕ) where
  -- a step of one seat that has no slot
  pub steps : (v : View) (f : ℕ → ℕ) (new : ℕ → View) (Told : ℕ → View → Type 0)
      → ((count : ℕ) (views : List View) → Holds key count views → get_elem? views id ≡ some v → Holds key (f count) (set views id (new count)) × Told count (new count))
      → Allows (IsKept key) slots id (v, []) 0 f (λ found after. (after.1 ≡ []) × Told found after.0)
  steps v f new Told make s is_kept long me wide =
      let P : List ℕ → Type 0 = λ words.
      (w : View) × (a : Act (Unit {0})) × Valid s.homes [] a
      × IsKept key (record { words = slice_set words 0 (f (slice_index words 0)); homes = homes_after s.homes [] a; views = slice_set s.views id w })
      × ((carried_after [] a ≡ []) × Told (slice_index words 0) w)
      in
      let made_so = make is_kept.count s.views is_kept.holds me in
      subst P (sym is_kept.word) (new is_kept.count, keeps, tt, record { count = f is_kept.count; word = refl; holds = made_so.0 }, (refl, made_so.1))

right_later : (n count count' : ℕ) → count ≤ count' → (view : View) → IsRight n count view → IsRight n count' view
right_later n count count' later view right = record {
  seen = All-weaker (λ (worker : Worker). worker.seen ≤ count) (λ (worker : Worker). worker.seen ≤ count') (λ worker seen. omega arith) view.workers right.seen;
  below = right.below;
  settled = right.settled;
  marks = right.marks;
  books = right.books;
}

pub one_sees : (count : ℕ) (worker : Worker) → worker.seen ≤ count → All (λ (it : Worker). it.seen ≤ count) (worker ∷ [])
one_sees count worker seen = All-cons (λ (it : Worker). it.seen ≤ count) worker [] seen (All-nil (λ (it : Worker). it.seen ≤ count))

-- what the one worker of a view settled it claimed
abbrev pub Settled : Worker → Type 0
Settled worker = All (Contains worker.claims) worker.settled

pub one_settled : (n count : ℕ) (view : View) (worker : Worker) → view.workers ≡ worker ∷ [] → IsRight n count view → Settled worker
one_settled n count view worker one right = All-head Settled worker [] (subst (λ ws. All Settled ws) one right.settled)

-- a view of one worker without a book
pub right_worker : (n count : ℕ) (view : View) (worker : Worker) → view.workers ≡ worker ∷ [] → worker.seen ≤ count → Settled worker → All (λ addition. addition.begin < n) view.held → view.books ≡ [] → IsRight n count view
right_worker n count view worker one seen settled below none = record {
  seen = subst (λ ws. All (λ (it : Worker). it.seen ≤ count) ws) (sym one) (one_sees count worker seen);
  below = below;
  settled = subst (λ ws. All Settled ws) (sym one) (All-cons Settled worker [] settled (All-nil Settled));
  marks = λ weight. let nothing : marked weight view ≡ 0 = ap (λ books. sum_by (λ (book : Book). sum_by weight book.marked) books) none in omega (arith, nothing);
  books = subst (λ books. All (λ (book : Book). book.brought ≡ book.awaited) books) (sym none) (All-nil (λ (book : Book). book.brought ≡ book.awaited));
}

-- what a worker saw, where it is the one of its view
pub one_seen : (n count : ℕ) (view : View) (worker : Worker) → view.workers ≡ worker ∷ [] → IsRight n count view → worker.seen ≤ count
one_seen n count view worker one right =
    All-head (λ (it : Worker). it.seen ≤ count) worker [] (subst (λ ws. All (λ (it : Worker). it.seen ≤ count) ws) one right.seen)

module _ (key : Limits) (worker : Worker) (held : List Addition) where
  abbrev mine : View
  mine = worker_view key.n key.workers worker held

  look_keeps : (id count : ℕ) (views : List View) → Holds key count views → get_elem? views id ≡ some mine → Holds key count (set views id (looked count mine))
  look_keeps id count views holds at =
      let right = All-at (IsRight key.n count) views id mine at holds.right in
      let seen : worker.seen ≤ count = one_seen key.n count mine worker refl right in
      let right' : IsRight key.n count (looked count mine) =
      right_worker key.n count (looked count mine) (after_load count worker) refl (omega arith) (one_settled key.n count mine worker refl right) right.below refl
      in
      record {
        limits = holds.limits;
        right = All-set (IsRight key.n count) views id (looked count mine) right' holds.right;
        sums = rests key.n key.workers count (over views) (over (set views id (looked count mine))) (λ measure. measure mine) (λ measure. measure (looked count mine))
            (set_changes views id mine (looked count mine) at) holds.sums
            (λ weight. refl)
            (λ weight. refl)
            (saw_more key.n worker.seen count seen)
            (λ number. refl)
            refl
            (record { receipts = λ weight. refl; tokens = λ weight. refl; one = refl });
      }
    where
      saw_more : (n seen count : ℕ) → seen ≤ count → 0 + cond (nat_le n seen) 1 0 ≤ 0 + cond (nat_le n count) 1 0
      saw_more n seen count later = grind (arith, nat_tests)

  look_tells : (id count : ℕ) (views : List View) → Holds key count views → get_elem? views id ≡ some mine
      → Holds key count (set views id (looked count mine)) × Looks mine count (looked count mine)
  look_tells id count views holds at =
      let after = look_keeps id count views holds at in
      let there = placed views id mine at in
      (after, (refl, (All-at (IsRight key.n count) views id mine at holds.right).seen, knows_view key count (set views id (looked count mine)) after id (looked count mine) (set_here views id (looked count mine) there.0) refl refl))

-- a worker loads
pub looks : (key : Limits) (slots id : ℕ) (worker : Worker) (held : List Addition) (m : Me (Unit {0}) View) → m ≡ (worker_view key.n key.workers worker held, [])
    → Allows (IsKept key) slots id m 0 (λ n. n) (λ found after. (after.1 ≡ []) × Looks m.0 found after.0)
looks key slots id worker held m is =
    let v = worker_view key.n key.workers worker held in
    subst (λ (x : Me (Unit {0}) View). Allows (IsKept key) slots id x 0 (λ n. n) (λ found after. (after.1 ≡ []) × Looks x.0 found after.0)) (sym is)
    (steps key slots id v (λ n. n) (λ count. looked count v) (Looks v) (λ count views holds at. look_tells key worker held id count views holds at))

-- the tally loads
pub reads : (key : Limits) (slots id : ℕ) (m : Me (Unit {0}) View) → m.1 ≡ [] → m.0.n ≡ key.n → m.0.most ≡ key.workers
    → Allows (IsKept key) slots id m 0 (λ n. n) (λ found after. (after.1 ≡ []) × Reads m.0 found after.0)
reads key slots id m slotless n_is most_is =
    let is : m ≡ (m.0, []) = ap (λ l. (m.0, l)) slotless in
    subst (λ (x : Me (Unit {0}) View). Allows (IsKept key) slots id x 0 (λ n. n) (λ found after. (after.1 ≡ []) × Reads x.0 found after.0)) (sym is)
    (steps key slots id m.0 (λ n. n) (λ count. m.0) (Reads m.0)
    (λ count views holds at.
    let same : set views id m.0 ≡ views = set_again views id m.0 at in
    (subst (Holds key count) (sym same) holds, (refl, knows_view key count views holds id m.0 at n_is most_is))))

module _ (key : Limits) (worker : Worker) (size : ℕ) where
  abbrev empty : View
  empty = worker_view key.n key.workers worker []

  -- the addition is in hand, or is blank
  once_there : (n count : ℕ) (weight : Addition → ℕ) → (a : Addition) → a.begin ≡ count
      → sum_by weight (cond (nat_lt count n) (a ∷ []) []) + blank n weight a ≡ weight a
  once_there n count weight a is = by (nat_lt count n) (nat_le n a.begin) (grind (arith, nat_tests))
    where
      by : (b c : Bool) → (b ≡ not c) → sum_by weight (cond b (a ∷ []) []) + cond c (weight a) 0 ≡ weight a
      by true true e = cc
      by true false e = omega arith
      by false true e = omega arith
      by false false e = cc

  held_below : (n count : ℕ) (a : Addition) → a.begin ≡ count → All (λ (it : Addition). it.begin < n) (cond (nat_lt count n) (a ∷ []) [])
  held_below n count a is = by (nat_lt count n) refl
    where
      by : (b : Bool) → nat_lt count n ≡ b → All (λ (it : Addition). it.begin < n) (cond b (a ∷ []) [])
      by true e = All-cons (λ (it : Addition). it.begin < n) a [] (grind (arith, nat_tests)) (All-nil (λ (it : Addition). it.begin < n))
      by false e = All-nil (λ (it : Addition). it.begin < n)

  grow_keeps : (id count : ℕ) (views : List View) → size ≤ most_block → worker.seen < key.n → Holds key count views → get_elem? views id ≡ some empty
      → Holds key (count + size) (set views id (grown count size empty))
  grow_keeps id count views small below holds at =
      let a : Addition = addition_at count size in
      let after = grown count size empty in
      let later : count ≤ count + size = omega arith in
      let was = All-at (IsRight key.n count) views id empty at holds.right in
      let settled : Settled (after_addition a worker) =
      All-weaker (Contains worker.claims) (Contains (worker.claims ++ a ∷ [])) (λ it among. Contains-append_left worker.claims (a ∷ []) it among) worker.settled
      (one_settled key.n count empty worker refl was)
      in
      let right' : IsRight key.n (count + size) after =
      right_worker key.n (count + size) after (after_addition a worker) refl (omega arith) settled (held_below key.n count a refl) refl
      in
      let change = set_changes views id empty after at in
      let claims : (weight : Addition → ℕ) → claimed weight after ≡ claimed weight empty + weight a =
      λ weight. let pushed = sum_by_push weight worker.claims a in omega (arith, pushed)
      in
      record {
        limits = holds.limits;
        right = All-set (IsRight key.n (count + size)) views id after right' (All-weaker (IsRight key.n count) (IsRight key.n (count + size)) (right_later key.n count (count + size) later) views holds.right);
        sums = moves key.n key.workers count (count + size) (over views) (over (set views id after)) (λ measure. measure empty) (λ measure. measure after) change holds.sums
            (λ weight. omega (arith, claims weight, claims (blank key.n weight), once_there key.n count weight a refl))
            (λ number. let on : covers number 0 count + covering number a ≡ covers number 0 (count + size) = covers_on number count size in omega (arith, claims (covering number), on))
            (omega (arith, claims (λ addition. addition.size)))
            (bounded key.n count (over views (saw key.n)) (over (set views id after) (saw key.n)) below small (change (saw key.n)) holds.sums.bound)
            (λ number. refl)
            refl
            (record { receipts = λ weight. refl; tokens = λ weight. refl; one = refl });
      }
    where
      bounded : (n here s s' : ℕ) → worker.seen < n → size ≤ most_block → s' + (0 + cond (nat_le n worker.seen) 1 0) ≡ s + (0 + cond (nat_le n (here + size)) 1 0) → here ≤ n + most_block * s → here + size ≤ n + most_block * s'
      bounded n here s s' unseen little e bound = grind (arith, nat_tests)

  grow_tells : (id count : ℕ) (views : List View) → size ≤ most_block → worker.seen < key.n → Holds key count views → get_elem? views id ≡ some empty
      → Holds key ((count + size) % 2 ^ 64) (set views id (grown count size empty)) × Grows size empty count (grown count size empty)
  grow_tells id count views small below holds at =
      let after = grow_keeps id count views small below holds at in
      let there = placed views id empty at in
      let fits : count + size < 2 ^ 64 = let limits = holds.limits in let bound = in_bound key count views holds in in_word count size key.n key.workers small limits.indexes limits.few bound in (
        subst (λ now. Holds key now (set views id (grown count size empty))) (sym (mod-eq_of_lt fits)) after,
        (refl, (All-at (IsRight key.n count) views id empty at holds.right).seen, knows_view key (count + size) (set views id (grown count size empty)) after id (grown count size empty) (set_here views id (grown count size empty) there.0) refl refl),
      )
    where
      in_word : (here more n workers : ℕ) → more ≤ most_block → n ≤ most_items → workers ≤ most_workers → here ≤ n + most_block * workers → here + more < 2 ^ 64
      in_word here more n workers a b c d = omega arith

-- a worker with nothing in hand, which saw less than n, adds
pub grows : (key : Limits) (slots id size : ℕ) (worker : Worker) (m : Me (Unit {0}) View) → m ≡ (worker_view key.n key.workers worker [], []) → size ≤ most_block → worker.seen < key.n
    → Allows (IsKept key) slots id m 0 (λ n. (n + size) % 2 ^ 64) (λ found after. (after.1 ≡ []) × Grows size m.0 found after.0)
grows key slots id size worker m is small below =
    let v = worker_view key.n key.workers worker [] in
    subst (λ (x : Me (Unit {0}) View). Allows (IsKept key) slots id x 0 (λ n. (n + size) % 2 ^ 64) (λ found after. (after.1 ≡ []) × Grows size x.0 found after.0)) (sym is)
    (steps key slots id v (λ n. (n + size) % 2 ^ 64) (λ count. grown count size v) (Grows size v) (λ count views holds at. grow_tells key worker size id count views small below holds at))
