-- How seats part and join on a counter, each time keeping its rule.
use Rattle.std.proofs.Common.{◌≡◌, ℕ, ◌+◌, ◌-◌, ◌<◌, ◌≤◌, ◌==◌, cond, nat_le, List, [], ◌∷◌, ◌++◌, length, map, set, sym, refl, ap, ◌∙◌, subst, arith, sum_by, All, Contains, length-append, Option, Some, None}
use Rattle.std.proofs.lemmas.List.{length-map}
use Rattle.std.proofs.lemmas.List.Sums.{sum_by-append, sum_by_push}
use Rattle.std.proofs.lemmas.List.Elements.{All-set, All-append, All-cons, All-nil, All-head, All-map, All-push}
use mathlib.Core.Option.{some}
use lib.ListN.{get_elem?}
use Rattle.atomic_table.specs.Table.{Me, Splits, Joins}
use Rattle.atomic_table.proofs.Lists.{set_else}
use Rattle.qtc_lock.proofs.Views.{All-at, All-snoc}
use Rattle.qtc_claim.specs.declared.rule.View.{View}
use Rattle.qtc_claim.specs.declared.rule.Limits.{Limits}
use Rattle.qtc_claim.specs.Claims.{Addition, Worker, new_worker, after_settle, Loan, Book}
use Rattle.qtc_claim.specs.Rule.{worker_view, receipt_view, token_view, spent_view, covers, blank, claimed, marked, borrowed, loan_weight, lent, tallies, IsRight, Holds, IsKept, left_to_make, made, empty_handed, cut, gathered, IsUnmarked, last_of, with_mark, last_marked, last_receipt, settling, without_receipts, receipts_of, with_loan, lending, token_for, back_in, back_home}
use Rattle.qtc_claim.specs.Inside.{lent_in}
use Rattle.qtc_claim.proofs.Sums.{covers_none, covers_first}
use Rattle.qtc_claim.proofs.Books.{marked_on, marked_stays, lent_on, lent_of_one, lent_stays, none_back, is_loan, is_itself, first_is_loan}
use Rattle.qtc_claim.proofs.Steps.{SameBooks, Settled, rests, over, split_changes, join_changes, one_sees, one_settled, one_seen, right_worker, loans_given, within}

-- a view that has no worker and no book
right_piece : (n count : ℕ) (view : View) → view.workers ≡ [] → All (λ addition. addition.begin < n) view.held → view.books ≡ [] → IsRight n count view
right_piece n count view none below no_book = record {
  seen = subst (λ ws. All (λ (it : Worker). it.seen ≤ count) ws) (sym none) (All-nil (λ (it : Worker). it.seen ≤ count));
  below = below;
  settled = subst (λ ws. All Settled ws) (sym none) (All-nil Settled);
  marks = λ weight. let nothing : marked weight view ≡ 0 = ap (λ books. sum_by (λ (book : Book). sum_by weight book.marked) books) no_book in omega (arith, nothing);
  books = subst (λ books. All (λ (book : Book). book.brought ≡ book.awaited) books) (sym no_book) (All-nil (λ (book : Book). book.brought ≡ book.awaited));
}

module _ (key : Limits) (id : ℕ) (v : View) where
  abbrev Fits : ℕ → View → Type 0
  Fits count = IsRight key.n count

  -- the tally gives a number to a new worker
  make_keeps : (count : ℕ) (views : List View) → 0 < v.unmade → v.n ≡ key.n → v.most ≡ key.workers → Holds key count views → get_elem? views id ≡ some v
      → Holds key count (set views id (left_to_make v) ++ made v ∷ [])
  make_keeps count views some_left n_is most_is holds at =
      let right = All-at (Fits count) views id v at holds.right in
      let left' : Fits count (left_to_make v) = record { seen = right.seen; below = right.below; settled = right.settled; marks = right.marks; books = right.books } in
      let made' : Fits count (made v) =
      right_worker key.n count (made v) (new_worker v.next) refl (omega arith) (All-nil (Contains [])) (All-nil (λ (it : Addition). it.begin < key.n)) refl
      in
      record {
        limits = holds.limits;
        right = All-snoc (Fits count) (set views id (left_to_make v)) (made v) made' (All-set (Fits count) views id (left_to_make v) left' holds.right);
        sums = rests key.n key.workers count (over views) (over (set views id (left_to_make v) ++ made v ∷ [])) (λ measure. measure v) (λ measure. measure (left_to_make v) + measure (made v))
            (split_changes views id v (left_to_make v) (made v) at) holds.sums
            (λ weight. omega arith)
            (λ weight. omega arith)
            (omega arith)
            (λ number. let first = covers_first number v.next v.unmade some_left in let none = covers_none number 0 in omega (arith, first, none))
            (omega arith)
            (record { receipts = λ weight. omega arith; tokens = λ weight. omega arith; one = omega arith });
      }

  -- a worker gives the piece in hand away
  cut_keeps : (count : ℕ) (views : List View) → v.books ≡ [] → Holds key count views → get_elem? views id ≡ some v → Holds key count (set views id (empty_handed v) ++ cut v ∷ [])
  cut_keeps count views no_book holds at =
      let right = All-at (Fits count) views id v at holds.right in
      let left' : Fits count (empty_handed v) = record {
        seen = right.seen;
        below = All-nil (λ (it : Addition). it.begin < key.n);
        settled = right.settled;
        marks = λ weight. let nothing : marked weight v ≡ 0 = ap (λ books. sum_by (λ (book : Book). sum_by weight book.marked) books) no_book in omega (arith, nothing);
        books = right.books;
      }
      in
      let cut' : Fits count (cut v) = right_piece key.n count (cut v) refl right.below refl in
      record {
        limits = holds.limits;
        right = All-snoc (Fits count) (set views id (empty_handed v)) (cut v) cut' (All-set (Fits count) views id (empty_handed v) left' holds.right);
        sums = rests key.n key.workers count (over views) (over (set views id (empty_handed v) ++ cut v ∷ [])) (λ measure. measure v) (λ measure. measure (empty_handed v) + measure (cut v))
            (split_changes views id v (empty_handed v) (cut v) at) holds.sums
            (λ weight. omega arith)
            (λ weight. omega arith)
            (omega arith)
            (λ number. let none = covers_none number 0 in omega (arith, none))
            (omega arith)
            (record { receipts = λ weight. omega arith; tokens = λ weight. omega arith; one = omega arith });
      }

  -- the tally gives the receipt of what it gathered last
  mark_keeps : (count : ℕ) (views : List View) → IsUnmarked v → Holds key count views → get_elem? views id ≡ some v → Holds key count (set views id (last_marked v) ++ last_receipt v ∷ [])
  mark_keeps count views is holds at =
      let right = All-at (Fits count) views id v at holds.right in
      let P : Book → Type 0 = λ book. book.brought ≡ book.awaited in
      let marks : (weight : Addition → ℕ) → marked weight (last_marked v) ≡ marked weight v + weight (last_of v) = λ weight. marked_on weight (last_of v) v.books is.one in
      let left' : Fits count (last_marked v) = record {
        seen = right.seen;
        below = right.below;
        settled = right.settled;
        marks = λ weight. omega (arith, marks weight, is.unmarked weight);
        books = All-map P (with_mark (last_of v)) v.books right.books;
      }
      in
      let receipt : Fits count (last_receipt v) = right_piece key.n count (last_receipt v) refl (All-nil (λ (it : Addition). it.begin < key.n)) refl in
      record {
        limits = holds.limits;
        right = All-snoc (Fits count) (set views id (last_marked v)) (last_receipt v) receipt (All-set (Fits count) views id (last_marked v) left' holds.right);
        sums = rests key.n key.workers count (over views) (over (set views id (last_marked v) ++ last_receipt v ∷ [])) (λ measure. measure v) (λ measure. measure (last_marked v) + measure (last_receipt v))
            (split_changes views id v (last_marked v) (last_receipt v) at) holds.sums
            (λ weight. omega arith)
            (λ weight. omega arith)
            (omega arith)
            (λ number. let none = covers_none number 0 in omega (arith, none))
            (omega arith)
            (record {
              receipts = λ weight. omega (arith, marks weight);
              tokens = λ weight. let same : lent weight (last_marked v) ≡ lent weight v = lent_stays weight (with_mark (last_of v)) (λ book. refl) v.books in omega (arith, same);
              one = let long = length-map v.books (with_mark (last_of v)) in omega (arith, long);
            });
      }

  -- the tally gives the receipts back that it keeps
  release_keeps : (count : ℕ) (views : List View) → Holds key count views → get_elem? views id ≡ some v → Holds key count (set views id (without_receipts v) ++ receipts_of v ∷ [])
  release_keeps count views holds at =
      let right = All-at (Fits count) views id v at holds.right in
      let left' : Fits count (without_receipts v) = record { seen = right.seen; below = right.below; settled = right.settled; marks = right.marks; books = right.books } in
      let receipt : Fits count (receipts_of v) = right_piece key.n count (receipts_of v) refl (All-nil (λ (it : Addition). it.begin < key.n)) refl in
      record {
        limits = holds.limits;
        right = All-snoc (Fits count) (set views id (without_receipts v)) (receipts_of v) receipt (All-set (Fits count) views id (without_receipts v) left' holds.right);
        sums = rests key.n key.workers count (over views) (over (set views id (without_receipts v) ++ receipts_of v ∷ [])) (λ measure. measure v) (λ measure. measure (without_receipts v) + measure (receipts_of v))
            (split_changes views id v (without_receipts v) (receipts_of v) at) holds.sums
            (λ weight. omega arith)
            (λ weight. omega arith)
            (omega arith)
            (λ number. let none = covers_none number 0 in omega (arith, none))
            (omega arith)
            (record { receipts = λ weight. omega arith; tokens = λ weight. omega arith; one = omega arith });
      }

  -- the tally lends the token
  lend_keeps : (loan : Loan) (count : ℕ) (views : List View) → tallies v ≡ 1 → lent_in v.books ≡ None → Holds key count views → get_elem? views id ≡ some v
      → Holds key count (set views id (lending loan v) ++ token_for loan v ∷ [])
  lend_keeps loan count views one home holds at =
      let right = All-at (Fits count) views id v at holds.right in
      let P : Book → Type 0 = λ book. book.brought ≡ book.awaited in
      let lends : Book → Book = with_loan loan in
      let same : (weight : Addition → ℕ) → marked weight (lending loan v) ≡ marked weight v = λ weight. marked_stays weight lends (λ book. refl) v.books in
      let left' : Fits count (lending loan v) = record {
        seen = right.seen;
        below = right.below;
        settled = right.settled;
        marks = λ weight. omega (arith, same weight, right.marks weight);
        books = All-map P lends v.books right.books;
      }
      in
      let token : Fits count (token_for loan v) = right_piece key.n count (token_for loan v) refl (All-nil (λ (it : Addition). it.begin < key.n)) refl in
      record {
        limits = holds.limits;
        right = All-snoc (Fits count) (set views id (lending loan v)) (token_for loan v) token (All-set (Fits count) views id (lending loan v) left' holds.right);
        sums = rests key.n key.workers count (over views) (over (set views id (lending loan v) ++ token_for loan v ∷ [])) (λ measure. measure v) (λ measure. measure (lending loan v) + measure (token_for loan v))
            (split_changes views id v (lending loan v) (token_for loan v) at) holds.sums
            (λ weight. omega arith)
            (λ weight. omega arith)
            (omega arith)
            (λ number. let none = covers_none number 0 in omega (arith, none))
            (omega arith)
            (record {
              receipts = λ weight. omega (arith, same weight);
              tokens = λ weight. let more : lent weight (lending loan v) ≡ lent weight v + weight loan = lent_on weight loan v.books one home in omega (arith, more);
              one = let long = length-map v.books lends in omega (arith, long);
            });
      }

-- the tally splits off a new worker
pub makes : (key : Limits) (id : ℕ) (v : View) → 0 < v.unmade → v.n ≡ key.n → v.most ≡ key.workers → Splits (IsKept key) id v (left_to_make v) (made v)
makes key id v some_left n_is most_is s is_kept me = record {
  count = is_kept.count;
  word = is_kept.word;
  holds = make_keeps key id v is_kept.count s.views some_left n_is most_is is_kept.holds me;
}

-- a worker splits off a piece
pub cuts : (key : Limits) (id : ℕ) (v : View) → v.books ≡ [] → Splits (IsKept key) id v (empty_handed v) (cut v)
cuts key id v no_book s is_kept me = record { count = is_kept.count; word = is_kept.word; holds = cut_keeps key id v is_kept.count s.views no_book is_kept.holds me }

-- the tally splits off a receipt, gives those back that it keeps, or lends the token
pub marks : (key : Limits) (id : ℕ) (v : View) → IsUnmarked v → Splits (IsKept key) id v (last_marked v) (last_receipt v)
marks key id v is s is_kept me = record { count = is_kept.count; word = is_kept.word; holds = mark_keeps key id v is_kept.count s.views is is_kept.holds me }

pub releases : (key : Limits) (id : ℕ) (v : View) → Splits (IsKept key) id v (without_receipts v) (receipts_of v)
releases key id v s is_kept me = record { count = is_kept.count; word = is_kept.word; holds = release_keeps key id v is_kept.count s.views is_kept.holds me }

pub lends : (key : Limits) (id : ℕ) (v : View) (loan : Loan) → tallies v ≡ 1 → lent_in v.books ≡ None → Splits (IsKept key) id v (lending loan v) (token_for loan v)
lends key id v loan one home s is_kept me = record { count = is_kept.count; word = is_kept.word; holds = lend_keeps key id v loan is_kept.count s.views one home is_kept.holds me }

-- the other seat of a join, before the first has both
at_other : (views : List View) (i j : ℕ) (a b : View) → ¬ (j ≡ i) → get_elem? (set views i a) j ≡ some b → get_elem? views j ≡ some b
at_other views i j a b ne e = sym (set_else views i j a ne) ∙ e

spent : (n count : ℕ) → IsRight n count spent_view
spent n count = right_piece n count spent_view refl (All-nil (λ (it : Addition). it.begin < n)) refl

-- the tally joins a piece, a worker or a receipt
pub gathers : (key : Limits) (id : ℕ) (v : View) (other : ℕ) (w : View) → w.unmade ≡ 0 → Joins (IsKept key) id v other w (gathered v w) spent_view
gathers key id v other w none_left s is_kept me apart there = record {
  count = is_kept.count;
  word = is_kept.word;
  holds =
      let count = is_kept.count in let views = s.views in let holds = is_kept.holds in
      let P : View → Type 0 = IsRight key.n count in
      let right = All-at P views id v me holds.right in
      let right_other = All-at P views other w (at_other views id other (gathered v w) w apart there) holds.right in
      let books : (weight : Addition → ℕ) → marked weight (gathered v w) ≡ marked weight v + marked weight w = λ weight. sum_by-append (λ (it : Book). sum_by weight it.marked) v.books w.books in
      let both : P (gathered v w) = record {
        seen = All-append (λ (it : Worker). it.seen ≤ count) v.workers w.workers right.seen right_other.seen;
        below = All-append (λ (it : Addition). it.begin < key.n) v.held w.held right.below right_other.below;
        settled = All-append Settled v.workers w.workers right.settled right_other.settled;
        marks = λ weight. let held = sum_by-append weight v.held w.held in omega (arith, held, books weight, right.marks weight, right_other.marks weight);
        books = All-append (λ (it : Book). it.brought ≡ it.awaited) v.books w.books right.books right_other.books;
      }
      in
      let claims : (weight : Addition → ℕ) → claimed weight (gathered v w) ≡ claimed weight v + claimed weight w =
      λ weight. sum_by-append (λ (it : Worker). sum_by weight it.claims) v.workers w.workers
      in
      record {
        limits = holds.limits;
        right = All-set P (set views id (gathered v w)) other spent_view (spent key.n count) (All-set P views id (gathered v w) both holds.right);
        sums = rests key.n key.workers count (over views) (over (set (set views id (gathered v w)) other spent_view)) (λ measure. measure v + measure w) (λ measure. measure (gathered v w) + measure spent_view)
            (join_changes views id other v w (gathered v w) spent_view me there) holds.sums
            (λ weight. let held = sum_by-append weight v.held w.held in omega (arith, held, claims (blank key.n weight)))
            (λ weight. omega (arith, claims weight))
            (let all_saw = sum_by-append (λ (it : Worker). cond (nat_le key.n it.seen) 1 0) v.workers w.workers in omega (arith, all_saw))
            (λ number.
            let counts = sum_by-append (λ (it : Worker). cond (it.number == number) 1 0) v.workers w.workers in
            let none : covers number w.next w.unmade ≡ 0 = ap (λ size. covers number w.next size) none_left ∙ covers_none number w.next in
            let nothing = covers_none number 0 in
            omega (arith, counts, none, nothing))
            (let long = length-append v.workers w.workers in omega (arith, long, none_left))
            (record {
              receipts = λ weight.
                  let live = sum_by-append weight v.receipts w.receipts in
                  let done = sum_by-append (λ (it : Worker). sum_by weight it.settled) v.workers w.workers in
                  omega (arith, live, done, books weight);
              tokens = λ weight.
                  let live = sum_by-append weight v.tokens w.tokens in
                  let out = sum_by-append (λ (it : Book). loan_weight weight it.lent) v.books w.books in
                  omega (arith, live, out);
              one = let long = length-append v.books w.books in omega (arith, long);
            });
      };
}

-- a worker joins a receipt of one of its claims
pub settles : (key : Limits) (id : ℕ) (v : View) (other : ℕ) (w : View) (worker : Worker) (a : Addition)
    → v ≡ worker_view key.n key.workers worker [] → w ≡ receipt_view key.n key.workers (a ∷ []) → Contains worker.claims a
    → Joins (IsKept key) id v other w (settling v w) spent_view
settles key id v other w worker a v_is w_is among =
    subst (λ x. Joins (IsKept key) id x other w (settling x w) spent_view) (sym v_is)
    (subst (λ y. Joins (IsKept key) id mine other y (settling mine y) spent_view) (sym w_is) keeps)
  where
    mine : View
    mine = worker_view key.n key.workers worker []

    receipt : View
    receipt = receipt_view key.n key.workers (a ∷ [])

    done : View
    done = worker_view key.n key.workers (after_settle (a ∷ []) worker) []

    keeps : Joins (IsKept key) id mine other receipt (settling mine receipt) spent_view
    keeps s is_kept me apart there = record {
      count = is_kept.count;
      word = is_kept.word;
      holds =
          let count = is_kept.count in let views = s.views in let holds = is_kept.holds in
          let P : View → Type 0 = IsRight key.n count in
          let right = All-at P views id mine me holds.right in
          let settled = All-push (Contains worker.claims) worker.settled a (one_settled key.n count mine worker refl right) among in
          let both : P done = right_worker key.n count done (after_settle (a ∷ []) worker) refl (one_seen key.n count mine worker refl right) settled (All-nil (λ (it : Addition). it.begin < key.n)) refl in
          record {
            limits = holds.limits;
            right = All-set P (set views id done) other spent_view (spent key.n count) (All-set P views id done both holds.right);
            sums = rests key.n key.workers count (over views) (over (set (set views id done) other spent_view)) (λ measure. measure mine + measure receipt) (λ measure. measure done + measure spent_view)
                (join_changes views id other mine receipt done spent_view me there) holds.sums
                (λ weight. omega arith)
                (λ weight. omega arith)
                (omega arith)
                (λ number. omega arith)
                (omega arith)
                (record {
                  receipts = λ weight. let pushed = sum_by_push weight worker.settled a in omega (arith, pushed);
                  tokens = λ weight. omega arith;
                  one = omega arith;
                });
          };
    }

-- what the token brings is what was lent
back_books : (loan : Option Loan) (books : List Book) → length books ≡ 1 → lent_in books ≡ loan → All (λ (book : Book). book.brought ≡ book.awaited) (map (back_in loan) books)
back_books loan [] one is = absurd (omega arith)
back_books loan (book ∷ []) one is = All-cons (λ (it : Book). it.brought ≡ it.awaited) (back_in loan book) [] (sym is) (All-nil (λ (it : Book). it.brought ≡ it.awaited))
back_books loan (book ∷ other ∷ books) one is = absurd (omega arith)

pub came_back : (loan : Option Loan) (books : List Book) → length books ≡ 1 → All (λ (book : Book). book.brought ≡ book.awaited) (map (back_in loan) books) → lent_in books ≡ loan
came_back loan [] one all = absurd (omega arith)
came_back loan (book ∷ books) one all = sym (All-head (λ (it : Book). it.brought ≡ it.awaited) (back_in loan book) (map (back_in loan) books) all)

-- the tally joins the token
pub comes_home : (key : Limits) (id : ℕ) (v : View) (other : ℕ) (w : View) (loan : Loan) → tallies v ≡ 1 → w ≡ token_view key.n key.workers (loan ∷ [])
    → Joins (IsKept key) id v other w (back_home v w) spent_view
comes_home key id v other w loan one w_is = subst (λ y. Joins (IsKept key) id v other y (back_home v y) spent_view) (sym w_is) keeps
  where
    token : View
    token = token_view key.n key.workers (loan ∷ [])

    keeps : Joins (IsKept key) id v other token (back_home v token) spent_view
    keeps s is_kept me apart there = record {
      count = is_kept.count;
      word = is_kept.word;
      holds =
          let count = is_kept.count in let views = s.views in let holds = is_kept.holds in
          let P : View → Type 0 = IsRight key.n count in
          let home = back_home v token in
          let right = All-at P views id v me holds.right in
          let there' = at_other views id other home token apart there in
          let out : (weight : Loan → ℕ) → over views (borrowed weight) ≡ lent weight v = λ weight. loans_given key count views holds id v me one weight in
          let lent_is : lent_in v.books ≡ Some loan =
          first_is_loan (lent_in v.books) loan
          (let mine = out (is_loan loan) in
          let its = within key count views holds other token there' (borrowed (is_loan loan)) in
          let one_of = lent_of_one (is_loan loan) v.books one in
          let itself = is_itself loan in
          omega (arith, mine, its, one_of, itself))
          in
          let loans : (weight : Loan → ℕ) → lent weight v ≡ weight loan = λ weight. lent_of_one weight v.books one ∙ ap (loan_weight weight) lent_is in
          let same : (weight : Addition → ℕ) → marked weight home ≡ marked weight v = λ weight. marked_stays weight (back_in (Some loan)) (λ book. refl) v.books in
          let both : P home = record {
            seen = right.seen;
            below = right.below;
            settled = right.settled;
            marks = λ weight. omega (arith, same weight, right.marks weight);
            books = back_books (Some loan) v.books one lent_is;
          }
          in
          record {
            limits = holds.limits;
            right = All-set P (set views id home) other spent_view (spent key.n count) (All-set P views id home both holds.right);
            sums = rests key.n key.workers count (over views) (over (set (set views id home) other spent_view)) (λ measure. measure v + measure token) (λ measure. measure home + measure spent_view)
                (join_changes views id other v token home spent_view me there) holds.sums
                (λ weight. omega arith)
                (λ weight. omega arith)
                (omega arith)
                (λ number. omega arith)
                (omega arith)
                (record {
                  receipts = λ weight. omega (arith, same weight);
                  tokens = λ weight. let none : lent weight home ≡ 0 = none_back weight (Some loan) v.books in omega (arith, none, loans weight);
                  one = let long = length-map v.books (back_in (Some loan)) in omega (arith, long);
                });
          };
    }
