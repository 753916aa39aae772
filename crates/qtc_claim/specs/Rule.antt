-- The rule of a counter's table: one word, the counter, and no slots (own). It is a few sums over all views, so that
-- each kind of step is judged by what one or two views change.
use Rattle.std.specs.Prelude.{◌≡◌, ℕ, ◌+◌, ◌-◌, ◌*◌, ◌<◌, ◌≤◌, cond, nat_lt, nat_le, List, [], ◌∷◌, ◌++◌, map, length, sum_by, count_by, All, Contains, Option, Some, None}
use Rattle.atomic_table.specs.Table.{State}
use Rattle.qtc_base.specs.Ranges.{in_range}
use Rattle.qtc_claim.specs.declared.rule.View.{View}
use Rattle.qtc_claim.specs.declared.rule.Limits.{Limits}
use Rattle.qtc_claim.specs.Claims.{IsWithinLimits, Addition, addition_at, Worker, new_worker, after_load, after_addition, after_settle, times_numbered, Loan, Book}
use Rattle.qtc_base.specs.Limits.{most_block}

-- Views. One shape serves all: what a seat is shows in what its view has. That is the workers that it is or gathered,
-- the ranges that it holds, and the numbers from `next` on, `unmade` of them, that it has still to give to workers.
-- `n` and `most` are how many indexes and workers the counter has. A receipt is a view with that, a token one with what
-- it is lent for, and the tally has the one book.

-- a worker, with its range in hand or none
abbrev pub worker_view : (n most : ℕ) → Worker → List Addition → View
worker_view n most worker held = record {
  n = n;
  most = most;
  next = 0;
  unmade = 0;
  workers = worker ∷ [];
  held = held;
  receipts = [];
  tokens = [];
  books = [];
}

-- what has nothing
abbrev pub empty_view : (n most : ℕ) → View
empty_view n most = record {
  n = n;
  most = most;
  next = 0;
  unmade = 0;
  workers = [];
  held = [];
  receipts = [];
  tokens = [];
  books = [];
}

-- a piece
abbrev pub piece_view : (n most : ℕ) → List Addition → View
piece_view n most held = record (empty_view n most) { held = held }

-- a receipt
abbrev pub receipt_view : (n most : ℕ) → List Addition → View
receipt_view n most receipts = record (empty_view n most) { receipts = receipts }

-- a token
abbrev pub token_view : (n most : ℕ) → List Loan → View
token_view n most tokens = record (empty_view n most) { tokens = tokens }

abbrev pub new_book : Book
new_book = record { marked = []; lent = None; brought = None; awaited = None }

-- the tally, before it made a worker or gathered anything
abbrev pub first_view : Limits → View
first_view key = record (empty_view key.n key.workers) { unmade = key.workers; books = new_book ∷ [] }

-- a seat that was joined away
abbrev pub spent_view : View
spent_view = empty_view 0 0

-- Sums. What a view has is measured by a weight for each addition, or by a number.

-- 1 where the number is among the `size` numbers from `begin` on, else 0
abbrev pub covers : (number begin size : ℕ) → ℕ
covers number begin size = cond (in_range number (begin, begin + size)) 1 0

abbrev pub covering : ℕ → Addition → ℕ
covering number addition = covers number addition.begin addition.size

-- an addition's weight, where it began at n or past it, and so gave no piece
abbrev pub blank : ℕ → (Addition → ℕ) → Addition → ℕ
blank n weight addition = cond (nat_le n addition.begin) (weight addition) 0

-- all additions of the view's workers
abbrev pub claimed : (Addition → ℕ) → View → ℕ
claimed weight view = sum_by (λ worker. sum_by weight worker.claims) view.workers

-- the ranges in hand, in pieces or gathered, and the blank ones
abbrev pub kept : ℕ → (Addition → ℕ) → View → ℕ
kept n weight view = sum_by weight view.held + claimed (blank n weight) view

-- how many of its workers saw n or more
abbrev pub saw : ℕ → View → ℕ
saw n view = count_by (λ worker. nat_le n worker.seen) view.workers

-- how often it has the number, as one of its workers' or as one that it has still to give
abbrev pub numbered : ℕ → View → ℕ
numbered number view = times_numbered number view.workers + covers number view.next view.unmade

abbrev pub seats : View → ℕ
seats view = length view.workers + view.unmade

-- the receipts that it has, and what its workers settled
abbrev pub receipted : (Addition → ℕ) → View → ℕ
receipted weight view = sum_by weight view.receipts + sum_by (λ worker. sum_by weight worker.settled) view.workers

-- what it gave receipts for
abbrev pub marked : (Addition → ℕ) → View → ℕ
marked weight view = sum_by (λ book. sum_by weight book.marked) view.books

-- what its tokens are lent for
abbrev pub borrowed : (Loan → ℕ) → View → ℕ
borrowed weight view = sum_by weight view.tokens

abbrev pub loan_weight : (Loan → ℕ) → Option Loan → ℕ
loan_weight weight None = 0
loan_weight weight (Some loan) = weight loan

-- what its book lent the token for
abbrev pub lent : (Loan → ℕ) → View → ℕ
lent weight view = sum_by (λ book. loan_weight weight book.lent) view.books

abbrev pub tallies : View → ℕ
tallies view = length view.books

-- what holds of each view where the counter is `count`
pub record IsRight (n count : ℕ) (view : View) : Type 0 where
  pub seen : All (λ worker. worker.seen ≤ count) view.workers
  pub below : All (λ addition. addition.begin < n) view.held
  -- what a worker settled it claimed
  pub settled : All (λ worker. All (Contains worker.claims) worker.settled) view.workers
  -- receipts are of what is gathered, one for each
  pub marks : (weight : Addition → ℕ) → marked weight view ≤ sum_by weight view.held
  -- a token brings what it was lent for
  pub books : All (λ book. book.brought ≡ book.awaited) view.books

-- what holds of all views together, where `total` adds a measure up over them
pub record AddsUp (n most count : ℕ) (total : (View → ℕ) → ℕ) : Type 0 where
  -- the ranges in hand, in pieces, gathered and blank are just those of all claims, each once
  pub once : (weight : Addition → ℕ) → total (kept n weight) ≡ total (claimed weight)
  -- the claims cover each number below the counter once, and no other
  pub tiles : (number : ℕ) → total (claimed (covering number)) ≡ covers number 0 count
  -- and add up to the counter
  pub sizes : total (claimed (λ addition. addition.size)) ≡ count
  -- each worker that saw n or more brought the counter at most so much further
  pub bound : count ≤ n + most_block * total (saw n)
  -- each number of a worker was given once, or is still to give
  pub numbers : (number : ℕ) → total (numbered number) ≡ covers number 0 most
  pub places : total seats ≡ most
  -- the receipts, live or settled, are those that the tally gave, each once
  pub receipts : (weight : Addition → ℕ) → total (receipted weight) ≡ total (marked weight)
  -- the tokens are what the tally lent, each once; there is one tally, which lends one at a time
  pub tokens : (weight : Loan → ℕ) → total (borrowed weight) ≡ total (lent weight)
  pub one : total tallies ≡ 1

pub record Holds (key : Limits) (count : ℕ) (views : List View) : Type 0 where
  pub limits : IsWithinLimits key.n key.workers
  pub right : All (IsRight key.n count) views
  pub sums : AddsUp key.n key.workers count (λ measure. sum_by measure views)

pub record IsKept (key : Limits) (s : State (Unit {0}) View) : Type 0 where
  pub count : ℕ
  pub word : s.words ≡ count ∷ []
  pub holds : Holds key count s.views

-- What a view's owner knows once it found the counter at `count`.

-- where the view has every worker
pub record KnowsAll (view : View) (count : ℕ) : Type 0 where
  pub tiles : (number : ℕ) → claimed (covering number) view ≡ covers number 0 count
  pub sizes : claimed (λ addition. addition.size) view ≡ count
  pub nothing_out : kept view.n (λ addition. addition.size) view ≡ count
      → (number : ℕ) → kept view.n (covering number) view ≡ covers number 0 count
  pub numbers : (number : ℕ) → numbered number view ≡ covers number 0 view.most
  -- the others hold what of its claims it doesn't have
  pub out : (out : List Addition) × ((weight : Addition → ℕ) →
      kept view.n weight view + sum_by weight out ≡ claimed weight view)

pub record Knows (view : View) (count : ℕ) : Type 0 where
  pub right : IsRight view.n count view
  pub bound : count ≤ view.n + most_block * view.most
  pub apart : (number : ℕ) → claimed (covering number) view ≤ 1
  pub pieces_apart : (number : ℕ) → sum_by (covering number) view.held ≤ 1
  pub sizes : claimed (λ addition. addition.size) view ≤ count
  pub kept_sizes : kept view.n (λ addition. addition.size) view ≤ count
  pub numbers : (number : ℕ) → numbered number view ≤ covers number 0 view.most
  pub places : seats view ≤ view.most
  pub all : length view.workers ≡ view.most → KnowsAll view count
  -- the tally gave the receipts that it has and those that its workers settled
  pub receipts : tallies view ≡ 1 → (weight : Addition → ℕ) → receipted weight view ≤ marked weight view

-- What the steps make of a view.

-- a worker that found the counter at `count`
abbrev pub looked : ℕ → View → View
looked count view = record view { workers = map (after_load count) view.workers }

-- a worker that added `size` to it there, with the range in hand where that began below n
abbrev pub grown : (count size : ℕ) → View → View
grown count size view = record view {
  workers = map (after_addition (addition_at count size)) view.workers;
  held = cond (nat_lt count view.n) (addition_at count size ∷ []) [];
}

-- the tally gives a new worker the next number
abbrev pub left_to_make : View → View
left_to_make view = record view { next = view.next + 1; unmade = view.unmade - 1 }

abbrev pub made : View → View
made view = worker_view view.n view.most (new_worker view.next) []

-- a worker gives the range in hand away, as a piece
abbrev pub empty_handed : View → View
empty_handed view = record view { held = [] }

abbrev pub cut : View → View
cut view = piece_view view.n view.most view.held

-- the tally takes in a piece, a worker or a receipt
abbrev pub gathered : View → View → View
gathered view other = record view {
  workers = view.workers ++ other.workers;
  held = view.held ++ other.held;
  receipts = view.receipts ++ other.receipts;
  tokens = view.tokens ++ other.tokens;
  books = view.books ++ other.books;
}

-- the tally gives the receipt of the range that it gathered last
abbrev pub last_from : Addition → List Addition → Addition
last_from first [] = first
last_from first (next ∷ others) = last_from next others

abbrev pub last_of : View → Addition
last_of view = last_from (addition_at 0 0) view.held

abbrev pub with_mark : Addition → Book → Book
with_mark addition book = record book { marked = book.marked ++ addition ∷ [] }

abbrev pub last_marked : View → View
last_marked view = record view { books = map (with_mark (last_of view)) view.books }

abbrev pub last_receipt : View → View
last_receipt view = receipt_view view.n view.most (last_of view ∷ [])

-- there is a receipt of it to give
pub record IsUnmarked (view : View) : Type 0 where
  pub one : tallies view ≡ 1
  pub unmarked : (weight : Addition → ℕ) → marked weight view + weight (last_of view) ≤ sum_by weight view.held

-- a worker takes in a receipt
abbrev pub settling : View → View → View
settling view other = record view { workers = map (after_settle other.receipts) view.workers }

-- the tally gives back the receipts that it took in
abbrev pub without_receipts : View → View
without_receipts view = record view { receipts = [] }

abbrev pub receipts_of : View → View
receipts_of view = receipt_view view.n view.most view.receipts

-- the tally lends the token
abbrev pub with_loan : Loan → Book → Book
with_loan loan book = record book { lent = Some loan }

abbrev pub lending : Loan → View → View
lending loan view = record view { books = map (with_loan loan) view.books }

abbrev pub token_for : Loan → View → View
token_for loan view = token_view view.n view.most (loan ∷ [])

-- the token comes home, and the book keeps what it brought beside what was lent
abbrev pub first_loan : List Loan → Option Loan
first_loan [] = None
first_loan (loan ∷ _) = Some loan

abbrev pub back_in : Option Loan → Book → Book
back_in loan book = record book { lent = None; brought = loan; awaited = book.lent }

abbrev pub back_home : View → View → View
back_home view other = record view { books = map (back_in (first_loan other.tokens)) view.books }

-- What the steps that read or change the counter tell: what became of the view, that its workers had seen no more than
-- was found, and what its owner knows now.

abbrev pub Looks : View → ℕ → View → Type 0
Looks before found after =
    (after ≡ looked found before) × All (λ worker. worker.seen ≤ found) before.workers × Knows after found

abbrev pub Grows : ℕ → View → ℕ → View → Type 0
Grows size before found after =
    (after ≡ grown found size before) × All (λ worker. worker.seen ≤ found) before.workers × Knows after (found + size)

abbrev pub Reads : View → ℕ → View → Type 0
Reads before found after = (after ≡ before) × Knows before found
