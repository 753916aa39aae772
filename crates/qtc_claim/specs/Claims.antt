-- Claimed ranges (own). Workers add to one counter; an addition claims the numbers from the counter as it was up to
-- what it became.
use Rattle.std.specs.Prelude.{◌≡◌, ℕ, ◌+◌, ◌≤◌, ◌==◌, cond, nat_le, nat_lt, List, ◌++◌, [], ◌∷◌, map, filter, sum_by, count_by, Option}
use Rattle.std.specs.List.{flat_map}
use Rattle.qtc_base.specs.Limits.{most_items, most_workers}
use Rattle.qtc_base.specs.Ranges.{times_covered, clip}

-- n indexes, and so many workers, within the limits
pub record IsWithinLimits (n workers : ℕ) : Type 0 where
  pub indexes : n ≤ most_items
  pub one : 1 ≤ workers
  pub few : workers ≤ most_workers

-- one addition of `size`, made where the counter was `begin`
pub record Addition : Type 0 where
  pub begin : ℕ
  pub size : ℕ

abbrev pub addition_at : (begin size : ℕ) → Addition
addition_at begin size = record { begin = begin; size = size }

-- the numbers that it claims
abbrev pub raw : Addition → ℕ × ℕ
raw addition = (addition.begin, addition.begin + addition.size)

-- those of them that are below n
abbrev pub clipped : ℕ → Addition → ℕ × ℕ
clipped n addition = clip addition.begin addition.size n

-- what the additions added together
abbrev pub added : List Addition → ℕ
added additions = sum_by (λ addition. addition.size) additions

-- what those of them added that began at n or past it, and so gave no piece
abbrev pub added_past : ℕ → List Addition → ℕ
added_past n additions = sum_by (λ addition. cond (nat_le n addition.begin) addition.size 0) additions

-- those of them that began below n, and so gave a piece
abbrev pub gave : ℕ → List Addition → List Addition
gave n additions = filter (λ addition. nat_lt addition.begin n) additions

-- some additions and others are all of these, each once: however additions are weighed, they weigh as much
pub record AreParts (some others all : List Addition) : Type 0 where
  pub once : (weight : Addition → ℕ) → sum_by weight some + sum_by weight others ≡ sum_by weight all

-- each number is claimed by one of them at most; so is each index, of what they claim below n
pub record MeetNowhere (n : ℕ) (additions : List Addition) : Type 0 where
  pub once : (number : ℕ) → times_covered (map raw additions) number ≤ 1
  pub once_below : (number : ℕ) → times_covered (map (clipped n) additions) number ≤ 1

-- a worker: its number, how often it loaded the counter, the counter as it last loaded or made it, its additions, in
-- order, and those of them of whose piece it has the receipt
pub record Worker : Type 0 where
  pub number : ℕ
  pub loads : ℕ
  pub seen : ℕ
  pub claims : List Addition
  pub settled : List Addition

abbrev pub new_worker : ℕ → Worker
new_worker number = record { number = number; loads = 0; seen = 0; claims = []; settled = [] }

-- it loaded the counter, which was `count`
abbrev pub after_load : ℕ → Worker → Worker
after_load count worker = record {
  number = worker.number;
  loads = worker.loads + 1;
  seen = count;
  claims = worker.claims;
  settled = worker.settled;
}

-- it made an addition
abbrev pub after_addition : Addition → Worker → Worker
after_addition addition worker = record {
  number = worker.number;
  loads = worker.loads;
  seen = addition.begin + addition.size;
  claims = worker.claims ++ addition ∷ [];
  settled = worker.settled;
}

-- it settled these, of whose pieces it got the receipts
abbrev pub after_settle : List Addition → Worker → Worker
after_settle receipts worker = record worker { settled = worker.settled ++ receipts }

-- how many of the workers have the number
abbrev pub times_numbered : ℕ → List Worker → ℕ
times_numbered number workers = count_by (λ worker. worker.number == number) workers

-- all that the workers claimed
abbrev pub claims_of : List Worker → List Addition
claims_of workers = flat_map (λ worker. worker.claims) workers

-- all that the workers settled
abbrev pub settled_of : List Worker → List Addition
settled_of workers = flat_map (λ worker. worker.settled) workers

-- what a token is lent for, which its taker names: a list of texts, and the addition of a piece that is due with it
pub record Loan : Type 0 where
  pub note : List (List ℕ)
  pub due : Addition

-- what a tally has beside its pieces and workers: the additions of the pieces whose receipt it gave, what the token is
-- lent for while it is out, and what the token brought that came home last, with what was lent just before
pub record Book : Type 0 where
  pub marked : List Addition
  pub lent : Option Loan
  pub brought : Option Loan
  pub awaited : Option Loan
