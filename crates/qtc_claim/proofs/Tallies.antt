-- What the book of a tally has after its steps.
use Rattle.std.proofs.Common.{◌≡◌, ℕ, ◌+◌, ◌≤◌, List, [], ◌∷◌, ◌++◌, length, map, sym, refl, ap, ◌∙◌, subst, arith, sum_by, append-nil, Option, Some, None}
use Rattle.std.proofs.lemmas.List.{length-map}
use Rattle.std.proofs.lemmas.List.Sums.{sum_by_push}
use Rattle.qtc_claim.specs.declared.rule.View.{View}
use Rattle.qtc_claim.specs.Claims.{Addition, addition_at, Loan, Book}
use Rattle.qtc_claim.specs.Rule.{marked, tallies, gathered, IsUnmarked, last_from, last_of, with_mark, last_marked, with_loan, back_in}
use Rattle.qtc_claim.specs.Inside.{lent_in}
use Rattle.qtc_claim.proofs.Books.{marked_on, marked_stays, last_pushed}

-- a piece was joined
module _ (v w : View) (a : Addition) (one : tallies v ≡ 1) (all : (weight : Addition → ℕ) → marked weight v ≡ sum_by weight v.held) (piece : w.held ≡ a ∷ []) (no_book : w.books ≡ []) where
  same_books : (gathered v w).books ≡ v.books
  same_books = ap (λ more. v.books ++ more) no_book ∙ append-nil v.books

  held_more : (gathered v w).held ≡ v.held ++ a ∷ []
  held_more = ap (λ more. v.held ++ more) piece

  pub still_one : tallies (gathered v w) ≡ 1
  still_one = ap length same_books ∙ one

  last_is : last_of (gathered v w) ≡ a
  last_is = ap (last_from (addition_at 0 0)) held_more ∙ last_pushed (addition_at 0 0) v.held a

  same_marks : (weight : Addition → ℕ) → marked weight (gathered v w) ≡ sum_by weight v.held
  same_marks weight = ap (sum_by (λ (book : Book). sum_by weight book.marked)) same_books ∙ all weight

  weighs_more : (weight : Addition → ℕ) → sum_by weight (gathered v w).held ≡ sum_by weight v.held + weight a
  weighs_more weight = ap (sum_by weight) held_more ∙ sum_by_push weight v.held a

  pub is_unmarked : IsUnmarked (gathered v w)
  is_unmarked = record {
    one = still_one;
    unmarked = λ weight. let last = ap weight last_is in omega (arith, same_marks weight, weighs_more weight, last);
  }

  pub one_marked : tallies (last_marked (gathered v w)) ≡ 1
  one_marked = length-map (gathered v w).books (with_mark (last_of (gathered v w))) ∙ still_one

  pub all_marked : (weight : Addition → ℕ) → marked weight (last_marked (gathered v w)) ≡ sum_by weight (last_marked (gathered v w)).held
  all_marked weight =
      let more = marked_on weight (last_of (gathered v w)) (gathered v w).books still_one in
      let last = ap weight last_is in
      omega (arith, more, last, same_marks weight, weighs_more weight)

  lent_stays_in : (addition : Addition) (books : List Book) → lent_in (map (with_mark addition) books) ≡ lent_in books
  lent_stays_in addition [] = refl
  lent_stays_in addition (book ∷ books) = refl

  pub same_lent : lent_in (last_marked (gathered v w)).books ≡ lent_in v.books
  same_lent = lent_stays_in (last_of (gathered v w)) (gathered v w).books ∙ ap lent_in same_books

  pub receipt_is : last_of (gathered v w) ≡ a
  receipt_is = last_is

-- the token goes out, and comes home
pub lent_now : (loan : Loan) (books : List Book) → length books ≡ 1 → lent_in (map (with_loan loan) books) ≡ Some loan
lent_now loan [] one = absurd (omega arith)
lent_now loan (book ∷ books) one = refl

pub home_now : (loan : Option Loan) (books : List Book) → lent_in (map (back_in loan) books) ≡ None
home_now loan [] = refl
home_now loan (book ∷ books) = refl
