-- Receipts, loans and the book of the tally.
use Rattle.std.proofs.Common.{◌≡◌, ℕ, ◌+◌, ◌*◌, ◌<◌, ◌≤◌, ◌==◌, ◌&&◌, cond, Bool, true, false, List, [], ◌∷◌, ◌++◌, length, map, sym, refl, ap, ◌∙◌, arith, sum_by, Option, Some, None}
use Rattle.std.proofs.lemmas.Bool.Decides.{Decides-and, Decides-eqb, Decides-like}
use Rattle.std.specs.Bool.{Decides}
use lib.Pointwise.{pointwise}
use Rattle.std.specs.Str.{bytes_eq}
use Rattle.std.proofs.lemmas.List.Sums.{sum_by-cons, sum_by-append, sum_by_push}
use Rattle.std.proofs.lemmas.Slice.Eq.{bytes_eq-Decides, slice_eq-Decides}
use Rattle.qtc_claim.specs.declared.rule.View.{View}
use Rattle.qtc_claim.specs.Claims.{Addition, Worker, Loan, Book, settled_of}
use Rattle.qtc_claim.specs.Rule.{loan_weight, marked, lent, tallies, with_mark, with_loan, back_in, last_from}
use Rattle.qtc_claim.specs.Inside.{lent_in}

-- what a book has that was marked, lent or brought home, where there is one
module _ (weight : Addition → ℕ) where
  pub marked_on : (addition : Addition) (books : List Book) → length books ≡ 1
      → sum_by (λ (book : Book). sum_by weight book.marked) (map (with_mark addition) books) ≡ sum_by (λ (book : Book). sum_by weight book.marked) books + weight addition
  marked_on addition [] one = absurd (omega arith)
  marked_on addition (book ∷ []) one = let pushed = sum_by_push weight book.marked addition in omega (arith, pushed)
  marked_on addition (book ∷ other ∷ books) one = absurd (omega arith)

  pub marked_stays : (f : Book → Book) → ((book : Book) → (f book).marked ≡ book.marked) → (books : List Book)
      → sum_by (λ (book : Book). sum_by weight book.marked) (map f books) ≡ sum_by (λ (book : Book). sum_by weight book.marked) books
  marked_stays f same [] = refl
  marked_stays f same (book ∷ books) =
      let rest = marked_stays f same books in
      let here : sum_by weight (f book).marked ≡ sum_by weight book.marked = ap (sum_by weight) (same book) in
      omega (arith, rest, here, sum_by-cons (λ (it : Book). sum_by weight it.marked) (f book) (map f books), sum_by-cons (λ (it : Book). sum_by weight it.marked) book books)

module _ (weight : Loan → ℕ) where
  pub lent_on : (loan : Loan) (books : List Book) → length books ≡ 1 → lent_in books ≡ None
      → sum_by (λ (book : Book). loan_weight weight book.lent) (map (with_loan loan) books) ≡ sum_by (λ (book : Book). loan_weight weight book.lent) books + weight loan
  lent_on loan [] one home = absurd (omega arith)
  lent_on loan (book ∷ []) one home = let none : loan_weight weight book.lent ≡ 0 = ap (loan_weight weight) home in omega (arith, none)
  lent_on loan (book ∷ other ∷ books) one home = absurd (omega arith)

  pub lent_of_one : (books : List Book) → length books ≡ 1 → sum_by (λ (book : Book). loan_weight weight book.lent) books ≡ loan_weight weight (lent_in books)
  lent_of_one [] one = absurd (omega arith)
  lent_of_one (book ∷ []) one = omega arith
  lent_of_one (book ∷ other ∷ books) one = absurd (omega arith)

  pub lent_stays : (f : Book → Book) → ((book : Book) → (f book).lent ≡ book.lent) → (books : List Book)
      → sum_by (λ (book : Book). loan_weight weight book.lent) (map f books) ≡ sum_by (λ (book : Book). loan_weight weight book.lent) books
  lent_stays f same [] = refl
  lent_stays f same (book ∷ books) =
      let rest = lent_stays f same books in
      let here : loan_weight weight (f book).lent ≡ loan_weight weight book.lent = ap (loan_weight weight) (same book) in
      omega (arith, rest, here, sum_by-cons (λ (it : Book). loan_weight weight it.lent) (f book) (map f books), sum_by-cons (λ (it : Book). loan_weight weight it.lent) book books)

  pub none_back : (loan : Option Loan) (books : List Book) → sum_by (λ (book : Book). loan_weight weight book.lent) (map (back_in loan) books) ≡ 0
  none_back loan [] = refl
  none_back loan (book ∷ books) =
      let rest = none_back loan books in
      omega (arith, rest, sum_by-cons (λ (it : Book). loan_weight weight it.lent) (back_in loan book) (map (back_in loan) books))

-- no book, nothing marked and nothing lent
pub no_marks : (weight : Addition → ℕ) (view : View) → tallies view ≡ 0 → marked weight view ≡ 0
no_marks weight view none = by view.books none
  where
    by : (books : List Book) → length books ≡ 0 → sum_by (λ (book : Book). sum_by weight book.marked) books ≡ 0
    by [] e = refl
    by (book ∷ books) e = absurd (omega arith)

pub no_loans : (weight : Loan → ℕ) (view : View) → tallies view ≡ 0 → lent weight view ≡ 0
no_loans weight view none = by view.books none
  where
    by : (books : List Book) → length books ≡ 0 → sum_by (λ (book : Book). loan_weight weight book.lent) books ≡ 0
    by [] e = refl
    by (book ∷ books) e = absurd (omega arith)

-- whether two loans are the same
abbrev same_texts : List (List ℕ) → List (List ℕ) → Bool
same_texts = pointwise bytes_eq

abbrev same_loan : Loan → Loan → Bool
same_loan a b = same_texts a.note b.note && ((a.due.begin == b.due.begin) && (a.due.size == b.due.size))

abbrev pub is_loan : Loan → Loan → ℕ
is_loan a b = cond (same_loan a b) 1 0

loan_decides : (a b : Loan) → Decides (same_loan a b) (a ≡ b)
loan_decides a b =
    let note = slice_eq-Decides bytes_eq-Decides a.note b.note (same_texts a.note b.note) refl in
    let due = Decides-and (a.due.begin == b.due.begin) (a.due.size == b.due.size) (Decides-eqb a.due.begin b.due.begin) (Decides-eqb a.due.size b.due.size) in
    let both = Decides-and (same_texts a.note b.note) ((a.due.begin == b.due.begin) && (a.due.size == b.due.size)) note due in
    Decides-like (same_loan a b)
    (λ (h : (a.note ≡ b.note) × ((a.due.begin ≡ b.due.begin) × (a.due.size ≡ b.due.size))). λ i. record { note = h.0 i; due = record { begin = h.1.0 i; size = h.1.1 i } })
    (λ (e : a ≡ b). (ap (λ (l : Loan). l.note) e, (ap (λ (l : Loan). l.due.begin) e, ap (λ (l : Loan). l.due.size) e)))
    both

pub is_itself : (loan : Loan) → is_loan loan loan ≡ 1
is_itself loan = ap (λ b. cond b 1 0) ((loan_decides loan loan).1 refl)

pub one_loan : (a b : Loan) → 1 ≤ is_loan a b → a ≡ b
one_loan a b some = (loan_decides a b).0 (by (same_loan a b) some)
  where
    by : (x : Bool) → 1 ≤ cond x 1 0 → x ≡ true
    by true e = refl
    by false e = absurd (omega arith)

pub first_is_loan : (loan : Option Loan) (token : Loan) → 1 ≤ loan_weight (is_loan token) loan → loan ≡ Some token
first_is_loan None token some = absurd (omega arith)
first_is_loan (Some loan) token some = ap Some (sym (one_loan token loan some))

pub last_pushed : (first : Addition) (xs : List Addition) (x : Addition) → last_from first (xs ++ x ∷ []) ≡ x
last_pushed first [] x = refl
last_pushed first (y ∷ ys) x = last_pushed y ys x

-- an empty list weighs nothing
pub weighs_nothing : (xs : List Addition) → sum_by (λ (_ : Addition). 1) xs ≡ 0 → xs ≡ []
weighs_nothing [] none = refl
weighs_nothing (x ∷ xs) none = absurd (let parts = sum_by-cons (λ (_ : Addition). 1) x xs in omega arith)

-- what the workers settled, worker by worker
pub of_settled : (weight : Addition → ℕ) (workers : List Worker) → sum_by weight (settled_of workers) ≡ sum_by (λ (worker : Worker). sum_by weight worker.settled) workers
of_settled weight [] = refl
of_settled weight (worker ∷ workers) =
    let rest = of_settled weight workers in
    sum_by-append weight worker.settled (settled_of workers)
    ∙ omega arith
    ∙ sym (sum_by-cons (λ (it : Worker). sum_by weight it.settled) worker workers)
