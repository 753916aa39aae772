-- What a filter store shows, in words of the batches in order of arrival.
use Rattle.std.proofs.Common.{◌≡◌, ℕ, ◌+◌, ◌<◌, ◌≤◌, Bool, true, false, ◌&&◌, nat_lt, cond, List, [], ◌∷◌, ◌++◌, fold, All, Contains, Option, Some, None, is_none, inl, inr, refl, sym, ◌∙◌, subst, arith, append_assoc}
use Rattle.std.proofs.lemmas.Bool.{cases_eq}
use Rattle.std.proofs.lemmas.Bool.Decides.{nat_tests}
use Rattle.std.proofs.lemmas.List.Elements.{All-weaker, All-contains, All-contains_itself, All-nil, All-cons, All-push, Contains-append_right, Contains-append_cases}
use Rattle.std.proofs.lemmas.List.Sorted.{IsPermutation-sym, Contains-permutation}
use Rattle.qtc_store.specs.declared.batch.Batch.{Batch}
use Rattle.qtc_store.specs.declared.batch.Addition.{Addition}
use Rattle.qtc_store.specs.Batches.{end_of, placed, in_order, least_covered, AreApart}
use Rattle.qtc_store.specs.Visible.{meeting}
use Rattle.qtc_store.specs.Stored.{refusal}
use Rattle.qtc_store.specs.Adds.{batch_of, is_accepted, accepted_with, accepted_of, store_of, AreTaken, ShowsTaken}
use Rattle.qtc_store.proofs.Ascending.{in_order_moves}
use Rattle.qtc_store.proofs.Meeting.{meeting-next, meeting-stop}
use Rattle.qtc_store.proofs.Offers.{fold_push, is_covered-in_order}
use Rattle.qtc_store.proofs.Placed.{IsFree, free_from, apart_placed}

-- ---- accepted batches lie apart
free_if : (least : Option ℕ) (end : ℕ) (some : Bool) → (is_none (refusal least end) && some) ≡ true → least ≡ None
free_if None end some e = refl
free_if (Some index) end some e = absurd (cc)

some_if : (a : Bool) (total : ℕ) → (a && nat_lt 0 total) ≡ true → 0 < total
some_if a total e = grind (arith, nat_tests)

apart_push : {V : Type 0} (accepted : List (Batch V)) (b : Batch V) → AreApart 0 (in_order accepted) → 0 < b.total → IsFree accepted b.begin (end_of b) → AreApart 0 (in_order (accepted ++ b ∷ []))
apart_push accepted b a some f =
    let free : IsFree (in_order accepted) b.begin (end_of b) = record { free = λ index above below. is_covered-in_order accepted index ∙ f.free index above below } in
    subst (AreApart 0) (sym (fold_push placed [] accepted b)) (apart_placed 0 (in_order accepted) b a (omega arith) some free)

apart_with : {V : Type 0} (accepted : List (Batch V)) (addition : Addition V) → AreApart 0 (in_order accepted) → AreApart 0 (in_order (accepted_with accepted addition))
apart_with accepted addition a =
    let b = batch_of accepted addition in
    elim (is_accepted accepted b) as (λ t. is_accepted accepted b ≡ t → AreApart 0 (in_order (cond t (accepted ++ b ∷ []) accepted))) [
      | true ↦ λ e. apart_push accepted b a (some_if (is_none (refusal (least_covered accepted b.begin b.total) (b.begin + b.total))) b.total e) (free_from accepted b.begin b.total (free_if (least_covered accepted b.begin b.total) (b.begin + b.total) (nat_lt 0 b.total) e))
      | false ↦ λ e. a
    ] refl

apart_all : {V : Type 0} (additions : List (Addition V)) (accepted : List (Batch V)) → AreApart 0 (in_order accepted) → AreApart 0 (in_order (fold accepted_with accepted additions))
apart_all [] accepted a = a
apart_all (addition ∷ additions) accepted a = apart_all additions (accepted_with accepted addition) (apart_with accepted addition a)

-- ---- the batches that meet are those that are taken
begins_from : {V : Type 0} (low : ℕ) (batches : List (Batch V)) → AreApart low batches → All (λ (b : Batch V). low ≤ b.begin) batches
begins_from {V = V} low [] a = All-nil (λ (b : Batch V). low ≤ b.begin)
begins_from {V = V} low (b ∷ batches) a =
    let P : Batch V → Type 0 = λ x. low ≤ x.begin in
    let Q : Batch V → Type 0 = λ x. end_of b ≤ x.begin in
    All-cons P b batches a.0 (All-weaker Q P (λ x h. omega (arith, h, a.0)) batches (begins_from (end_of b) batches a.2))

abbrev BeginsBefore : {V : Type 0} → ℕ → Batch V → Type 0
BeginsBefore place b = b.begin < place

abbrev BeginsElsewhere : {V : Type 0} → ℕ → Batch V → Type 0
BeginsElsewhere place b = ¬ (b.begin ≡ place)

-- the accepted batches are those in front of the place and these
record AreAll {V : Type 0} (accepted front batches : List (Batch V)) (place : ℕ) : Type 0 where
  before : All (BeginsBefore place) front
  apart : AreApart place batches
  within : (b : Batch V) → Contains accepted b → Contains (front ++ batches) b
  among : (b : Batch V) → Contains (front ++ batches) b → Contains accepted b

none_at : {V : Type 0} (accepted front batches : List (Batch V)) (place : ℕ) → AreAll accepted front batches place → ((b : Batch V) → Contains batches b → ¬ (b.begin ≡ place)) → All (BeginsElsewhere place) accepted
none_at {V = V} accepted front batches place a other =
    All-weaker (Contains accepted) (BeginsElsewhere {V = V} place)
    (λ b is. elim (Contains-append_cases front batches b (a.within b is)) [
      | inl in_front ↦ let less = All-contains (BeginsBefore {V = V} place) front b a.before in_front in (λ same. omega (arith, less, same))
      | inr in_batches ↦ other b in_batches
    ])
    accepted (All-contains_itself accepted)

none_behind : {V : Type 0} (low place : ℕ) (batches : List (Batch V)) (b : Batch V) → AreApart low batches → place < low → Contains batches b → ¬ (b.begin ≡ place)
none_behind {V = V} low place batches b a less is same =
    let P : Batch V → Type 0 = λ x. low ≤ x.begin in
    let above = All-contains P batches b (begins_from low batches a) is in
    omega (arith, above)

all_next : {V : Type 0} (accepted front batches : List (Batch V)) (b : Batch V) (place : ℕ) → AreAll accepted front (b ∷ batches) place → b.begin ≡ place → AreAll accepted (front ++ b ∷ []) batches (end_of b)
all_next {V = V} accepted front batches b place a same =
    let whole : (front ++ b ∷ []) ++ batches ≡ front ++ b ∷ batches = append_assoc front (b ∷ []) batches in
    record {
      before = All-push (BeginsBefore {V = V} (end_of b)) front b (All-weaker (BeginsBefore {V = V} place) (BeginsBefore {V = V} (end_of b)) (λ x h. omega (arith, h, a.apart.1)) front a.before) (omega (arith, a.apart.1));
      apart = a.apart.2;
      within = λ x is. subst (λ xs. Contains xs x) (sym whole) (a.within x is);
      among = λ x is. a.among x (subst (λ xs. Contains xs x) whole is);
    }

first_among : {V : Type 0} (front batches : List (Batch V)) (b : Batch V) → Contains (front ++ b ∷ batches) b
first_among front batches b = Contains-append_right front (b ∷ batches) b (0, omega arith, refl)

taken_from : {V : Type 0} (accepted front batches : List (Batch V)) (place : ℕ) → AreAll accepted front batches place → AreTaken accepted place (meeting place batches)
taken_from accepted front [] place a = none_at accepted front [] place a (λ b is same. absurd (omega (arith, is.1)))
taken_from accepted front (b ∷ batches) place a =
    elim (cases_eq b.begin place) [
      | inl same ↦
          rw (meeting-next b batches place same) (a.among b (first_among front batches b), same, taken_from accepted (front ++ b ∷ []) batches (end_of b) (all_next accepted front batches b place a same))
      | inr other ↦
          let less : place < b.begin = omega (arith, a.apart.0) in
          rw (meeting-stop b batches place other) (none_at accepted front (b ∷ batches) place a (λ x is. none_behind b.begin place (b ∷ batches) x (omega arith, a.apart.1, a.apart.2) less is))
    ]

pub shows_taken : {V : Type 0} (additions : List (Addition V)) → ShowsTaken (store_of true (accepted_of additions)) (accepted_of additions)
shows_taken {V = V} additions =
    let accepted = accepted_of additions in
    let moves = in_order_moves accepted in
    record {
      shown = meeting 0 (in_order accepted);
      taken = taken_from accepted [] (in_order accepted) 0 (record {
        before = All-nil (BeginsBefore {V = V} 0);
        apart = apart_all additions [] tt;
        within = λ b is. Contains-permutation accepted (in_order accepted) b moves is;
        among = λ b is. Contains-permutation (in_order accepted) accepted b (IsPermutation-sym accepted (in_order accepted) moves) is;
      });
      values = λ position. refl;
    }
