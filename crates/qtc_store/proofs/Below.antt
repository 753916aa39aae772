-- What is visible lies below the first gap.
use Rattle.std.proofs.Common.{◌≡◌, ℕ, ◌<◌, ◌≤◌, Bool, true, false, nat_lt, List, [], ◌∷◌, filter, IsTrue, inl, inr, refl, ap, sym, ◌∙◌, arith}
use Rattle.std.specs.List.{flat_map}
use Rattle.std.proofs.lemmas.Bool.{cases_lt, cases_eq, false≢true}
use Rattle.std.proofs.lemmas.Bool.Decides.{nat_tests}
use Rattle.qtc_store.specs.declared.batch.Batch.{Batch}
use Rattle.qtc_store.specs.Batches.{end_of, values_of, is_covered, AreApart}
use Rattle.qtc_store.specs.Visible.{meeting, meeting_end}
use Rattle.qtc_store.specs.Laws.{VisibleIsBelowGap}
use Rattle.qtc_store.proofs.Gap.{meeting_end-low, meeting_covered, end_uncovered}
use Rattle.qtc_store.proofs.Meeting.{meeting-next, meeting-stop, meeting_end-next, meeting_end-stop}

begins_below : {V : Type 0} → ℕ → Batch V → Bool
begins_below gap batch = nat_lt batch.begin gap

keeps : {V : Type 0} (gap : ℕ) (b : Batch V) (batches : List (Batch V)) → b.begin < gap → filter (begins_below gap) (b ∷ batches) ≡ b ∷ filter (begins_below gap) batches
unfolding begins_below
keeps gap b batches h = let is : nat_lt b.begin gap ≡ true = grind (arith, nat_tests) in rw is refl

drops : {V : Type 0} (gap : ℕ) (b : Batch V) (batches : List (Batch V)) → gap ≤ b.begin → filter (begins_below gap) (b ∷ batches) ≡ filter (begins_below gap) batches
unfolding begins_below
drops gap b batches h = let is : nat_lt b.begin gap ≡ false = grind (arith, nat_tests) in rw is refl

none_kept : {V : Type 0} (gap low : ℕ) (batches : List (Batch V)) → AreApart low batches → gap ≤ low → filter (begins_below gap) batches ≡ []
none_kept gap low [] a h = refl
none_kept gap low (b ∷ batches) a h = drops gap b batches (omega (arith, a.0)) ∙ none_kept gap (end_of b) batches a.2 (omega (arith, a.0))

meeting_kept : {V : Type 0} (low : ℕ) (batches : List (Batch V)) → AreApart low batches → meeting low batches ≡ filter (begins_below (meeting_end low batches)) batches
meeting_kept low [] a = refl
meeting_kept low (b ∷ batches) a =
    elim (cases_eq b.begin low) [
      | inl same ↦
          let end = meeting_end-next b batches low same in
          let above = meeting_end-low (end_of b) batches in
          meeting-next b batches low same ∙ ap (λ xs. b ∷ xs) (meeting_kept (end_of b) batches a.2) ∙ sym (ap (λ n. filter (begins_below n) (b ∷ batches)) end ∙ keeps (meeting_end (end_of b) batches) b batches (omega (arith, a.1, above)))
      | inr other ↦
          let end = meeting_end-stop b batches low other in
          meeting-stop b batches low other ∙ sym (ap (λ n. filter (begins_below n) (b ∷ batches)) end ∙ none_kept low low (b ∷ batches) a (omega arith))
    ]

gap_is_end : {V : Type 0} (batches : List (Batch V)) (gap : ℕ) → AreApart 0 batches → ((index : ℕ) → index < gap → IsTrue (is_covered batches index)) → is_covered batches gap ≡ false → meeting_end 0 batches ≡ gap
gap_is_end batches gap a below at =
    elim (cases_lt (meeting_end 0 batches) gap) [
      | inl less ↦ absurd (false≢true (sym (end_uncovered 0 batches a) ∙ below (meeting_end 0 batches) less))
      | inr more ↦ elim (cases_lt gap (meeting_end 0 batches)) [
        | inl less ↦ absurd (false≢true (sym at ∙ meeting_covered 0 gap batches (omega arith) less))
        | inr same ↦ omega arith
      ]
    ]

pub visible_is_below_gap : (V : Type 0) → VisibleIsBelowGap V
unfolding begins_below
visible_is_below_gap V batches gap a below at =
    ap (flat_map values_of) (meeting_kept 0 batches a ∙ ap (λ n. filter (begins_below n) batches) (gap_is_end batches gap a below at))
