-- Batches that tile the items show what is kept of them.
use Rattle.std.proofs.Common.{◌≡◌, ℕ, ◌-◌, ◌<◌, ◌≤◌, ◌||◌, ◌&&◌, nat_lt, nat_le, true, false, List, [], ◌∷◌, ◌++◌, All, fold, map, inl, inr, refl, ap, sym, ◌∙◌, arith}
use Rattle.std.specs.List.{flat_map}
use Rattle.std.proofs.lemmas.Bool.{cases_lt, false≢true}
use Rattle.std.proofs.lemmas.Bool.Decides.{nat_tests}
use Rattle.std.proofs.lemmas.List.Elements.{All-head, All-tail, All-nil}
use Rattle.qtc_base.specs.Ranges.{times_covered}
use Rattle.qtc_store.specs.Batches.{AreApart, covers as covers_index, end_of, in_order, is_covered, placed, values_of}
use Rattle.qtc_store.specs.Visible.{meeting}
use Rattle.qtc_store.specs.declared.batch.Batch.{Batch}
use Rattle.qtc_store.proofs.Covered.{none_below}
use Rattle.qtc_store.proofs.Meeting.{meeting-next}
use Rattle.qtc_store.proofs.Placed.{all_placed}
use Rattle.qtc_kernel.specs.Runs.{HasTexts, range_of}
use Rattle.qtc_kernel.specs.Workload.{Workload, size_of, texts_in}
use Rattle.qtc_kernel.proofs.Counting.{covers, times-cons}
use Rattle.qtc_kernel.proofs.Kept.{texts-empty, texts-meet}

-- ---- covered or not

pub none_covers : (batches : List (Batch (List ℕ))) (index : ℕ) → times_covered (map range_of batches) index ≡ 0 → is_covered batches index ≡ false
none_covers [] index none = refl
none_covers (batch ∷ batches) index none =
    let parts = times-cons index (range_of batch) (map range_of batches) in
    let rest = none_covers batches index (omega arith) in
    let out : covers_index index batch ≡ false = outside index batch.begin (end_of batch) (omega arith) in
    rw (out, rest) refl
  where
    outside : (index begin end : ℕ) → covers index (begin, end) ≡ 0 → (nat_le begin index && nat_lt index end) ≡ false
    outside index begin end e = grind (arith, nat_tests)

pub one_covers : (batches : List (Batch (List ℕ))) (index : ℕ) → 1 ≤ times_covered (map range_of batches) index → is_covered batches index ≡ true
one_covers [] index some = absurd (omega arith)
one_covers (batch ∷ batches) index some =
    let parts = times-cons index (range_of batch) (map range_of batches) in
    elim (covers_index index batch) as (λ b. covers_index index batch ≡ b → (b || is_covered batches index) ≡ true) [
      | true ↦ λ e. refl
      | false ↦ λ e. one_covers batches index (let none = outside index batch.begin (end_of batch) e in omega arith)
    ] refl
  where
    outside : (index begin end : ℕ) → (nat_le begin index && nat_lt index end) ≡ false → covers index (begin, end) ≡ 0
    outside index begin end e = grind (arith, nat_tests)

all_from : (P : Batch (List ℕ) → Type 0) (start batches : List (Batch (List ℕ))) → All P start → All P batches → All P (fold placed start batches)
all_from P start [] h all = h
all_from P start (batch ∷ batches) h all =
    all_from P (placed start batch) batches (all_placed P start batch h (All-head P batch batches all)) (All-tail P batch batches all)

pub all_in_order : (P : Batch (List ℕ) → Type 0) (batches : List (Batch (List ℕ))) → All P batches → All P (in_order batches)
all_in_order P batches all = all_from P [] batches (All-nil P) all

-- ---- batches that tile the indexes from `low` on

inside : (index : ℕ) (batch : Batch (List ℕ)) (batches : List (Batch (List ℕ))) → batch.begin ≤ index → index < end_of batch → is_covered (batch ∷ batches) index ≡ true
inside index batch batches low high = let is : covers_index index batch ≡ true = grind (arith, nat_tests) in rw is refl

later : (index : ℕ) (batch : Batch (List ℕ)) (batches : List (Batch (List ℕ))) → end_of batch ≤ index → is_covered (batch ∷ batches) index ≡ is_covered batches index
later index batch batches past = let is : covers_index index batch ≡ false = grind (arith, nat_tests) in rw is refl

pub shown : (work : Workload) (low : ℕ) (batches : List (Batch (List ℕ))) → AreApart low batches → All (HasTexts work) batches → low ≤ size_of work
    → ((index : ℕ) → low ≤ index → index < size_of work → is_covered batches index ≡ true) → ((index : ℕ) → size_of work ≤ index → is_covered batches index ≡ false)
    → flat_map values_of (meeting low batches) ≡ texts_in work (low, size_of work)
shown work low [] apart texts within covered past =
    elim (cases_lt low (size_of work)) [
      | inl less ↦ absurd (false≢true (covered low (omega arith) less))
      | inr end ↦ let same : low ≡ size_of work = omega arith in sym (ap (λ l. texts_in work (l, size_of work)) same ∙ texts-empty work (size_of work) (omega arith))
    ]
shown work low (batch ∷ batches) apart texts within covered past =
    let n = size_of work in
    let end = end_of batch in
    let some = apart.1 in
    let above = apart.0 in
    let ends : end ≤ n = elim (cases_lt n end) [
      | inl over ↦
          let last : n ≤ end - 1 = omega arith in
          absurd (false≢true (sym (past (end - 1) last) ∙ inside (end - 1) batch batches (omega arith) (omega arith)))
      | inr fits ↦ fits
    ] in
    let same : batch.begin ≡ low = elim (cases_lt low batch.begin) [
      | inl gap ↦ absurd (false≢true (sym (none_below batch.begin low (batch ∷ batches) (omega arith, apart.1, apart.2) gap) ∙ covered low (omega arith) (omega arith)))
      | inr meets ↦ omega arith
    ] in
    let own : values_of batch ≡ texts_in work (low, end) = All-head (HasTexts work) batch batches texts ∙ ap (λ b. texts_in work (b, end)) same in
    let rest = shown work end batches apart.2 (All-tail (HasTexts work) batch batches texts) ends
    (λ index from below. sym (later index batch batches from) ∙ covered index (omega arith) below)
    (λ index from. sym (later index batch batches (omega arith)) ∙ past index from) in
    ap (flat_map values_of) (meeting-next batch batches low same)
    ∙ ap (λ vs. vs ++ flat_map values_of (meeting end batches)) own
    ∙ ap (λ ts. texts_in work (low, end) ++ ts) rest
    ∙ sym (texts-meet work low end n (omega arith) ends (omega arith))
