-- One item more of a block.
use Rattle.std.proofs.Common.{◌≡◌, ◌⊎◌, ℕ, zero, suc, ◌+◌, ◌-◌, ◌<◌, ◌≤◌, false, List, [], ◌∷◌, ◌++◌, Option, None, Some, length, get_or, take, drop, inl, inr, refl, ap, sym, ◌∙◌, subst, arith, append_assoc, append-nil}
use Rattle.std.specs.Borrow.{Bor}
use Rattle.std.specs.Prelude.{IsSome, option_copied, slice_get}
use Rattle.std.specs.List.{range_with_len}
use Rattle.std.proofs.lemmas.Bool.{cases_lt}
use Rattle.std.proofs.lemmas.List.{at_drop_more}
use Rattle.std.proofs.lemmas.Option.{get_or_from_slice_get, slice_get-get_or}
use Rattle.qtc_ops.specs.ItemValue.{ItemValue, kept, dropped, bad}
use Rattle.qtc_ops.specs.Kept.{pairs_from, texts}
use Rattle.qtc_ops.proofs.KeptLemmas.{pairs_between-range}
use Rattle.qtc_kernel.specs.Inside.{CallsUpTo, IsTaken}
use Rattle.qtc_kernel.specs.Workload.{Workload, first_bad, indexes_of, is_bad, item_at, size_of, texts_in}
use Rattle.qtc_kernel.proofs.Finding.{first_in, none_in}
use Rattle.qtc_kernel.proofs.Kept.{texts-meet}

-- ---- indexes

one-longer : (begin n : ℕ) → range_with_len begin (suc n) ≡ range_with_len begin n ++ (begin + n) ∷ []
one-longer begin zero = ap (λ i. i ∷ []) e
  where
    e : begin ≡ begin + 0
    e = omega arith
one-longer begin (suc n) = ap (λ is. begin ∷ is) (one-longer (begin + 1) n ∙ ap (λ i. range_with_len (begin + 1) n ++ i ∷ []) e)
  where
    e : begin + 1 + n ≡ begin + suc n
    e = omega arith

pub indexes-more : (begin index : ℕ) → begin ≤ index → indexes_of (begin, index + 1) ≡ indexes_of (begin, index) ++ index ∷ []
indexes-more begin index low =
    let len : index + 1 - begin ≡ suc (index - begin) = omega arith in
    let last : begin + (index - begin) ≡ index = omega arith in
    ap (range_with_len begin) len ∙ one-longer begin (index - begin) ∙ ap (λ i. range_with_len begin (index - begin) ++ i ∷ []) last

pub indexes-none : (begin : ℕ) → indexes_of (begin, begin) ≡ []
indexes-none begin = let none : begin - begin ≡ 0 = omega arith in ap (range_with_len begin) none

pub calls-more : (before after : List ℕ) (new : List ℕ) (begin index : ℕ) → begin ≤ index → after ≡ before ++ indexes_of (begin, index) → new ≡ after ++ index ∷ [] → new ≡ before ++ indexes_of (begin, index + 1)
calls-more before after new begin index low was is =
    is ∙ ap (λ xs. xs ++ index ∷ []) was ∙ append_assoc before (indexes_of (begin, index)) (index ∷ []) ∙ ap (λ xs. before ++ xs) (sym (indexes-more begin index low))

-- ---- the item at an index

pub item-is : (work : Workload) (index : ℕ) (item : List ℕ) → slice_get work.items index ≡ Some item → item_at work index ≡ item
item-is work index item e = get_or_from_slice_get work.items index item [] e

-- ---- texts

one-item : (xs : List (List ℕ)) (index : ℕ) → index < length xs → take 1 (drop index xs) ≡ get_or xs index [] ∷ []
one-item xs index within = at_drop_more (take 1) xs index [] within

taken-texts : (index : ℕ) (value : ItemValue) (old new : List (List ℕ)) (f : List ℕ → ItemValue) (item : List ℕ) → f item ≡ value → IsTaken value old new → new ≡ old ++ texts (pairs_from f index (item ∷ []))
taken-texts index (kept text) old new f item e taken = rw e taken
taken-texts index dropped old new f item e taken = rw e (taken ∙ sym (append-nil old))
taken-texts index bad old new f item e taken = absurd taken

pub texts-more : (work : Workload) (begin index : ℕ) (old new : List (List ℕ)) → begin ≤ index → index < size_of work → old ≡ texts_in work (begin, index) → IsTaken (work.value (item_at work index)) old new → new ≡ texts_in work (begin, index + 1)
texts-more work begin index old new low high was taken =
    let value = work.value in
    let one : index + 1 - index ≡ 1 = omega arith in
    let own : texts_in work (index, index + 1) ≡ texts (pairs_from value index (item_at work index ∷ [])) =
    ap texts (pairs_between-range value work.items index (index + 1) (omega arith) (omega arith))
    ∙ ap (λ n. texts (pairs_from value index (take n (drop index work.items)))) one
    ∙ ap (λ xs. texts (pairs_from value index xs)) (one-item work.items index high) in
    taken-texts index (value (item_at work index)) old new value (item_at work index) refl taken
    ∙ ap (λ ts. ts ++ texts (pairs_from value index (item_at work index ∷ []))) was
    ∙ ap (λ ts. texts_in work (begin, index) ++ ts) (sym own)
    ∙ sym (texts-meet work begin index (index + 1) low (omega arith) (omega arith))

-- ---- bad items

taken-good : (value : ItemValue) (old new : List (List ℕ)) → IsTaken value old new → is_bad value ≡ false
taken-good (kept text) old new taken = refl
taken-good dropped old new taken = refl
taken-good bad old new taken = absurd taken

abbrev pub IsGood : Workload → ℕ → ℕ → Type 0
IsGood work begin end = (index : ℕ) → begin ≤ index → index < end → is_bad (work.value (item_at work index)) ≡ false

pub good-none : (work : Workload) (begin : ℕ) → IsGood work begin begin
good-none work begin i low high = absurd (omega arith)

pub good-more : (work : Workload) (begin index : ℕ) (old new : List (List ℕ)) → IsGood work begin index → IsTaken (work.value (item_at work index)) old new → IsGood work begin (index + 1)
good-more work begin index old new good taken i low high =
    elim (cases_lt i index) [
      | inl before ↦ good i low before
      | inr last ↦ let same : index ≡ i = omega arith in subst (λ k. is_bad (work.value (item_at work k)) ≡ false) same (taken-good (work.value (item_at work index)) old new taken)
    ]

pub good-all : (work : Workload) (begin end : ℕ) → begin ≤ end → IsGood work begin end → first_bad work (begin, end) ≡ None
good-all work begin end whole good = none_in (λ i. is_bad (work.value (item_at work i))) begin (end - begin) (λ i low high. good i low (omega arith))

pub good-bad : (work : Workload) (begin index end : ℕ) → begin ≤ index → index < end → IsGood work begin index → work.value (item_at work index) ≡ bad → first_bad work (begin, end) ≡ Some index
good-bad work begin index end low high good is =
    first_in (λ i. is_bad (work.value (item_at work i))) begin (end - begin) index low (omega arith) good (ap is_bad is)

pub front-at : (work : Workload) (begin index end : ℕ) (before after new : List ℕ) → begin ≤ index → index < end → IsGood work begin index → after ≡ before ++ indexes_of (begin, index) → (new ≡ after) ⊎ (new ≡ after ++ index ∷ []) → CallsUpTo work (begin, end) before new
front-at work begin index end before after new low high good was (inl same) =
    record { at = index; low = low; high = omega arith; good = λ i l h. good i l (omega arith); calls = same ∙ was }
front-at work begin index end before after new low high good was (inr more) =
    record { at = index + 1; low = omega arith; high = omega arith; good = λ i l h. good i l (omega arith); calls = calls-more before after new begin index low was more }

-- there is an item at each index below the number of items
pub some-at : (items : List (List ℕ)) (index : ℕ) (got : Option (Bor (List ℕ))) → index < length items → option_copied got ≡ slice_get items index → IsSome got
some-at items index None within e = absurd (let some = slice_get-get_or items index [] within in cc)
some-at items index (Some item) within e = refl
