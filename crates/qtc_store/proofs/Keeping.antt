-- With a batch that nothing refuses a store is a store, and its results stay.
use Rattle.std.proofs.Common.{◌≡◌, ◌<◌, true, false, ◌==◌, inl, inr, refl, sym, subst, arith}
use Rattle.std.proofs.lemmas.Bool.{cases_eq}
use Rattle.std.proofs.lemmas.Bool.Decides.{nat_tests}
use Rattle.qtc_store.specs.declared.batch.Batch.{Batch}
use Rattle.qtc_store.specs.Batches.{placed, IsWhole}
use Rattle.qtc_store.specs.Laws.{BatchesKeepResults}
use Rattle.qtc_store.specs.Stored.{Stored, IsStore, KeepsResults, NothingRefuses, with_batch}
use Rattle.qtc_store.proofs.Kept.{kept_by_mode}
use Rattle.qtc_store.proofs.Placed.{free_from, store_placed}
use Rattle.qtc_store.proofs.Refused.{unrefused_free, unrefused_within}

with_none : {V : Type 0} (store : Stored V) (b : Batch V) → b.total ≡ 0 → with_batch store b ≡ store
with_none store b none = let is : (b.total == 0) ≡ true = grind (arith, nat_tests) in rw is refl

with_some : {V : Type 0} (store : Stored V) (b : Batch V) → 0 < b.total → with_batch store b ≡ record store { batches = placed store.batches b }
with_some store b some = let not : (b.total == 0) ≡ false = grind (arith, nat_tests) in rw not refl

module _ {V : Type 0} (store : Stored V) (b : Batch V) (is : IsStore store.filter store.batches) (unrefused : NothingRefuses store b.begin b.total) (whole : IsWhole store.filter b) where
  is_store : IsStore store.filter (with_batch store b).batches
  is_store =
      elim (cases_eq b.total 0) [
        | inl none ↦ subst (λ (s : Stored V). IsStore store.filter s.batches) (sym (with_none store b none)) is
        | inr some ↦
            let more : 0 < b.total = omega arith in
            subst (λ (s : Stored V). IsStore store.filter s.batches) (sym (with_some store b more))
            (store_placed store.filter store.batches b is (unrefused_free store.batches b.begin b.total unrefused) more (unrefused_within store.batches b.begin b.total unrefused) whole)
      ]

  keeps : KeepsResults store (with_batch store b)
  keeps =
      elim (cases_eq b.total 0) [
        | inl none ↦ subst (KeepsResults store) (sym (with_none store b none)) (λ index value e. e)
        | inr some ↦
            let more : 0 < b.total = omega arith in
            subst (KeepsResults store) (sym (with_some store b more))
            (kept_by_mode store.filter store.batches b is whole more (free_from store.batches b.begin b.total (unrefused_free store.batches b.begin b.total unrefused)))
      ]

pub batches_keep_results : (V : Type 0) → BatchesKeepResults V
batches_keep_results V = record {
  store = λ store b is unrefused whole. is_store store b is unrefused whole;
  kept = λ store b is unrefused whole. keeps store b is unrefused whole;
}
