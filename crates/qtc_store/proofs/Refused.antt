-- What it says of a batch that nothing refuses it.
use Rattle.std.proofs.Common.{◌≡◌, ℕ, ◌+◌, ◌≤◌, true, nat_lt, List, Option, Some, None, inl, inr, refl, arith}
use Rattle.std.proofs.lemmas.Bool.{cases_lt}
use Rattle.std.proofs.lemmas.Bool.Decides.{nat_tests}
use Rattle.qtc_store.specs.declared.batch.Batch.{Batch}
use Rattle.qtc_store.specs.Batches.{least_covered}
use Rattle.qtc_store.specs.Stored.{refusal, refusal_of}

none_taken : (least : Option ℕ) (end : ℕ) → refusal least end ≡ None → least ≡ None
none_taken None end e = refl
none_taken (Some index) end e = absurd (cc)

within_end : (least : Option ℕ) (end : ℕ) → refusal least end ≡ None → end ≤ 8388608
within_end (Some index) end e = absurd (cc)
within_end None end e =
    elim (cases_lt 8388608 end) [
      | inl past ↦ let is : nat_lt 8388608 end ≡ true = grind (arith, nat_tests) in let f = rw is at e in absurd (cc)
      | inr within ↦ within
    ]

module _ {V : Type 0} (batches : List (Batch V)) (begin total : ℕ) (e : refusal_of batches begin total ≡ None) where
  pub unrefused_free : least_covered batches begin total ≡ None
  unrefused_free = none_taken (least_covered batches begin total) (begin + total) e

  pub unrefused_within : begin + total ≤ 8388608
  unrefused_within = within_end (least_covered batches begin total) (begin + total) e
