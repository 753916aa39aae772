-- What the call answers that adds a batch, and what it leaves. (The answers and their order are own.)
use Rattle.std.specs.Prelude.{ℕ, ◌≡◌, ◌↔◌, Result, Err, OnOk, OnErr, IfOk}
use Rattle.qtc_store.specs.declared.batch.Batch.{Batch}
use Rattle.qtc_store.specs.declared.batch.Added.{Added}
use Rattle.qtc_store.specs.declared.batch.AddFault.{AddFault}
use Rattle.qtc_store.specs.declared.batch.AddFault.TheVariants.{Taken, PastEnd}
use Rattle.qtc_store.specs.Stored.{Stored, count_of, with_batch, IsTaken, KeepsResults, NothingRefuses, PassesEnd}

-- where the answer is Ok nothing refused the batch and it is stored; else the store is as before
pub record AddsBatch {V : Type 0} (old : Stored V) (batch : Batch V) (result : Result Added AddFault) (new : Stored V) : Type 0 where
  pub taken : (index : ℕ) → (result ≡ Err (Taken index)) ↔ IsTaken old batch.begin batch.total index
  pub past_end : (result ≡ Err PastEnd) ↔ PassesEnd old batch.begin batch.total
  pub accepted : OnOk result (NothingRefuses old batch.begin batch.total)
  pub stored : OnOk result (new ≡ with_batch old batch)
  pub kept : OnOk result (KeepsResults old new)
  pub begin : IfOk result (λ added. added.begin ≡ batch.begin)
  pub old_count : IfOk result (λ added. added.old_count ≡ count_of old)
  pub new_count : IfOk result (λ added. added.new_count ≡ count_of new)
  pub unchanged : OnErr result (new ≡ old)
