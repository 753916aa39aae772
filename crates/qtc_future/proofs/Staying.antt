-- The results of a legal future stay. What a store keeps when a batch comes is the store's.
use Rattle.std.proofs.Common.{◌≡◌, ◌<◌, Bool, List, [], ◌∷◌, ◌++◌, All, ap, sym, ◌∙◌, subst, append_assoc, append-nil, arith}
use Rattle.std.proofs.lemmas.List.Elements.{All-nil, All-head}
use Rattle.qtc_events.specs.declared.calls.Call.{Call}
use Rattle.qtc_events.specs.declared.calls.Call.TheVariants.{Report}
use Rattle.qtc_store.specs.Batches.{in_order, placed, IsWhole}
use Rattle.qtc_store.specs.Stored.{Stored, with_batch, IsStore, KeepsResults}
use Rattle.qtc_store.specs.Adds.{store_of}
use Rattle.qtc_store.specs.Laws.{BatchesKeepResults}
use Rattle.qtc_store.specs.declared.batch.Batch.{Batch}
use Rattle.qtc_future.specs.Future.{Future, Logged, batch_of, reports_of, results_of, flags_of}
use Rattle.qtc_future.specs.Steps.{with_call}
use Rattle.qtc_future.specs.Legal.{AreEffective, IsAcceptable, IsEffective, IsLegal}
use Rattle.qtc_future.specs.Laws.{ResultsStay}
use Rattle.qtc_future.proofs.Appending.{fold-push}
use Rattle.qtc_future.proofs.OneMore.{reports-push}
use Rattle.qtc_future.proofs.Legality.{effective-split}
use Rattle.qtc_future.proofs.Reporting.{Covers, call_covers, with_batch_some}

-- the results of more batches, with those of fewer in them
pub record Grown {V : Type 0} (filter : Bool) (old new : List (Batch V)) : Type 0 where
  pub store : IsStore filter (in_order new)
  pub kept : KeepsResults (store_of filter old) (store_of filter new)

grown_same : {V : Type 0} (filter : Bool) (reports : List (Batch V)) → IsStore filter (in_order reports) → Grown filter reports reports
grown_same filter reports store = record { store = store; kept = λ i v e. e }

-- a store with a batch that it takes
with_one : {V : Type 0} (filter : Bool) (reports : List (Batch V)) (b : Batch V) → 0 < b.total → with_batch (store_of filter reports) b ≡ store_of filter (reports ++ b ∷ [])
with_one filter reports b some =
    with_batch_some (store_of filter reports) b some ∙ ap (λ bs. record { filter = filter; batches = bs }) (sym (fold-push placed [] reports b))

one_more : {V : Type 0} → BatchesKeepResults V → (filter : Bool) (reports : List (Batch V)) (call : Call) (values : List V) → IsStore filter (in_order reports) → All (IsAcceptable (store_of filter reports)) (batch_of call values) → All Covers (batch_of call values) → Grown filter reports (reports ++ batch_of call values)
one_more law filter reports (Report begin kept total) values store fit some =
    let old : Stored _ = store_of filter reports in
    let b : Batch _ = record { begin = begin; values = values; total = total } in
    let one = All-head (IsAcceptable old) b [] fit in
    let same = with_one filter reports b (All-head Covers b [] some) in
    record {
      store = subst (λ (s : Stored _). IsStore filter s.batches) same (law.store old b store one.unrefused one.whole);
      kept = subst (KeepsResults old) same (law.kept old b store one.unrefused one.whole);
    }
one_more law filter reports _ values store fit some =
    subst (Grown filter reports) (sym (append-nil reports)) (grown_same filter reports store)

pub call_grows : {V : Type 0} → BatchesKeepResults V → (future : Future V) (logged : Logged V) → IsStore future.filter (results_of future).batches → IsEffective future logged → Grown future.filter (reports_of future.calls) (reports_of (future.calls ++ logged ∷ []))
call_grows law future logged store h =
    subst (Grown future.filter (reports_of future.calls)) (sym (reports-push future.calls logged))
    (one_more law future.filter (reports_of future.calls) logged.entry.call logged.values store h.batch (call_covers (flags_of future) logged.entry.call logged.values h.effect))

pub calls_grow : {V : Type 0} → BatchesKeepResults V → (future : Future V) (calls : List (Logged V)) → IsStore future.filter (results_of future).batches → AreEffective future calls → Grown future.filter (reports_of future.calls) (reports_of (future.calls ++ calls))
calls_grow law future [] store h =
    subst (λ xs. Grown future.filter (reports_of future.calls) (reports_of xs)) (sym (append-nil future.calls)) (grown_same future.filter (reports_of future.calls) store)
calls_grow law future (logged ∷ calls) store h =
    let first = call_grows law future logged store h.0 in
    let rest = calls_grow law (with_call future logged) calls first.store h.1 in
    subst (λ xs. Grown future.filter (reports_of future.calls) (reports_of xs)) (append_assoc future.calls (logged ∷ []) calls) (record {
      store = rest.store;
      kept = λ i v e. rest.kept i v (first.kept i v e);
    })

empty_store : {V : Type 0} (filter : Bool) → IsStore {V = V} filter []
empty_store filter = record { apart = tt; whole = All-nil (IsWhole filter); bounded = omega arith }

pub legal_store : {V : Type 0} → BatchesKeepResults V → (future : Future V) → IsLegal future → IsStore future.filter (results_of future).batches
legal_store law future h = (calls_grow law (record future { calls = [] }) future.calls (empty_store future.filter) h).store

pub results_stay : (V : Type 0) → BatchesKeepResults V → ResultsStay V
results_stay V law future later h =
    let parts = effective-split (record future { calls = [] }) future.calls later h in
    (calls_grow law future later (legal_store law future parts.0) parts.1).kept
