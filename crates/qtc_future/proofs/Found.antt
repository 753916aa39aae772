-- Where the values of a report are found. Where a store has those of a batch is the store's law.
use Rattle.std.proofs.Common.{◌≡◌, ℕ, zero, suc, ◌+◌, ◌<◌, false, List, [], ◌∷◌, ◌++◌, Some, length, All, refl, ap, sym, ◌∙◌, subst, slice_get, append_assoc, arith}
use Rattle.std.specs.List.{flat_map}
use Rattle.std.specs.FinMap.{get}
use Rattle.std.proofs.lemmas.List.Elements.{All-head}
use Rattle.qtc_store.specs.Batches.{in_order, placed, values_of}
use Rattle.qtc_store.specs.Laws.{BatchesAreFound, BatchesKeepResults}
use Rattle.qtc_store.specs.Results.{results}
use Rattle.qtc_store.specs.Stored.{value_at, IsStore}
use Rattle.qtc_store.specs.Adds.{store_of}
use Rattle.qtc_store.specs.declared.batch.Batch.{Batch}
use Rattle.qtc_future.specs.Future.{Future, Logged, batches_in, reports_of, results_of}
use Rattle.qtc_future.specs.Steps.{with_call}
use Rattle.qtc_future.specs.Legal.{IsAcceptable, IsLegal}
use Rattle.qtc_future.specs.Laws.{with_calls, ReportsAreFound}
use Rattle.qtc_future.proofs.Appending.{fold-push}
use Rattle.qtc_future.proofs.OneMore.{reports-push}
use Rattle.qtc_future.proofs.Legality.{effective-split}
use Rattle.qtc_future.proofs.Staying.{legal_store, call_grows, calls_grow}

some_value : {V : Type 0} (values : List V) (i : ℕ) → i < length values → (d : V) × (slice_get values i ≡ Some d)
some_value [] i h = absurd (omega arith)
some_value (x ∷ xs) zero h = (x, refl)
some_value (x ∷ xs) (suc i) h = some_value xs i (omega arith)

plain_found : {V : Type 0} → BatchesAreFound V → (reports : List (Batch V)) (b : Batch V) (i : ℕ) → IsStore false (in_order reports) → IsAcceptable (store_of false reports) b → i < length b.values → value_at (store_of false (reports ++ b ∷ [])) (b.begin + i) ≡ slice_get b.values i
plain_found found reports b i store fit within =
    ap (λ bs. get (results bs) (b.begin + i)) (fold-push placed [] reports b)
    ∙ found.plain (store_of false reports) b i store fit.unrefused fit.whole within

found_later : {V : Type 0} → BatchesKeepResults V → BatchesAreFound V → (future : Future V) (logged : Logged V) (later : List (Logged V)) (batch : Batch V) (place : ℕ) → IsLegal (with_calls future (logged ∷ later)) → future.filter ≡ false → batches_in logged ≡ batch ∷ [] → place < length batch.values → value_at (results_of (with_calls future (logged ∷ later))) (batch.begin + place) ≡ slice_get batch.values place
found_later {V = V} keep found future logged later batch place h plain one within =
    let parts = effective-split (record future { calls = [] }) future.calls (logged ∷ later) h in
    let store = legal_store keep future parts.0 in
    let reports = reports_of future.calls in
    let fits : All (IsAcceptable (results_of future)) (batch ∷ []) = subst (All (IsAcceptable (results_of future))) one parts.1.0.batch in
    let fit : IsAcceptable (store_of false reports) batch = subst (λ f. IsAcceptable (store_of f reports) batch) plain (All-head (IsAcceptable (results_of future)) batch [] fits) in
    let first = call_grows keep future logged store parts.1.0 in
    let rest = calls_grow keep (with_call future logged) later first.store parts.1.1 in
    let some = some_value batch.values place within in
    let here : value_at (store_of future.filter (reports_of (future.calls ++ logged ∷ []))) (batch.begin + place) ≡ Some some.0 =
    ap (λ bs. value_at (store_of future.filter bs) (batch.begin + place)) (reports-push future.calls logged ∙ ap (λ bs. reports ++ bs) one)
    ∙ ap (λ f. value_at (store_of f (reports ++ batch ∷ [])) (batch.begin + place)) plain
    ∙ plain_found found reports batch place (subst (λ f. IsStore f (in_order reports)) plain store) fit within
    ∙ some.1 in
    ap (λ xs. value_at (store_of future.filter (reports_of xs)) (batch.begin + place)) (sym (append_assoc future.calls (logged ∷ []) later))
    ∙ rest.kept (batch.begin + place) some.0 here
    ∙ sym some.1

pub reports_are_found : (V : Type 0) → BatchesKeepResults V → BatchesAreFound V → ReportsAreFound V
reports_are_found V keep found = record {
  plain = λ future logged later batch place h plain one within. found_later keep found future logged later batch place h plain one within;
  visible = λ future before after batch place filtered meets within.
      ap (λ f. value_at (store_of f (reports_of future.calls)) (length (flat_map values_of before) + place)) filtered
      ∙ found.visible (results_of future).batches before after batch place meets within;
}
