-- Futures with calls that came later.
use Rattle.std.proofs.Common.{◌≡◌, ◌+◌, min, Bool, List, [], ◌∷◌, ◌++◌, sum_by, refl, ap, sym, ◌∙◌, append_assoc, append-nil, arith}
use Rattle.std.proofs.lemmas.List.Sums.{sum_by-append, sum_by-cons}
use Rattle.qtc_events.specs.Flags.{new_flags}
use Rattle.qtc_events.specs.Calls.{row, most_accounted}
use Rattle.qtc_events.specs.Journal.{after_entry, flags_after_all}
use Rattle.qtc_events.specs.declared.calls.Call.{Call}
use Rattle.qtc_events.specs.declared.calls.Call.TheVariants.{Report, Account}
use Rattle.qtc_store.specs.declared.batch.Batch.{Batch}
use Rattle.qtc_future.specs.Future.{Future, Logged, batch_of, batches_in, entries_of, flags_of, posted, posted_by, reports_of}
use Rattle.qtc_future.specs.Steps.{with_call}
use Rattle.qtc_future.specs.Laws.{account_of, EventsGrow, AccountedIsSum}
use Rattle.qtc_future.proofs.Appending.{fold-push}
use Rattle.qtc_future.proofs.OneMore.{entries-push}

-- ---- flags
pub flags-push : {V : Type 0} (future : Future V) (logged : Logged V) → flags_of (with_call future logged) ≡ after_entry (flags_of future) logged.entry
flags-push future logged =
    ap flags_after_all (entries-push future.calls logged) ∙ fold-push after_entry new_flags (entries_of future.calls) logged.entry

-- ---- events
posted-append : {V : Type 0} (filter : Bool) (accepted : List (Batch V)) (calls later : List (Logged V)) → posted filter accepted (calls ++ later) ≡ posted filter accepted calls ++ posted filter (accepted ++ reports_of calls) later
posted-append filter accepted [] later = ap (λ bs. posted filter bs later) (sym (append-nil accepted))
posted-append filter accepted (first ∷ calls) later =
    let own = posted_by filter accepted first in
    let then = accepted ++ batches_in first in
    ap (λ es. own ++ es) (posted-append filter then calls later)
    ∙ sym (append_assoc own (posted filter then calls) (posted filter (then ++ reports_of calls) later))
    ∙ ap (λ bs. (own ++ posted filter then calls) ++ posted filter bs later) (append_assoc accepted (batches_in first) (reports_of calls))

pub events_grow : (V : Type 0) → EventsGrow V
events_grow V future later = posted-append future.filter [] future.calls later

-- ---- sums
call_counts : {V : Type 0} (call : Call) (values : List V) → (row call).counts ≡ sum_by (λ (b : Batch V). b.total) (batch_of call values) + account_of call
call_counts (Report begin kept total) values = omega arith
call_counts (Account total) values = omega arith
call_counts _ values = refl

counts_split : {V : Type 0} (calls : List (Logged V)) → sum_by (λ entry. (row entry.call).counts) (entries_of calls) ≡ sum_by (λ (b : Batch V). b.total) (reports_of calls) + sum_by (λ (l : Logged V). account_of l.entry.call) calls
counts_split [] = refl
counts_split {V = V} (first ∷ calls) =
    let own = call_counts first.entry.call first.values in
    let rest = counts_split calls in
    let parts = sum_by-append (λ (b : Batch V). b.total) (batches_in first) (reports_of calls) in
    let counts = sum_by-cons (λ entry. (row entry.call).counts) first.entry (entries_of calls) in
    let accounts = sum_by-cons (λ (l : Logged V). account_of l.entry.call) first calls in
    omega (arith, own, rest, parts, counts, accounts)

pub accounted_is_sum : (V : Type 0) → AccountedIsSum V
accounted_is_sum V future = ap (λ n. min n most_accounted) (counts_split future.calls)
