-- What the workers of an engine make of a job is what may be reported of it.
use Rattle.std.proofs.Common.{◌≡◌, ◌≢◌, ℕ, zero, suc, ◌<◌, ◌≤◌, inl, Bool, true, false, List, [], ◌∷◌, length, get_or, Option, None, Some, refl, ap, sym, subst, ◌∙◌, map, ⊎_elim, arith}
use Rattle.std.specs.Prelude.{All, IsTrue, ◌&&◌, if◌then◌else◌, is_none}
use Rattle.qtc_base.specs.Limits.{most_items}
use Rattle.std.proofs.lemmas.Bool.{and_parts, cases_lt, true≢false}
use Rattle.std.proofs.lemmas.List.{same_lists}
use Rattle.std.proofs.lemmas.Option.{slice_get-get_or}
use Rattle.qtc_base.specs.Decimal.{decimal_text, number_of}
use Rattle.qtc_base.specs.Items.{PassesLimit}
use Rattle.qtc_events.specs.Flags.{new_flags}
use Rattle.qtc_events.specs.Journal.{calls_in}
use Rattle.qtc_future.specs.Ends.{IsOutcome}
use Rattle.qtc_future.specs.Future.{Future, Logged, entries_of, events_of, results_of}
use Rattle.qtc_future.specs.Legal.{IsLegal}
use Rattle.qtc_future.specs.declared.replies.Outcome.{Outcome}
use Rattle.qtc_future.specs.declared.replies.Outcome.TheVariants.{Values, Failed, Canceled}
use Rattle.qtc_job_file.specs.declared.jobs.Job.{Job}
use Rattle.qtc_kernel.specs.EngineParts.{EngineParts}
use Rattle.qtc_kernel.specs.OwnPasses.{drops_items, is_filter}
use Rattle.qtc_kernel.specs.WorkedOut.{IsWorkedOut, IsOpenedAndFinished as IsOpened}
use Rattle.qtc_kernel.specs.Workload.{Suits, Workload, kept_texts, workload}
use Rattle.qtc_kernel.specs.declared.finish.Finished.{Finished}
use Rattle.qtc_kernel.specs.declared.kinds.Kind.{Kind}
use Rattle.qtc_ops.specs.ItemValue.{ItemValue, kept, dropped, bad}
use Rattle.qtc_ops.specs.Maps.{map_value}
use Rattle.qtc_ops.specs.Numbers.{is_number}
use Rattle.qtc_ops.specs.Operations.{value_of}
use Rattle.qtc_ops.specs.declared.operations.ItemOp.{ItemOp}
use Rattle.qtc_ops.specs.declared.operations.ItemOp.TheVariants.{Map, Keep}
use Rattle.qtc_ops.specs.declared.operations.MapOp.{MapOp}
use Rattle.qtc_ops.specs.declared.operations.MapOp.TheVariants.{Same, Length, Digest, Field, Number}
use Rattle.qtc_shared.specs.Journals.{flags_at}
use Rattle.qtc_shared.specs.Parts.{Terms, future_at}
use Rattle.qtc_store.specs.Stored.{Stored, IsFirstResults}
use Rattle.qtc_run.specs.Chains.{chained}
use Rattle.qtc_run.specs.FoldOrders.{AreInOrder, is_unordered}
use Rattle.qtc_run.specs.Journals.{IsOpenedAndFinished, LetsGoOn}
use Rattle.qtc_run.specs.Laws.{IsMadeOf, WorkedJobsAreReported}
use Rattle.qtc_run.specs.Outputs.{is_canceled_end}
use Rattle.qtc_run.specs.Reports.{AreReported, EndsWith, future_of, is_keep, pair_of, shown_partly}
use Rattle.qtc_run.specs.Rounds.{HasDone, IsEngineFor, IsReady, IsReportFor, kind_in, kind_with, terms_of, work_in}
use Rattle.qtc_run.specs.Runnable.{are_runnable, is_runnable}
use Rattle.qtc_run.specs.Sources.{given, work_over}
use Rattle.qtc_run.specs.declared.reports.JobReport.{JobReport}
use Rattle.qtc_run.specs.declared.rounds.RoundJob.{RoundJob}
use Rattle.qtc_run.proofs.Going.{going-on}
use Rattle.qtc_run.proofs.Plain.{IsPlain, bad-alone, bad-fails, ordered-alone, runnable-plain, texts-alone}

some-same : {X : Type 0} (x y : X) → Some x ≡ Some y → x ≡ y
some-same x y e = cc

-- the first results are one list
first-unique : {V : Type 0} (store : Stored V) (xs ys : List V) → IsFirstResults store xs → IsFirstResults store ys → xs ≡ ys
first-unique store xs ys first second =
    let long : length xs ≡ length ys = first.all ∙ sym second.all in
    same_lists xs ys long (λ k d lt.
    let within : k < length ys = omega arith in
    some-same _ _ (sym (slice_get-get_or xs k d lt) ∙ (first.each k lt ∙ (sym (second.each k within) ∙ slice_get-get_or ys k d within))))

-- the future of the engine is that of the job
mode-of : (keeps whole : Bool) → (keeps && whole) ≡ is_filter (kind_with keeps whole)
mode-of false true = refl
mode-of true true = refl
mode-of false false = refl
mode-of true false = refl

plain-future : (job : Job) (workers : ℕ) (journal : List (Logged (List ℕ))) → future_of job journal ≡ future_at (terms_of workers job) journal
plain-future job workers journal =
    let with_mode : Bool → Future (List ℕ) = λ filter. record { filter = filter; thresholds = record { cancel_after = job.cancel_after; suspend_after = job.suspend_after }; calls = journal } in
    ap with_mode (mode-of (is_keep job.op) (is_none job.fold))

-- ---- the journal

calls-of : (journal : List (Logged (List ℕ))) → calls_in (entries_of journal) ≡ map (λ logged. logged.entry.call) journal
calls-of [] = refl
calls-of (logged ∷ journal) = ap (λ s. logged.entry.call ∷ s) (calls-of journal)

opened : (journal : List (Logged (List ℕ))) → IsOpened journal → IsOpenedAndFinished (entries_of journal)
opened journal is = record { between = is.between; whole = calls-of journal ∙ is.whole }

-- ---- the report

-- by ascending index, of which nothing is told
in-order : (unordered : Bool) (work : Workload) (sizes : List ℕ) (order : Option (List ℕ)) → unordered ≡ false → order ≡ None → AreInOrder unordered work sizes order (kept_texts work)
in-order false work sizes order is none = (none, refl)
in-order true work sizes order is none = absurd (true≢false is)

ends : (job : Job) (items : List (List ℕ)) (workers : ℕ) (journal : List (Logged (List ℕ))) (report : JobReport) (outcome : Outcome (List ℕ)) → IsPlain job → IsWorkedOut (work_over job items) job.blocks (kind_in job) (terms_of workers job) journal report.calls → report.journal ≡ entries_of journal → report.order ≡ None → is_canceled_end outcome ≡ false → IsOutcome (future_at (terms_of workers job) journal) outcome → EndsWith job items report (future_at (terms_of workers job) journal) outcome
ends job items workers journal report (Values values) plain worked journal_is order going is =
    let whole = worked.whole is.1 in
    record {
      good = bad-alone job items plain.fold ∙ whole.good;
      unreached = inl plain.cancel_after;
      texts = kept_texts (work_over job items);
      in_order = in-order (is_unordered job) (work_over job items) job.blocks report.order (ordered-alone job plain.fold) order;
      values_are = first-unique (results_of (future_at (terms_of workers job) journal)) values (kept_texts (work_over job items)) is.2 whole.results ∙ sym (texts-alone job (kept_texts (work_over job items)) plain.fold);
      called = whole.called;
      tiled = λ none. whole.tiled;
      going = subst (All LetsGoOn) (sym journal_is) (going-on new_flags (entries_of journal) is.1);
    }
ends job items workers journal report (Failed failure) plain worked journal_is order going is =
    record { failing = bad-fails job items failure (worked.failing failure is); called = worked.failed_call failure is; order = order }
ends job items workers journal report Canceled plain worked journal_is order going is = absurd (true≢false going)

-- nothing is shown of a job that was not canceled
not-shown : (job : Job) (items : List (List ℕ)) (future : Future (List ℕ)) (outcome : Outcome (List ℕ)) → is_canceled_end outcome ≡ false → shown_partly job (given items) future outcome ≡ []
not-shown job items future (Values values) going = refl
not-shown job items future (Failed failure) going = refl
not-shown job items future Canceled going = absurd (true≢false going)

pub worked-reported : WorkedJobsAreReported
worked-reported job items report workers journal ready worked made going =
    let plain = runnable-plain job ready in
    let same : future_of job journal ≡ future_at (terms_of workers job) journal = plain-future job workers journal in
    record {
      logged = journal;
      legal = subst IsLegal (sym same) worked.lawful.legal;
      journal = made.journal;
      outcome = report.ended;
      outcome_is = subst (λ (future : Future (List ℕ)). IsOutcome future report.ended) (sym same) made.ended;
      comes = record {
        opened = subst IsOpenedAndFinished (sym made.journal) (opened journal worked.opened);
        called = worked.once;
        reported = λ none. subst (AreReported job (work_over job items) report.calls) (sym same) (record { apart = worked.apart; within = worked.within; blocks = worked.blocks; good = worked.good; called = worked.covered; texts = worked.texts });
        ended = subst (λ (future : Future (List ℕ)). EndsWith job items report future report.ended) (sym same) (ends job items workers journal report report.ended plain worked made.journal made.order going made.ended);
      };
      ended = sym (ap (chained report.ended) plain.chain);
      partial = ap (map pair_of) made.partial ∙ sym (not-shown job items (future_of job journal) report.ended going);
      any = made.any;
      events = made.events ∙ ap (λ (future : Future (List ℕ)). if job.watch then events_of future else []) (sym same);
    }

-- ---- the operation of a job

number-keeps : (b : Bool) (text : List ℕ) → (if b then kept text else bad) ≢ dropped
number-keeps true text is = cc
number-keeps false text is = cc

map-keeps : (op : MapOp) (item : List ℕ) → map_value op item ≢ dropped
map-keeps Same item is = cc
map-keeps Length item is = cc
map-keeps Digest item is = cc
map-keeps (Field place) item is = cc
map-keeps Number item is = number-keeps (is_number item) (decimal_text (number_of item)) is

-- a map drops no item
pub op-suits : (op : ItemOp) (kind : Kind) (items : List (List ℕ)) → kind ≡ kind_with (is_keep op) true → Suits (drops_items kind) (workload items (value_of op))
op-suits (Map op) kind items same plain = λ k d within. map-keeps op (get_or items k d)
op-suits (Keep inverted pred) kind items same plain = absurd (true≢false (sym (ap drops_items same) ∙ plain))

-- ---- a job over its texts

pub few-items : (items : List (List ℕ)) → (PassesLimit items → ⊥) → length items ≤ most_items
few-items items fits =
    ⊎_elim (λ (many : most_items < length items). absurd (fits (inl many))) (λ (few : length items ≤ most_items). few) (cases_lt most_items (length items))

pub value-suits : (op : ItemOp) (kind : Kind) (items : List (List ℕ)) (value : List ℕ → ItemValue) → kind ≡ kind_with (is_keep op) true → value ≡ value_of op → Suits (drops_items kind) (workload items value)
value-suits op kind items value same value_is =
    subst (λ (value : List ℕ → ItemValue). Suits (drops_items kind) (workload items value)) (sym value_is) (op-suits op kind items same)

pub runnable-at : (jobs : List Job) (place : ℕ) (job : Job) → are_runnable jobs ≡ true → place < length jobs → job ≡ get_or jobs place job → is_runnable job ≡ true
runnable-at [] place job all within is = absurd (omega arith)
runnable-at (first ∷ jobs) zero job all within is = ap is_runnable is ∙ (and_parts _ _ all).0
runnable-at (first ∷ jobs) (suc place) job all within is = runnable-at jobs place job (and_parts _ _ all).1 (omega arith) is

-- ---- an engine that was closed

pub closed-report : {F : Type 0} (value : F → List ℕ → ItemValue) (workers : ℕ) (source : RoundJob) (parts : EngineParts F) (done : Finished F) (core : Future (List ℕ)) (report : JobReport) → WorkedJobsAreReported → IsReady source → IsEngineFor value workers source parts → HasDone value parts done → core ≡ future_at parts.future.terms core.calls → (IsTrue (flags_at done.pass.known).finished → core.calls ≡ done.pass.known) → report.calls ≡ done.calls → IsMadeOf source.job.now report core → is_canceled_end report.ended ≡ false → IsReportFor source report
closed-report value workers source parts done core report law ready engine has core_is whole calls made going =
    let terms : Terms = parts.future.terms in
    let known : List (Logged (List ℕ)) = done.pass.known in
    let job = source.job.now in
    let first = subst (λ (work : Workload). IsWorkedOut work parts.sizes parts.kind terms known done.calls) engine.work has.worked in
    let second = subst (λ (sizes : List ℕ). IsWorkedOut (work_in source) sizes parts.kind terms known done.calls) engine.sizes first in
    let third = subst (λ (kind : Kind). IsWorkedOut (work_in source) job.blocks kind terms known done.calls) engine.kind second in
    let fourth = subst (λ (terms : Terms). IsWorkedOut (work_in source) job.blocks (kind_in job) terms known done.calls) engine.terms third in
    let fifth = subst (λ (journal : List (Logged (List ℕ))). IsWorkedOut (work_in source) job.blocks (kind_in job) (terms_of workers job) journal done.calls) (sym (whole has.finished)) fourth in
    let sixth = subst (λ (calls : List ℕ). IsWorkedOut (work_in source) job.blocks (kind_in job) (terms_of workers job) core.calls calls) (sym calls) fifth in
    law source.job.now source.items report workers core.calls ready.runnable sixth
    (subst (IsMadeOf source.job.now report) (core_is ∙ ap (λ (terms : Terms). future_at terms core.calls) engine.terms) made) going
