-- Jobs that are run so far: over texts, without a fold, a threshold, a watcher or a chain.
use Rattle.std.proofs.Common.{◌≡◌, ℕ, true, false, eqb, List, [], ◌∷◌, length, Option, None, Some, refl, ap, sym, subst, ◌∙◌, arith}
use Rattle.std.specs.Prelude.{is_none}
use Rattle.std.proofs.lemmas.Bool.{and_parts, true≢false}
use Rattle.std.proofs.lemmas.Bool.Decides.{nat_tests}
use Rattle.qtc_future.specs.declared.replies.Failure.{Failure}
use Rattle.qtc_future.specs.declared.replies.Outcome.{Outcome}
use Rattle.qtc_job_file.specs.declared.jobs.Input.{Input}
use Rattle.qtc_job_file.specs.declared.jobs.Input.TheVariants as input
use Rattle.qtc_job_file.specs.declared.jobs.Job.{Job}
use Rattle.qtc_kernel.specs.Laws.{IsFailing as IsBadItem}
use Rattle.qtc_kernel.specs.Workload.{bad_indexes}
use Rattle.qtc_ops.specs.ItemValue.{ItemValue, kept, dropped, bad}
use Rattle.qtc_ops.specs.Kept.{fails, fails_at}
use Rattle.qtc_ops.specs.Operations.{value_of}
use Rattle.qtc_ops.proofs.KeptLemmas.{fails-contain}
use Rattle.qtc_run.specs.Failing.{IsFailing, failing_indexes, fails_in, is_refused}
use Rattle.qtc_run.specs.FoldOrders.{is_unordered}
use Rattle.qtc_run.specs.Laws.{FailuresAreOfItemsThatFail}
use Rattle.qtc_run.specs.RunOrder.{round_after}
use Rattle.qtc_run.specs.Runnable.{is_runnable, reads_texts}
use Rattle.qtc_run.specs.Sequential.{values_after}
use Rattle.qtc_run.specs.Sources.{Texts, choice_of, given, items_of, source_of, work_over}

pub record IsPlain (job : Job) : Type 0 where
  pub reads : reads_texts job.input ≡ true
  pub whole : is_none job.fold ≡ true
  pub fold : job.fold ≡ None
  pub cancel_after : job.cancel_after ≡ 0
  pub suspend_after : job.suspend_after ≡ 0
  pub chain : job.chain ≡ []

zero-of : (n : ℕ) → eqb n 0 ≡ true → n ≡ 0
zero-of n is = grind (arith, nat_tests)

none-of : {X : Type 0} (o : Option X) → is_none o ≡ true → o ≡ None
none-of None is = refl
none-of (Some x) is = absurd (true≢false (sym is))

empty-of : {X : Type 0} (xs : List X) → length xs ≡ 0 → xs ≡ []
empty-of [] is = refl
empty-of (x ∷ xs) is = absurd (omega arith)

pub runnable-plain : (job : Job) → is_runnable job ≡ true → IsPlain job
runnable-plain job is =
    let first = and_parts _ _ is in
    let second = and_parts _ _ first.1 in
    let third = and_parts _ _ second.1 in
    let fourth = and_parts _ _ third.1 in
    let fifth = and_parts _ _ fourth.1 in
    record {
      reads = first.0;
      whole = second.0;
      fold = none-of job.fold second.0;
      cancel_after = zero-of job.cancel_after third.0;
      suspend_after = zero-of job.suspend_after fourth.0;
      chain = empty-of job.chain (zero-of (length job.chain) fifth.1);
    }

-- ---- its source

pub round-zero : (rounds : List ℕ) (read : Input) → reads_texts read ≡ true → round_after rounds read ≡ 0
round-zero rounds (input.Lines name) is = refl
round-zero rounds (input.Files names) is = refl
round-zero rounds (input.Pieces size name) is = refl
round-zero rounds (input.Job place) is = absurd (true≢false (sym is))
round-zero rounds (input.All places) is = absurd (true≢false (sym is))
round-zero rounds (input.Any places) is = absurd (true≢false (sym is))

pub source-given : (texts : Texts) (jobs : List Job) (outcomes : List (Outcome (List ℕ))) (read : Input) → reads_texts read ≡ true → source_of texts jobs outcomes read ≡ given (items_of texts read)
source-given texts jobs outcomes (input.Lines name) is = refl
source-given texts jobs outcomes (input.Files names) is = refl
source-given texts jobs outcomes (input.Pieces size name) is = refl
source-given texts jobs outcomes (input.Job place) is = absurd (true≢false (sym is))
source-given texts jobs outcomes (input.All places) is = absurd (true≢false (sym is))
source-given texts jobs outcomes (input.Any places) is = absurd (true≢false (sym is))

pub no-choice : (jobs : List Job) (read : Input) → reads_texts read ≡ true → choice_of jobs read ≡ None
no-choice jobs (input.Lines name) is = refl
no-choice jobs (input.Files names) is = refl
no-choice jobs (input.Pieces size name) is = refl
no-choice jobs (input.Job place) is = absurd (true≢false (sym is))
no-choice jobs (input.All places) is = absurd (true≢false (sym is))
no-choice jobs (input.Any places) is = absurd (true≢false (sym is))

-- ---- without a fold

pub bad-alone : (job : Job) (items : List (List ℕ)) → job.fold ≡ None → failing_indexes job items ≡ bad_indexes (work_over job items)
bad-alone job items is = ap (λ fold. fails (value_of job.op) (is_refused fold) items) is

pub texts-alone : (job : Job) (texts : List (List ℕ)) → job.fold ≡ None → values_after job.fold texts ≡ texts
texts-alone job texts is = ap (λ fold. values_after fold texts) is

pub ordered-alone : (job : Job) → job.fold ≡ None → is_unordered job ≡ false
ordered-alone job is = rw is refl

-- ---- items that fail

bad-of : (v : ItemValue) → fails_at (is_refused None) v ≡ true → v ≡ bad
bad-of (kept text) is = absurd (true≢false (sym is))
bad-of dropped is = absurd (true≢false (sym is))
bad-of bad is = refl

pub are-failing : FailuresAreOfItemsThatFail
are-failing job items failure is =
    let parts = (fails-contain (value_of job.op) (is_refused job.fold) items failure.index).0 is.among in
    let fails : fails_in job failure.item ≡ true = ap (fails_in job) is.item_is ∙ parts.1 in
    record {
      within = parts.0;
      item_is = is.item_is;
      failing = fails;
      bad_value = λ none. bad-of (value_of job.op failure.item) (subst (λ fold. fails_at (is_refused fold) (value_of job.op failure.item) ≡ true) none fails);
    }

-- a bad item fails
pub bad-fails : (job : Job) (items : List (List ℕ)) (failure : Failure) → IsBadItem (work_over job items) failure → IsFailing job items failure
bad-fails job items failure is = record {
  among = (fails-contain (value_of job.op) (is_refused job.fold) items failure.index).1 (is.within, ap (fails_at (is_refused job.fold)) is.bad_value);
  item_is = is.item_is;
}
