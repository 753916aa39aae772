-- What a job's engine is made of, and what was made.
use Rattle.std.proofs.Common.{◌≡◌, ℕ, Bool, true, false, None, ◌+◌, ◌<◌, ◌≤◌, List, [], ◌∷◌, ◌++◌, length, get_or, replicate, refl, ap, sym, subst, ◌∙◌, arith}
use Rattle.std.specs.Prelude.{All, IfSome, slice_get}
use Rattle.std.proofs.lemmas.List.Elements.{All-nil, All-cons}
use Rattle.std.proofs.lemmas.Option.{slice_get-get_or}
use Rattle.qtc_base.specs.Limits.{most_workers}
use Rattle.qtc_active.specs.Count.{BadgeState}
use Rattle.qtc_kernel.specs.EngineParts.{AreDesks, EngineParts, DeskState, IsDesk, IsEngineOf, IsNewDesk, IsPlanned, value_by}
use Rattle.qtc_kernel.specs.OwnPasses.{board_passes, is_reduced, own_passes, plan_terms}
use Rattle.qtc_kernel.specs.Workload.{workload}
use Rattle.qtc_kernel.specs.declared.kinds.Kind.{Kind}
use Rattle.qtc_ops.specs.ItemValue.{ItemValue}
use Rattle.qtc_ops.specs.Operations.{value_of}
use Rattle.qtc_shared.specs.Parts.{Terms}
use Rattle.qtc_shared.specs.Passes.{PassState}
use Rattle.qtc_run.specs.Pairing.{EachPair}
use Rattle.qtc_run.specs.Reports.{is_keep}
use Rattle.qtc_run.specs.Rounds.{AreFree, IsEngineFor, IsFree, IsReady, each_times, kind_in, kind_with}
use Rattle.qtc_run.specs.declared.rounds.RoundJob.{RoundJob}
use Rattle.qtc_run.proofs.Rows.{all-imply, pairs-append, pairs-row}
use Rattle.qtc_run.proofs.Seating.{rows-push}
use Rattle.qtc_run.proofs.Plain.{runnable-plain}
use Rattle.qtc_run.proofs.Worked.{value-suits}

-- no job that is run so far has a fold
without-fold : (keeps : Bool) → is_reduced (kind_with keeps true) ≡ false
without-fold false = refl
without-fold true = refl

pub kind-ready : (source : RoundJob) (kind : Kind) → IsReady source → kind ≡ kind_with (is_keep source.job.now.op) true → kind ≡ kind_in source.job.now
kind-ready source kind ready is = is ∙ ap (kind_with (is_keep source.job.now.op)) (sym (runnable-plain source.job.now ready.runnable).whole)

same-count : (a b more : ℕ) → a + more ≡ b + more → a ≡ b
same-count a b more is = omega arith

module _ {F : Type 0} (value : F → List ℕ → ItemValue) (called : F → List ℕ) where
  -- functions that all do this do the first one's
  pub by-first : (functions : List F) (does : List ℕ → ItemValue) → 1 ≤ length functions → All (λ function. value function ≡ does) functions → value_by value functions ≡ does
  by-first [] does some all = absurd (omega arith)
  by-first (function ∷ functions) does some all = all 0 function (omega arith)

  pub planned : {R : Type 0} (workers : ℕ) (source : RoundJob) (kind : Kind) (sizes : List ℕ) (functions : List F) → IsReady source → (1 ≤ workers) × (workers ≤ most_workers) → kind ≡ kind_with (is_keep source.job.now.op) true → sizes ≡ source.job.now.blocks → length functions ≡ workers
      → All (λ function. value function ≡ value_of source.job.now.op) functions → All (λ function. called function ≡ []) functions → IsPlanned {R = R} value called kind None source.items workers sizes functions
  planned workers source kind sizes functions ready few kind_is sizes_are count does fresh =
      let some : 1 ≤ length functions = omega (arith, few.0, count) in
      let first : value_by value functions ≡ value_of source.job.now.op = by-first functions (value_of source.job.now.op) some does in
      let plain : is_reduced kind ≡ false = ap is_reduced kind_is ∙ without-fold (is_keep source.job.now.op) in
      record {
        plain = plain;
        folds = sym plain;
        limits = record { indexes = ready.few; one = few.0; few = few.1 };
        sizes_are = rw sizes_are ready.blocks;
        count = count;
        alike = all-imply (λ function. value function ≡ value_of source.job.now.op) (λ function. value function ≡ value_by value functions) functions (λ function is. is ∙ sym first) does;
        fresh = fresh;
        suits = value-suits source.job.now.op kind source.items (value_by value functions) kind_is first;
      }

  pub engine-for : (workers : ℕ) (source : RoundJob) (kind : Kind) (cancel_after suspend_after : ℕ) (sizes : List ℕ) (functions : List F) (parts : EngineParts F) (desks : List (DeskState F)) (pass : PassState (List ℕ)) → 1 ≤ workers → kind ≡ kind_in source.job.now → sizes ≡ source.job.now.blocks
      → cancel_after ≡ source.job.now.cancel_after → suspend_after ≡ source.job.now.suspend_after → length functions ≡ workers → All (λ function. value function ≡ value_of source.job.now.op) functions
      → IsEngineOf value called source.items kind (plan_terms kind cancel_after suspend_after workers) sizes functions parts desks pass → IsEngineFor value workers source parts
  engine-for workers source kind cancel_after suspend_after sizes functions parts desks pass one kind_is sizes_are cancel_is suspend_is count does made =
      let some : 1 ≤ length functions = omega (arith, one, count) in
      let first : value_by value functions ≡ value_of source.job.now.op = by-first functions (value_of source.job.now.op) some does in
      let makers : own_passes kind parts.counter.workers ≡ own_passes kind workers = sym (made.fits.makers ∙ ap (λ k. own_passes k parts.counter.workers) made.kind_is) ∙ ap (λ (terms : Terms). terms.makers) made.terms_are in
      record {
        work = ap (λ items. workload items (value_by value parts.functions)) made.items_are ∙ (ap (λ functions. workload source.items (value_by value functions)) made.functions_are ∙ ap (workload source.items) first);
        sizes = made.sizes_are ∙ sizes_are;
        count = same-count parts.counter.workers workers (board_passes kind) makers;
        kind = made.kind_is ∙ kind_is;
        terms = made.terms_are ∙ rw (kind_is, cancel_is, suspend_is) refl;
      }

  some-at : {X : Type 0} (P : X → Type 0) (xs : List X) (at : ℕ) (d : X) → at < length xs → IfSome (slice_get xs at) P → P (get_or xs at d)
  some-at P xs at d within holds = subst (λ found. IfSome found P) (slice_get-get_or xs at d within) holds

  pub free-desks : (items : List (List ℕ)) (kind : Kind) (terms : Terms) (sizes : List ℕ) (functions : List F) (parts : EngineParts F) (desks : List (DeskState F)) (pass : PassState (List ℕ)) → IsEngineOf value called items kind terms sizes functions parts desks pass → AreFree value called parts desks
  free-desks items kind terms sizes functions parts desks pass made = record {
    count = made.desks_are.count;
    each = λ k d within. record { desk_is = made.desks_are.each k d within; out = ap (λ (b : BadgeState). b.is_in) (some-at (IsNewDesk parts k) desks k d within (made.fresh k within)).badge };
  }

  -- the desks of one engine more
  pub seats-push : (workers : ℕ) (all_parts : List (EngineParts F)) (parts : EngineParts F) (desks theirs : List (DeskState F)) → parts.counter.workers ≡ workers → EachPair (IsFree value called) (each_times workers all_parts) desks → AreFree value called parts theirs → EachPair (IsFree value called) (each_times workers (all_parts ++ parts ∷ [])) (desks ++ theirs)
  seats-push workers all_parts parts desks theirs count all free =
      let long : length theirs ≡ workers = free.count ∙ count in
      let row = subst (λ n. EachPair (IsFree value called) (replicate n parts) theirs) long (pairs-row (IsFree value called) parts theirs free.each) in
      subst (λ row. EachPair (IsFree value called) row (desks ++ theirs)) (sym (rows-push workers all_parts parts)) (pairs-append (IsFree value called) (each_times workers all_parts) (replicate workers parts) desks theirs all row)

  -- each engine has so many workers
  pub all-have : (workers : ℕ) (sources : List RoundJob) (all_parts : List (EngineParts F)) → EachPair (IsEngineFor value workers) sources all_parts → All (λ parts. parts.counter.workers ≡ workers) all_parts
  all-have workers [] [] all = All-nil (λ parts. parts.counter.workers ≡ workers)
  all-have workers [] (parts ∷ all_parts) all = absurd all
  all-have workers (source ∷ sources) [] all = absurd all
  all-have workers (source ∷ sources) (parts ∷ all_parts) all = All-cons (λ parts. parts.counter.workers ≡ workers) parts all_parts all.0.count (all-have workers sources all_parts all.1)

  -- free desks are desks of the engine whose workers are out
  pub are-desks : (workers : ℕ) (parts : EngineParts F) (desks : List (DeskState F)) → length desks ≡ workers → parts.counter.workers ≡ workers → All (IsFree value called parts) desks → AreDesks value called parts desks
  are-desks workers parts desks long count free = record {
    count = long ∙ sym count;
    each = all-imply (IsFree value called parts) (IsDesk value called parts) desks (λ desk is. is.desk_is) free;
  }

  pub are-out : (parts : EngineParts F) (desks : List (DeskState F)) → All (IsFree value called parts) desks → All (λ desk. desk.badge.is_in ≡ false) desks
  are-out parts desks free = all-imply (IsFree value called parts) (λ desk. desk.badge.is_in ≡ false) desks (λ desk is. is.out) free
