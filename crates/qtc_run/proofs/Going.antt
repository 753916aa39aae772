-- Where Canceled doesn't stand in the end, no entry of a journal canceled.
use Rattle.std.proofs.Common.{◌≡◌, Bool, true, false, List, [], ◌∷◌, refl, sym, ◌∙◌, ⊎_elim}
use Rattle.std.specs.Prelude.{All, fold}
use Rattle.std.proofs.lemmas.Bool.{cases_Bool, true≢false}
use Rattle.std.proofs.lemmas.List.Elements.{All-nil, All-cons}
use Rattle.qtc_events.specs.Flags.{Standing}
use Rattle.qtc_events.specs.Calls.{acts_as, after_acting, after_call}
use Rattle.qtc_events.specs.Journal.{after_entry}
use Rattle.qtc_events.specs.declared.calls.Call.{Call}
use Rattle.qtc_events.specs.declared.calls.Call.TheVariants.{Start, Report, Account, Suspend, Resume, ReportSuspended, Cancel, Fail, Finish}
use Rattle.qtc_events.specs.declared.entries.Entry.{Entry}
use Rattle.qtc_events.specs.declared.entries.Reached.{Reached}
use Rattle.qtc_events.specs.declared.entries.Reached.TheVariants.{Nothing, Suspend as ReachedSuspend, Cancel as ReachedCancel}
use Rattle.qtc_run.specs.Journals.{LetsGoOn, cancels, cancels_by_threshold}

-- once Canceled stands it stays
call-stays : (s : Standing) (call : Call) → s.canceled ≡ true → (after_call s call).canceled ≡ true
call-stays s Start is = is
call-stays s (Report begin kept total) is = is
call-stays s (Account total) is = is
call-stays s Suspend is = is
call-stays s Resume is = is
call-stays s ReportSuspended is = is
call-stays s Cancel is = refl
call-stays s (Fail index) is = refl
call-stays s Finish is = is

threshold-stays : (s : Standing) (reached : Reached) → s.canceled ≡ true → (after_acting s (acts_as reached)).canceled ≡ true
threshold-stays s Nothing is = is
threshold-stays s ReachedSuspend is = is
threshold-stays s ReachedCancel is = refl

entry-stays : (s : Standing) (entry : Entry) → s.canceled ≡ true → (after_entry s entry).canceled ≡ true
entry-stays s entry is = threshold-stays (after_call s entry.call) entry.reached (call-stays s entry.call is)

journal-stays : (s : Standing) (journal : List Entry) → s.canceled ≡ true → (fold after_entry s journal).canceled ≡ true
journal-stays s [] is = is
journal-stays s (entry ∷ journal) is = journal-stays (after_entry s entry) journal (entry-stays s entry is)

-- what cancels sets it
call-sets : (s : Standing) (call : Call) → cancels call ≡ true → (after_call s call).canceled ≡ true
call-sets s Start is = cc
call-sets s (Report begin kept total) is = cc
call-sets s (Account total) is = cc
call-sets s Suspend is = cc
call-sets s Resume is = cc
call-sets s ReportSuspended is = cc
call-sets s Cancel is = refl
call-sets s (Fail index) is = refl
call-sets s Finish is = cc

threshold-sets : (s : Standing) (reached : Reached) → cancels_by_threshold reached ≡ true → (after_acting s (acts_as reached)).canceled ≡ true
threshold-sets s Nothing is = cc
threshold-sets s ReachedSuspend is = cc
threshold-sets s ReachedCancel is = refl

never-true : (b : Bool) → (b ≡ true → ⊥) → b ≡ false
never-true b away = ⊎_elim (λ yes. absurd (away yes)) (λ no. no) (cases_Bool b)

entry-goes : (s : Standing) (entry : Entry) (journal : List Entry) → (fold after_entry (after_entry s entry) journal).canceled ≡ false → LetsGoOn entry
entry-goes s entry journal going =
    let away : (after_entry s entry).canceled ≡ true → ⊥ = λ is. true≢false (sym (journal-stays (after_entry s entry) journal is) ∙ going) in
    record {
      call = never-true (cancels entry.call) (λ is. away (threshold-stays (after_call s entry.call) entry.reached (call-sets s entry.call is)));
      threshold = never-true (cancels_by_threshold entry.reached) (λ is. away (threshold-sets (after_call s entry.call) entry.reached is));
    }

pub going-on : (s : Standing) (journal : List Entry) → (fold after_entry s journal).canceled ≡ false → All LetsGoOn journal
going-on s [] going = All-nil LetsGoOn
going-on s (entry ∷ journal) going =
    All-cons LetsGoOn entry journal (entry-goes s entry journal going) (going-on (after_entry s entry) journal going)
