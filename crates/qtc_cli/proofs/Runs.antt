-- A call of the form run.
use Rattle.std.proofs.Common.{◌≡◌, ◌≢◌, ℕ, ◌+◌, ◌-◌, ◌<◌, ◌≤◌, List, [], ◌∷◌, ◌++◌, min, Bool, true, false, cond, Option, Some, None, length, refl, sym, subst, ap, ◌∙◌, inl, inr, arith}
use Rattle.std.specs.List.{list_any}
use Rattle.std.specs.Prelude.{◌↔◌, All, IfSome, IsTrue, map}
use Rattle.std.proofs.lemmas.Bool.{true≢false}
use Rattle.std.proofs.lemmas.Grind.{common_steps}
use Rattle.std.proofs.lemmas.List.Elements.{All-head, All-tail}
use Rattle.std.proofs.lemmas.List.Sums.{sum_by-append}
use Rattle.qtc_outside.specs.Source.{Source, IsCalm}
use Rattle.qtc_outside.specs.Intake.{Intake}
use Rattle.qtc_outside.specs.declared.loading.LoadFault.TheVariants.{TooLong}
use Rattle.qtc_job_file.specs.declared.jobs.JobFile.{JobFile}
use Rattle.qtc_base.specs.Limits.{most_job_file, most_text, most_texts}
use Rattle.qtc_job.specs.Laws.{FilesThatAreReadAreLawful}
use Rattle.qtc_job.specs.declared.faults.BadJob.{BadJob}
use Rattle.qtc_run.specs.GoodRuns.{AreGood}
use Rattle.qtc_run.specs.Laws.{GoodRunsFinish}
use Rattle.qtc_run.specs.Outputs.{has_failed, is_unfinished}
use Rattle.qtc_run.specs.Runnable.{are_runnable}
use Rattle.qtc_job_file.specs.Texts.{Texts}
use Rattle.qtc_run.specs.Sums.{RefusesRun as JobsStop}
use Rattle.qtc_run.specs.declared.reports.JobReport.{JobReport}
use Rattle.qtc_run.specs.declared.reports.Report.{Report}
use Rattle.qtc_run.specs.declared.reports.RunFault.{RunFault}
use Rattle.qtc_run.specs.declared.reports.RunFault.TheVariants.{TooLarge as ItemsTooLarge, Memory as RunMemory}
use Rattle.qtc_cli.specs.Answered.{IsDone, IsBadJob, HasNoFaults}
use Rattle.qtc_cli.specs.Check.{CheckEnds}
use Rattle.qtc_cli.specs.Endings.{IsRefused, WritesAll, WritesFront}
use Rattle.qtc_cli.specs.Forms.{form, run, check}
use Rattle.qtc_load.specs.Loads.{FileNotRead, LoadsFile, LoadsTexts, texts_named, name_of, bytes_of}
use Rattle.qtc_load.specs.declared.faults.FileFault.{FileFault}
use Rattle.qtc_load.specs.declared.faults.FileFault.TheVariants.{Bad as BadFile, Read as FileRead, TooLong as FileTooLong, Memory as FileMemory}
use Rattle.qtc_cli.specs.Refusals.{file_refusal, run_refusal, status_of, line_of, Hears, SaysFor}
use Rattle.qtc_cli.specs.Run.{AsksFor, RunsFile, Ran, IsRunOf, IsTextRefused, IsReadFault, HasManyItems, IsTooLarge, IsNotYet, CanRun, RunsAsSaid, IsCall, RunStops, done_status, RunEnds}
use Rattle.qtc_cli.specs.Seen.{Seen, seen}
use Rattle.qtc_cli.specs.declared.refusals.Refusal.{Refusal}
use Rattle.qtc_cli.specs.declared.refusals.Refusal.TheVariants.{Usage, Bad, ReadFault, WriteFault, Memory, TooLarge, NotYet}
use Rattle.qtc_cli.proofs.Checks.{not-bad, file-same, not-too-long, check-call-of, usage-said}
use Rattle.qtc_cli.proofs.Ends.{keeps-cut, keeps-done, keeps-refused, not-done, refusal_with, said-with, status-within}
use Rattle.qtc_load.proofs.Texts.{calm-same, calm-then}

-- ---- texts that are held are those that are loaded

abbrev AreHeld : Source → Texts → Type 0
AreHeld source texts = All (λ t. source.held t.0 ≡ Some t.1) texts

abbrev AreTold : Source → Texts → Type 0
AreTold source texts = All (λ t. IfSome (source.held t.0) (λ held. t.1 ≡ held)) texts

told-is : (source : Source) (name text held : List ℕ) → source.held name ≡ Some held → IfSome (source.held name) (λ h. text ≡ h) → text ≡ held
told-is source name text held e t = rw e at t

pair-same : (a b : List ℕ × List ℕ) → a.0 ≡ b.0 → a.1 ≡ b.1 → a ≡ b
pair-same (a, x) (b, y) p q = ap (λ k. (k, x)) p ∙ ap (λ v. (b, v)) q

-- texts with the names of those that are held are these
pub texts-same : (source : Source) (loaded held : Texts) → map name_of loaded ≡ map name_of held → AreTold source loaded → AreHeld source held → loaded ≡ held
texts-same source [] [] e told are = refl
texts-same source [] (h ∷ held) e told are = absurd cc
texts-same source (l ∷ loaded) [] e told are = absurd cc
texts-same source (l ∷ loaded) (h ∷ held) e told are =
    let first : l.0 ≡ h.0 = cc in
    let others : map name_of loaded ≡ map name_of held = cc in
    let here = All-head (λ t. source.held t.0 ≡ Some t.1) h held are in
    let text = told-is source h.0 l.1 h.1 here (rw first at (All-head (λ t. IfSome (source.held t.0) (λ held. t.1 ≡ held)) l loaded told)) in
    let rest = texts-same source loaded held others (All-tail (λ t. IfSome (source.held t.0) (λ held. t.1 ≡ held)) l loaded told) (All-tail (λ t. source.held t.0 ≡ Some t.1) h held are) in
    ap (λ p. p ∷ loaded) (pair-same l h first text) ∙ ap (λ s. h ∷ s) rest

-- the texts before a name are a front of those that are held, and the one under it comes next
record IsFront (source : Source) (before held : Texts) (name : List ℕ) : Type 0 where
  text : List ℕ
  rest : Texts
  are : held ≡ before ++ (name, text) ∷ rest
  is_held : source.held name ≡ Some text

front-of : (source : Source) (before held : Texts) (name : List ℕ) (after : List (List ℕ)) → map name_of held ≡ map name_of before ++ name ∷ after → AreTold source before → AreHeld source held → IsFront source before held name
front-of source [] [] name after e told are = absurd cc
front-of source [] (h ∷ held) name after e told are =
    let first : h.0 ≡ name = cc in
    let here = All-head (λ t. source.held t.0 ≡ Some t.1) h held are in
    record { text = h.1; rest = held; are = ap (λ p. p ∷ held) (pair-same h (name, h.1) first refl); is_held = rw first at here }
front-of source (b ∷ before) [] name after e told are = absurd cc
front-of source (b ∷ before) (h ∷ held) name after e told are =
    let first : h.0 ≡ b.0 = cc in
    let others : map name_of held ≡ map name_of before ++ name ∷ after = cc in
    let here = All-head (λ t. source.held t.0 ≡ Some t.1) h held are in
    let there = All-head (λ t. IfSome (source.held t.0) (λ held. t.1 ≡ held)) b before told in
    let text : b.1 ≡ h.1 = told-is source h.0 b.1 h.1 here (rw (sym first) at there) in
    let more = front-of source before held name after others (All-tail (λ t. IfSome (source.held t.0) (λ held. t.1 ≡ held)) b before told) (All-tail (λ t. source.held t.0 ≡ Some t.1) h held are) in
    record {
      text = more.text;
      rest = more.rest;
      are = ap (λ p. p ∷ held) (pair-same h b first (sym text)) ∙ ap (λ s. b ∷ s) more.are;
      is_held = more.is_held;
    }

-- ---- each status of a refusal, where it was told

module _ (name : List ℕ) (call : Seen) (said : Refusal) (stops : RunStops name call.texts said call.texts_after) where
  -- what stops a run, told with this status
  stops-with : (status : ℕ) → status_of said ≡ status → (bad : BadJob) × (said ≡ refusal_with status bad) × RunStops name call.texts (refusal_with status bad) call.texts_after
  stops-with status is =
      let with = said-with said status is in
      (with.0, with.1, subst (λ said. RunStops name call.texts said call.texts_after) with.1 stops)

  run-bad : Hears (line_of said) call.err call.err_after → status_of said ≡ 3 → IsBadJob name call
  run-bad hears three =
      let is = stops-with 3 three in
      record { bad = is.0; loads = is.2; hears = subst (λ said. Hears (line_of said) call.err call.err_after) is.1 hears }

  run-fault : status_of said ≡ 4 → IsReadFault name call.texts call.texts_after
  run-fault four = (stops-with 4 four).2

  run-large : status_of said ≡ 7 → IsTooLarge name call.texts call.texts_after
  run-large seven = (stops-with 7 seven).2

  run-unready : status_of said ≡ 8 → IsNotYet name call.texts call.texts_after
  run-unready eight = (stops-with 8 eight).2

  run-never : (status_of said ≢ 2) × (status_of said ≢ 5)
  run-never = (λ two. (stops-with 2 two).2, λ five. (stops-with 5 five).2)

large-calm : (name : List ℕ) (old new : Source) → IsTooLarge name old new → IsCalm old new
large-calm name old new large =
    elim large [
      | inl file ↦ file.calm
      | inr other ↦ elim other [
        | inl text ↦ calm-then old text.between new text.file_loads.loads.calm (calm-then text.between text.stops.between new text.stops.loads.calm text.stops.stops.calm)
        | inr items ↦ calm-then old items.between new items.file_loads.loads.calm items.texts_load.calm
      ]
    ]

run-calm : (name : List ℕ) (old new : Source) (said : Refusal) → RunStops name old said new → status_of said ≢ 4 → IsCalm old new
run-calm name old new Usage stops away = absurd stops
run-calm name old new (Bad bad) stops away = stops.loads.calm
run-calm name old new ReadFault stops away = absurd (away refl)
run-calm name old new WriteFault stops away = absurd stops
run-calm name old new Memory stops away = stops
run-calm name old new TooLarge stops away = large-calm name old new stops
run-calm name old new NotYet stops away = stops.file_loads.loads.calm

-- want of memory may stand in the place of a bad job file
run-said : (name : List ℕ) (old new : Source) (refusal said : Refusal) → RunStops name old refusal new → SaysFor refusal said → RunStops name old said new
run-said name old new refusal said stops for =
    elim for [
      | inl same ↦ rw same stops
      | inr other ↦ rw other.0 (let l = rw other.1.1 at stops in l.loads.calm)
    ]

-- ---- what can be run is refused for want of memory alone

run-name : (words : List (List ℕ)) (a b : List ℕ) (w v : Option ℕ) → form words ≡ Some (run w a) → form words ≡ Some (run v b) → a ≡ b
run-name words a b w v p q = cc

pub fault-rose : (call : Seen) (name : List ℕ) → IsReadFault name call.texts call.texts_after → HasNoFaults call → ⊥
fault-rose call name fault none =
    elim fault [
      | inl file ↦ none.texts file.rose
      | inr text ↦
          let calm = calm-then call.texts text.between text.stops.between text.file_loads.loads.calm text.stops.loads.calm in
          none.texts (rw calm.faults at text.stops.stops.rose)
    ]

-- what stands between others
middle : {X : Type 0} (P : X → Type 0) (xs : List X) (y : X) (ys : List X) → All P (xs ++ y ∷ ys) → P y
middle P [] y ys all = All-head P y ys all
middle P (x ∷ xs) y ys all = middle P xs y ys (All-tail P x (xs ++ y ∷ ys) all)

no-room : (most whole before text rest all : ℕ) → all ≡ before + (text + rest) → text ≤ most → all ≤ whole → min most (whole - before) < text → ⊥
no-room most whole before text rest all is short few long = omega arith

ready-text : (call : Seen) (can : CanRun call) (text : IsTextRefused TooLong can.name call.texts call.texts_after) → ⊥
ready-text call can text =
    let same = file-same call.texts text.between can.name can.text can.file text.file can.held can.reads text.file_loads in
    let stops = text.stops in
    let calm = text.file_loads.loads.calm in
    let named : map name_of can.texts ≡ map name_of stops.texts ++ text.text ∷ stops.after =
    can.under ∙ (ap texts_named (sym same) ∙ (stops.names_are ∙ ap (λ s. s ++ text.text ∷ stops.after) (sym stops.loads.under))) in
    let front = front-of call.texts stops.texts can.texts text.text stops.after named (rw calm.held at stops.loads.told) can.told in
    let held : stops.between.held text.text ≡ Some front.text = ap (λ h. h text.text) (stops.loads.calm.held ∙ calm.held) ∙ front.is_held in
    let long = rw held at stops.stops.told in
    let sum : bytes_of can.texts ≡ bytes_of stops.texts + bytes_of ((text.text, front.text) ∷ front.rest) = ap bytes_of front.are ∙ sum_by-append (λ t. length t.1) stops.texts ((text.text, front.text) ∷ front.rest) in
    let few = can.few in
    let short : length front.text ≤ most_text = middle (λ t. length t.1 ≤ most_text) stops.texts (text.text, front.text) front.rest (rw front.are at can.each) in
    let next : bytes_of ((text.text, front.text) ∷ front.rest) ≡ length front.text + bytes_of front.rest = sum_by-append (λ t. length t.1) ((text.text, front.text) ∷ []) front.rest ∙ grind (arith, common_steps) in
    no-room most_text most_texts (bytes_of stops.texts) (length front.text) (bytes_of front.rest) (bytes_of can.texts) (sum ∙ ap (λ n. bytes_of stops.texts + n) next) short few long

ready-items : (call : Seen) (can : CanRun call) (items : HasManyItems can.name call.texts call.texts_after) → ⊥
ready-items call can items =
    let same = file-same call.texts items.between can.name can.text can.file items.file can.held can.reads items.file_loads in
    let calm = items.file_loads.loads.calm in
    let texts = texts-same call.texts items.texts can.texts (items.texts_load.under ∙ (ap texts_named same ∙ sym can.under)) (rw calm.held at items.texts_load.told) can.told in
    can.fits items.place items.number items.bytes (rw (same, texts) at items.passes)

run-complete : (call : Seen) (can : CanRun call) (said : Refusal) → RunStops can.name call.texts said call.texts_after → HasNoFaults call → status_of said ≡ 6
run-complete call can Usage stops none = absurd stops
run-complete call can (Bad bad) stops none = absurd (not-bad call.texts call.texts_after can.name can.text bad can.file can.held can.reads stops)
run-complete call can ReadFault stops none = absurd (fault-rose call can.name stops none)
run-complete call can WriteFault stops none = absurd stops
run-complete call can Memory stops none = refl
run-complete call can TooLarge stops none =
    elim stops [
      | inl file ↦ absurd (not-too-long most_job_file call.texts call.texts_after can.name can.text can.held can.short file)
      | inr other ↦ elim other [
        | inl text ↦ absurd (ready-text call can text)
        | inr items ↦ absurd (ready-items call can items)
      ]
    ]
run-complete call can NotYet stops none =
    let same = file-same call.texts call.texts_after can.name can.text can.file stops.file can.held can.reads stops.file_loads in
    absurd (stops.unready (rw (sym same) at can.runnable))

-- ---- a run that nothing stops has no failed job

none-failed : (reports : List JobReport) → All (λ (report : JobReport). is_unfinished report.ended ≡ false) reports → list_any (λ job. is_unfinished job.ended) reports ≡ false
none-failed [] all = refl
none-failed (report ∷ reports) all =
    rw (All-head (λ (report : JobReport). is_unfinished report.ended ≡ false) report reports all, none-failed reports (All-tail (λ (report : JobReport). is_unfinished report.ended ≡ false) report reports all)) refl

-- the file and the texts of a run are those that the source tells
run-good : FilesThatAreReadAreLawful → GoodRunsFinish → (call : Seen) (can : CanRun call) (workers : Option ℕ) (made : Report) (text : List ℕ) → IsRunOf can.name workers call.texts made text call.texts_after → AreGood can.texts can.file.jobs → has_failed made ≡ false
run-good read law call can workers made text is good =
    let same = file-same call.texts is.ran.between can.name can.text can.file is.file can.held can.reads is.ran.file_loads in
    let calm = is.ran.file_loads.loads.calm in
    let texts = texts-same call.texts is.texts can.texts (is.ran.texts_load.under ∙ (ap texts_named same ∙ sym can.under)) (rw calm.held at is.ran.texts_load.told) can.told in
    none-failed made.jobs (law can.file can.texts made.jobs (read can.text can.file can.reads) (rw (same, texts) at is.output.reports) good)

-- ---- whole calls

ran-calm : (name : List ℕ) (old new : Source) (file : JobFile) (texts : Texts) → Ran name old file texts new → IsCalm old new
ran-calm name old new file texts ran = calm-then old ran.between new ran.file_loads.loads.calm ran.texts_load.calm

run-refused : (call : Seen) (report : Option Report) (name : List ℕ) (said : Refusal) → RunsFile call name → RunStops name call.texts said call.texts_after → call.status ≡ status_of said → Hears (line_of said) call.err call.err_after → call.out_after ≡ call.out → report ≡ None → RunsAsSaid call report
run-refused call report name said named stops is hears same nothing =
    let never = run-never name call said stops in
    record {
      finished = λ done. absurd (not-done call.status said is done);
      usage = (λ two. absurd (never.0 (sym is ∙ two)), λ unnamed. absurd (let n = named.1 in cc));
      bad_job = λ three. (name, named, run-bad name call said stops hears (sym is ∙ three));
      read_fault = λ four. (name, named, run-fault name call said stops (sym is ∙ four));
      write_fault = λ five. absurd (never.1 (sym is ∙ five));
      too_large = λ seven. (name, named, run-large name call said stops (sym is ∙ seven));
      not_yet = λ eight. (name, named, run-unready name call said stops (sym is ∙ eight));
      only = let most = (status-within said).1 in omega arith;
      complete = λ can none.
          let same_name = run-name call.words can.name name can.named.0 named.0 can.named.1 named.1 in
          inr (is ∙ run-complete call can said (rw (sym same_name) at stops) none);
      good = λ can good one. not-done call.status said is (inr one);
      no_report = λ _ _. nothing;
      outside = keeps-refused call said is hears same (λ away. run-calm name call.texts call.texts_after said stops (λ four. away (is ∙ four)));
    }

one-where : (failed : Bool) (status : ℕ) → status ≡ cond failed 1 0 → (status ≡ 1) ↔ (failed ≡ true)
one-where true status is = (λ _. refl, λ _. is)
one-where false status is = (λ one. absurd (omega arith), λ e. absurd (true≢false (sym e)))

is-done : (failed : Bool) (status : ℕ) → status ≡ cond failed 1 0 → IsDone status
is-done true status is = inr is
is-done false status is = inl is

done-low : (status : ℕ) → IsDone status → status ≤ 1
done-low status done =
    elim done [
      | inl zero ↦ omega arith
      | inr one ↦ omega arith
    ]

run-written : FilesThatAreReadAreLawful → GoodRunsFinish → (call : Seen) (report : Option Report) (name : List ℕ) (workers : Option ℕ) (made : Report) (text : List ℕ) → AsksFor call workers name → report ≡ Some made → IsRunOf name workers call.texts made text call.texts_after → WritesAll text (done_status made) call.status call.out call.out_after call.err call.err_after → RunsAsSaid call report
run-written read law call report name workers made text named report_is run_is w =
    let done = is-done (has_failed made) call.status w.status_is in
    let low = done-low call.status done in
    record {
      finished = λ _. record {
        made = made;
        text = text;
        reports = record { name = name; workers = workers; named = named; run_is = run_is; report_is = report_is };
        writes = w.takes;
        failed = one-where (has_failed made) call.status w.status_is;
      };
      usage = (λ two. absurd (omega arith), λ unnamed. absurd cc);
      bad_job = λ three. absurd (omega arith);
      read_fault = λ four. absurd (omega arith);
      write_fault = λ five. absurd (omega arith);
      too_large = λ seven. absurd (omega arith);
      not_yet = λ eight. absurd (omega arith);
      only = omega arith;
      complete = λ can none. inl done;
      good = λ can good one.
          let same_name = run-name call.words can.name name can.named.0 workers can.named.1 named in
          let none = run-good read law call can workers made text (rw (sym same_name) at run_is) good in
          true≢false (sym ((one-where (has_failed made) call.status w.status_is).0 one) ∙ none);
      no_report = λ away _. absurd (away done);
      outside = keeps-done call done w.quiet (ran-calm name call.texts call.texts_after run_is.file run_is.texts run_is.ran);
    }

run-cut : (call : Seen) (report : Option Report) (name : List ℕ) (workers : Option ℕ) (made : Report) (text : List ℕ) → AsksFor call workers name → report ≡ Some made → IsRunOf name workers call.texts made text call.texts_after → WritesFront text call.status call.out call.out_after call.err call.err_after → RunsAsSaid call report
run-cut call report name workers made text named report_is run_is w =
    let five = w.status_is in
    record {
      finished = λ done. absurd (not-done call.status WriteFault five done);
      usage = (λ two. absurd (omega arith), λ unnamed. absurd cc);
      bad_job = λ three. absurd (omega arith);
      read_fault = λ four. absurd (omega arith);
      write_fault = λ _. record {
        made = made;
        text = text;
        reports = record { name = name; workers = workers; named = named; run_is = run_is; report_is = report_is };
        taken = w.taken;
        front = w.cut;
      };
      too_large = λ seven. absurd (omega arith);
      not_yet = λ eight. absurd (omega arith);
      only = omega arith;
      complete = λ can none. absurd (none.out w.cut.rose);
      good = λ can good one. not-done call.status WriteFault five (inr one);
      no_report = λ _ away. absurd (away five);
      outside = keeps-cut call five w.hears (ran-calm name call.texts call.texts_after run_is.file run_is.texts run_is.ran);
    }

run-call : FilesThatAreReadAreLawful → GoodRunsFinish → (call : Seen) (report : Option Report) (name : List ℕ) (workers : Option ℕ) → AsksFor call workers name → RunEnds name workers call.texts call.texts_after call.out call.out_after call.err call.err_after call.status report → RunsAsSaid call report
run-call read law call report name workers named ends =
    elim ends [
      | inl written ↦ elim written.writes [
        | inl all ↦ run-written read law call report name workers written.made written.text named written.report_is written.run_is all
        | inr front ↦ run-cut call report name workers written.made written.text named written.report_is written.run_is front
      ]
      | inr refused ↦ run-refused call report name refused.refused.said (workers, named) (run-said name call.texts call.texts_after refused.refusal refused.refused.said refused.stops refused.refused.stands) refused.refused.status_is refused.refused.hears refused.untouched refused.no_report
    ]

usage-call : (call : Seen) (report : Option Report) → form call.words ≡ None → IsRefused Usage call.status call.err call.err_after → call.texts_after ≡ call.texts → call.out_after ≡ call.out → report ≡ None → RunsAsSaid call report
usage-call call report unnamed refused same_texts same_out nothing =
    let said = usage-said refused.said refused.stands in
    let is : call.status ≡ status_of Usage = refused.status_is ∙ ap status_of said in
    record {
      finished = λ done. absurd (not-done call.status Usage is done);
      usage = (λ _. unnamed, λ _. is);
      bad_job = λ three. absurd (omega arith);
      read_fault = λ four. absurd (omega arith);
      write_fault = λ five. absurd (omega arith);
      too_large = λ seven. absurd (omega arith);
      not_yet = λ eight. absurd (omega arith);
      only = omega arith;
      complete = λ can none. absurd (let n = can.named.1 in cc);
      good = λ can good one. not-done call.status Usage is (inr one);
      no_report = λ _ _. nothing;
      outside = keeps-refused call Usage is (rw said at refused.hears) same_out (λ _. rw same_texts (calm-same call.texts));
    }

-- ---- the same, with what is seen of a call given one by one

pub run-call-of : FilesThatAreReadAreLawful → GoodRunsFinish → (words : List (List ℕ)) (texts texts_after : Source) (out out_after err err_after : Intake) (status : ℕ) (report : Option Report) (name : List ℕ) (workers : Option ℕ) → form words ≡ Some (run workers name) → RunEnds name workers texts texts_after out out_after err err_after status report → IsCall (seen words texts texts_after out out_after err err_after status) report
run-call-of read law words texts texts_after out out_after err err_after status report name workers named ends =
    rw named (run-call read law (seen words texts texts_after out out_after err err_after status) report name workers named ends)

pub check-is-call : (words : List (List ℕ)) (texts texts_after : Source) (out out_after err err_after : Intake) (status : ℕ) (report : Option Report) (name : List ℕ) → form words ≡ Some (check name) → CheckEnds name texts texts_after out out_after err err_after status → report ≡ None → IsCall (seen words texts texts_after out out_after err err_after status) report
check-is-call words texts texts_after out out_after err err_after status report name named ends nothing =
    rw named (check-call-of words texts texts_after out out_after err err_after status name named ends, nothing)

pub usage-call-of : (words : List (List ℕ)) (texts out_texts : Source) (out out_after err err_after : Intake) (status : ℕ) (report : Option Report) → form words ≡ None → IsRefused Usage status err err_after → out_texts ≡ texts → out_after ≡ out → report ≡ None → IsCall (seen words texts out_texts out out_after err err_after status) report
usage-call-of words texts out_texts out out_after err err_after status report unnamed refused same_texts same_out nothing =
    rw unnamed (usage-call (seen words texts out_texts out out_after err err_after status) report unnamed refused same_texts same_out nothing)

-- ---- why there is no report

-- a job file that was not read stops a run for the same cause
pub run-file_stops : (name : List ℕ) (old new : Source) (fault : FileFault) → FileNotRead name old fault new → RunStops name old (file_refusal fault) new
run-file_stops name old new (BadFile bad) stops = stops
run-file_stops name old new FileRead stops = inl stops
run-file_stops name old new FileTooLong stops = inl stops
run-file_stops name old new FileMemory stops = stops

pub run-stops : (name : List ℕ) (old between new : Source) (file : JobFile) (texts : Texts) (fault : RunFault) → LoadsFile name old file between → IsTrue (are_runnable file.jobs) → LoadsTexts (texts_named file) between texts new → JobsStop texts file.jobs fault → RunStops name old (run_refusal fault) new
run-stops name old between new file texts (ItemsTooLarge job items bytes) loads ready texts_load stops =
    inr (inr (record {
      file = file;
      texts = texts;
      between = between;
      file_loads = loads;
      runnable = ready;
      texts_load = texts_load;
      place = job;
      number = items;
      bytes = bytes;
      passes = stops;
    }))
run-stops name old between new file texts RunMemory loads ready texts_load stops = calm-then old between new loads.loads.calm texts_load.calm
