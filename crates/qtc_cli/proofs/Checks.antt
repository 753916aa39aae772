-- A call of the form check.
use Rattle.std.proofs.Common.{◌≡◌, ◌≢◌, ℕ, ◌≤◌, List, Some, length, refl, sym, subst, ap, ◌∙◌, inl, inr, arith}
use Rattle.qtc_outside.specs.Source.{Source, IsCalm}
use Rattle.qtc_outside.specs.Intake.{Intake}
use Rattle.qtc_outside.specs.Loading.{Loads, FailsToLoad, IsTooLong}
use Rattle.qtc_job.specs.declared.faults.BadJob.{BadJob}
use Rattle.qtc_job_file.specs.declared.jobs.JobFile.{JobFile}
use Rattle.qtc_job.specs.Grammar.{Reads}
use Rattle.qtc_base.specs.Limits.{most_job_file}
use Rattle.qtc_job.specs.Lines.{lines_of}
use Rattle.qtc_cli.specs.Answered.{IsBadJob, HasNoFaults}
use Rattle.qtc_cli.specs.Check.{IsCheck, ChecksFile, FormsCheck, CheckEnds, FileStops}
use Rattle.qtc_cli.specs.Endings.{IsRefused, WritesAll, WritesFront}
use Rattle.qtc_cli.specs.Forms.{form, check}
use Rattle.qtc_load.specs.Loads.{LoadsFile, LoadsBad, FileNotRead}
use Rattle.qtc_cli.specs.Refusals.{file_refusal, status_of, line_of, Hears, SaysFor}
use Rattle.qtc_cli.specs.Seen.{Seen, seen}
use Rattle.qtc_load.specs.declared.faults.FileFault.{FileFault}
use Rattle.qtc_load.specs.declared.faults.FileFault.TheVariants.{Bad as BadFile, Read as FileRead, TooLong as FileTooLong, Memory as FileMemory}
use Rattle.qtc_cli.specs.declared.refusals.Refusal.{Refusal}
use Rattle.qtc_cli.specs.declared.refusals.Refusal.TheVariants.{Usage, Bad, ReadFault, WriteFault, Memory, TooLarge, NotYet}
use Rattle.qtc_cli.proofs.Ends.{keeps-cut, keeps-done, keeps-refused, refusal_with, said-with, status-within}
use Rattle.qtc_load.proofs.Texts.{calm-same}

-- ---- a file that can be read is not refused

text-same : (limit : ℕ) (old new : Source) (name text told : List ℕ) → old.held name ≡ Some told → Loads limit old name text new → text ≡ told
text-same limit old new name text told held l = rw held at l.told

pub not-bad : (old new : Source) (name text : List ℕ) (bad : BadJob) (file : JobFile) → old.held name ≡ Some text → Reads (lines_of text) file → LoadsBad name old bad new → ⊥
not-bad old new name text bad file held reads l =
    let same = text-same most_job_file old new name l.text text held l.loads in
    reads.good bad.line bad.code (rw same at l.refuses.bad)

pub file-same : (old new : Source) (name text : List ℕ) (file other : JobFile) → old.held name ≡ Some text → Reads (lines_of text) file → LoadsFile name old other new → other ≡ file
file-same old new name text file other held reads l =
    let same = text-same most_job_file old new name l.text text held l.loads in
    let says = rw same at l.reads.says in
    says ∙ sym reads.says

pub not-too-long : (limit : ℕ) (old new : Source) (name text : List ℕ) → old.held name ≡ Some text → length text ≤ limit → IsTooLong limit old name new → ⊥
not-too-long limit old new name text held short l = let long = rw held at l.told in omega arith

-- a job file that was not read is refused for the same cause
pub file-stops : (name : List ℕ) (old new : Source) (fault : FileFault) → FileNotRead name old fault new → FileStops name old (file_refusal fault) new
file-stops name old new (BadFile bad) stops = stops
file-stops name old new FileRead stops = stops
file-stops name old new FileTooLong stops = stops
file-stops name old new FileMemory stops = stops

-- ---- what was refused is what was told

-- want of memory may stand in the place of a bad job file
said-stops : (name : List ℕ) (old new : Source) (refusal said : Refusal) → FileStops name old refusal new → SaysFor refusal said → FileStops name old said new
said-stops name old new refusal said stops for =
    elim for [
      | inl same ↦ rw same stops
      | inr other ↦ rw other.0 (let l = rw other.1.1 at stops in l.loads.calm)
    ]

check-name : (words : List (List ℕ)) (a b : List ℕ) → form words ≡ Some (check a) → form words ≡ Some (check b) → a ≡ b
check-name words a b p q = cc

-- ---- each status of a refusal, where it was told

module _ (name : List ℕ) (call : Seen) (said : Refusal) (stops : FileStops name call.texts said call.texts_after) where
  -- what stops a check, told with this status
  stops-with : (status : ℕ) → status_of said ≡ status → (bad : BadJob) × (said ≡ refusal_with status bad) × FileStops name call.texts (refusal_with status bad) call.texts_after
  stops-with status is =
      let with = said-with said status is in
      (with.0, with.1, subst (λ said. FileStops name call.texts said call.texts_after) with.1 stops)

  stops-bad : Hears (line_of said) call.err call.err_after → status_of said ≡ 3 → IsBadJob name call
  stops-bad hears three =
      let is = stops-with 3 three in
      record { bad = is.0; loads = is.2; hears = subst (λ said. Hears (line_of said) call.err call.err_after) is.1 hears }

  stops-fault : status_of said ≡ 4 → FailsToLoad most_job_file call.texts name call.texts_after
  stops-fault four = (stops-with 4 four).2

  stops-large : status_of said ≡ 7 → IsTooLong most_job_file call.texts name call.texts_after
  stops-large seven = (stops-with 7 seven).2

  -- these statuses no refusal of a job file has
  stops-never : (status_of said ≢ 2) × (status_of said ≢ 5) × (status_of said ≢ 8)
  stops-never = (λ two. (stops-with 2 two).2, λ five. (stops-with 5 five).2, λ eight. (stops-with 8 eight).2)

stops-calm : (name : List ℕ) (old new : Source) (said : Refusal) → FileStops name old said new → status_of said ≢ 4 → IsCalm old new
stops-calm name old new Usage stops away = absurd stops
stops-calm name old new (Bad bad) stops away = stops.loads.calm
stops-calm name old new ReadFault stops away = absurd (away refl)
stops-calm name old new WriteFault stops away = absurd stops
stops-calm name old new Memory stops away = stops
stops-calm name old new TooLarge stops away = stops.calm
stops-calm name old new NotYet stops away = absurd stops

-- what can be checked is refused for want of memory alone
stops-complete : (call : Seen) (name : List ℕ) (said : Refusal) → FileStops name call.texts said call.texts_after → (text : List ℕ) (file : JobFile) → call.texts.held name ≡ Some text → length text ≤ most_job_file → Reads (lines_of text) file → HasNoFaults call → status_of said ≡ 6
stops-complete call name Usage stops text file held short reads none = absurd stops
stops-complete call name (Bad bad) stops text file held short reads none = absurd (not-bad call.texts call.texts_after name text bad file held reads stops)
stops-complete call name ReadFault stops text file held short reads none = absurd (none.texts stops.rose)
stops-complete call name WriteFault stops text file held short reads none = absurd stops
stops-complete call name Memory stops text file held short reads none = refl
stops-complete call name TooLarge stops text file held short reads none = absurd (not-too-long most_job_file call.texts call.texts_after name text held short stops)
stops-complete call name NotYet stops text file held short reads none = absurd stops

-- ---- whole calls

check-refused : (call : Seen) (name : List ℕ) (said : Refusal) → ChecksFile call name → FileStops name call.texts said call.texts_after → call.status ≡ status_of said → Hears (line_of said) call.err call.err_after → call.out_after ≡ call.out → IsCheck call
check-refused call name said named stops is hears same =
    let never = stops-never name call said stops in
    let least = (status-within said).0 in
    record {
      checked = λ zero. absurd (omega arith);
      usage = (λ two. absurd (never.0 (sym is ∙ two)), λ unnamed. absurd (unnamed name named));
      bad_job = λ three. (name, named, stops-bad name call said stops hears (sym is ∙ three));
      read_fault = λ four. (name, named, stops-fault name call said stops (sym is ∙ four));
      write_fault = λ five. absurd (never.1 (sym is ∙ five));
      too_large = λ seven. (name, named, stops-large name call said stops (sym is ∙ seven));
      never_failed = λ one. omega arith;
      never_unready = λ eight. never.2 (sym is ∙ eight);
      complete = λ can none.
          let same_name = check-name call.words can.name name can.named named in
          inr (is ∙ stops-complete call name said stops can.text can.file (rw same_name at can.held) can.short can.reads none);
      outside = keeps-refused call said is hears same (λ away. stops-calm name call.texts call.texts_after said stops (λ four. away (is ∙ four)));
    }

check-written : (call : Seen) (name : List ℕ) (text : List ℕ) → ChecksFile call name → FormsCheck name call.texts text call.texts_after → WritesAll text 0 call.status call.out call.out_after call.err call.err_after → IsCheck call
check-written call name text named forms w =
    let zero = w.status_is in
    record {
      checked = λ _. record { name = name; named = named; file = forms.file; loads = forms.loads; writes = rw forms.text_is at w.takes };
      usage = (λ two. absurd (omega arith), λ unnamed. absurd (unnamed name named));
      bad_job = λ three. absurd (omega arith);
      read_fault = λ four. absurd (omega arith);
      write_fault = λ five. absurd (omega arith);
      too_large = λ seven. absurd (omega arith);
      never_failed = λ one. omega arith;
      never_unready = λ eight. omega arith;
      complete = λ can none. inl zero;
      outside = keeps-done call (inl zero) w.quiet forms.loads.loads.calm;
    }

check-cut : (call : Seen) (name : List ℕ) (text : List ℕ) → ChecksFile call name → FormsCheck name call.texts text call.texts_after → WritesFront text call.status call.out call.out_after call.err call.err_after → IsCheck call
check-cut call name text named forms w =
    let five = w.status_is in
    record {
      checked = λ zero. absurd (omega arith);
      usage = (λ two. absurd (omega arith), λ unnamed. absurd (unnamed name named));
      bad_job = λ three. absurd (omega arith);
      read_fault = λ four. absurd (omega arith);
      write_fault = λ _. record { name = name; named = named; file = forms.file; loads = forms.loads; taken = w.taken; front = rw forms.text_is at w.cut };
      too_large = λ seven. absurd (omega arith);
      never_failed = λ one. omega arith;
      never_unready = λ eight. omega arith;
      complete = λ can none. absurd (none.out w.cut.rose);
      outside = keeps-cut call five w.hears forms.loads.loads.calm;
    }

pub check-call : (call : Seen) (name : List ℕ) → ChecksFile call name → CheckEnds name call.texts call.texts_after call.out call.out_after call.err call.err_after call.status → IsCheck call
check-call call name named ends =
    elim ends [
      | inl written ↦ elim written.writes [
        | inl all ↦ check-written call name written.text named written.forms all
        | inr front ↦ check-cut call name written.text named written.forms front
      ]
      | inr refused ↦ check-refused call name refused.refused.said named (said-stops name call.texts call.texts_after refused.refusal refused.refused.said refused.stops refused.refused.stands) refused.refused.status_is refused.refused.hears refused.untouched
    ]

-- words of another form
pub usage-said : (said : Refusal) → SaysFor Usage said → said ≡ Usage
usage-said said for =
    elim for [
      | inl same ↦ same
      | inr other ↦ absurd (let e = other.1.1 in cc)
    ]

pub check-usage : (call : Seen) → ((name : List ℕ) → ¬ ChecksFile call name) → IsRefused Usage call.status call.err call.err_after → call.texts_after ≡ call.texts → call.out_after ≡ call.out → IsCheck call
check-usage call unnamed refused same_texts same_out =
    let said = usage-said refused.said refused.stands in
    let is : call.status ≡ status_of Usage = refused.status_is ∙ ap status_of said in
    record {
      checked = λ zero. absurd (omega arith);
      usage = (λ _. unnamed, λ _. is);
      bad_job = λ three. absurd (omega arith);
      read_fault = λ four. absurd (omega arith);
      write_fault = λ five. absurd (omega arith);
      too_large = λ seven. absurd (omega arith);
      never_failed = λ one. omega arith;
      never_unready = λ eight. omega arith;
      complete = λ can none. absurd (unnamed can.name can.named);
      outside = keeps-refused call Usage is (rw said at refused.hears) same_out (λ _. rw same_texts (calm-same call.texts));
    }

-- the same, with what is seen of a call given one by one
pub check-call-of : (words : List (List ℕ)) (texts texts_after : Source) (out out_after err err_after : Intake) (status : ℕ) (name : List ℕ) → form words ≡ Some (check name) → CheckEnds name texts texts_after out out_after err err_after status → IsCheck (seen words texts texts_after out out_after err err_after status)
check-call-of words texts texts_after out out_after err err_after status name named ends =
    check-call (seen words texts texts_after out out_after err err_after status) name named ends
