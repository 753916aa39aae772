-- What was read of a text so far.
use Rattle.std.proofs.Common.{◌≡◌, ℕ, ◌+◌, ◌≤◌, List, [], ◌∷◌, length, map, eqb, Option, None, Result, Ok, Err, ap, sym, subst, ◌∙◌, ⊎_elim, arith}
use Rattle.std.specs.List.{onto_first}
use Rattle.std.proofs.lemmas.Bool.{cases_Bool}
use Rattle.qtc_base.specs.Lines.{lines}
use Rattle.std.specs.Prelude.{IfOk, IfErr}
use Rattle.qtc_job_file.specs.declared.jobs.Job.{Job}
use Rattle.qtc_job_file.specs.declared.jobs.JobFile.{JobFile}
use Rattle.qtc_job.specs.declared.faults.ParseFault.{ParseFault}
use Rattle.qtc_job.specs.declared.faults.ParseFault.TheVariants as fault
use Rattle.qtc_job.specs.declared.readers.Reader.{Reader}
use Rattle.qtc_job.specs.Grammar.{Reads}
use Rattle.qtc_job.specs.Lines.{Line, line_of, lines_of}
use Rattle.qtc_job.specs.Meaning.{jobs_of, workers_of, file_of}
use Rattle.qtc_job.specs.Readers.{IsReader, IsStep, IsFirst, Ends, open_bad, open_workers, open_jobs}
use Rattle.qtc_job.specs.Refusals.{Refuses}
use Rattle.qtc_job.specs.Search.{first_bad}
use Rattle.qtc_job.proofs.SearchLemmas.{first-none, first-least}

onto-few : (byte : ℕ) (ls : List (List ℕ)) → length (onto_first byte ls) ≤ length ls + 1
onto-few byte [] = omega arith
onto-few byte (l ∷ ls) = omega arith

lines-few : (text : List ℕ) → length (lines text) ≤ length text
lines-few [] = omega arith
lines-few (byte ∷ text) =
    let there = lines-few text in
    let onto = onto-few byte (lines text) in
    ⊎_elim
    (λ feed. rw feed (omega arith))
    (λ other. rw other (omega arith))
    (cases_Bool (eqb byte 10))

pub record IsReadTo (text rest : List ℕ) (reader : Reader) (number : ℕ) : Type 0 where
  pub above : List Line
  pub is : IsReader above (number + 1) reader
  pub bad : first_bad [] 1 (lines_of text) ≡ open_bad reader.draft above (number + 1) (lines_of rest)
  pub workers : workers_of (lines_of text) ≡ open_workers reader.workers (lines_of rest)
  pub jobs : jobs_of [] (lines_of text) ≡ open_jobs reader.jobs reader.draft above (lines_of rest)
  pub counted : number + length (lines rest) ≡ length (lines text)

pub start : (text : List ℕ) (reader : Reader) → IsReader [] 1 reader → ((ls : List Line) → open_bad reader.draft [] 1 ls ≡ first_bad [] 1 ls) → ((ls : List Line) → open_workers reader.workers ls ≡ workers_of ls) → ((ls : List Line) → open_jobs reader.jobs reader.draft [] ls ≡ jobs_of [] ls) → IsReadTo text text reader 0
start text reader is bad workers jobs = record {
  above = [];
  is = is;
  bad = sym (bad (lines_of text));
  workers = sym (workers (lines_of text));
  jobs = sym (jobs (lines_of text));
  counted = omega arith;
}

lines-next : (rest after line : List ℕ) → lines rest ≡ line ∷ lines after → lines_of rest ≡ line_of line ∷ lines_of after
lines-next rest after line e = ap (map line_of) e

pub more : (text rest after line : List ℕ) (reader next : Reader) (number : ℕ) (r : IsReadTo text rest reader number) → lines rest ≡ line ∷ lines after → IsReader (line_of line ∷ r.above) (number + 1 + 1) next × IsStep r.above (number + 1) (line_of line) reader next → IsReadTo text after next (number + 1)
more text rest after line reader next number r e step =
    let ls = lines-next rest after line e in
    let size = ap length e in
    let counted = r.counted in
    record {
      above = line_of line ∷ r.above;
      is = step.0;
      bad = r.bad ∙ (ap (open_bad reader.draft r.above (number + 1)) ls ∙ step.1.bad (lines_of after));
      workers = r.workers ∙ (ap (open_workers reader.workers) ls ∙ step.1.workers (lines_of after));
      jobs = r.jobs ∙ (ap (open_jobs reader.jobs reader.draft r.above) ls ∙ step.1.jobs (lines_of after));
      counted = omega arith;
    }

pub number-few : (text rest : List ℕ) (reader : Reader) (number : ℕ) → IsReadTo text rest reader number → number ≤ length text
number-few text rest reader number r =
    let counted = r.counted in
    let few = lines-few text in
    omega arith

refuses : (text : List ℕ) (f : ParseFault) → IsFirst (first_bad [] 1 (lines_of text)) f → Refuses text f
refuses text (fault.Bad bad) is = first-least (lines_of text) bad.line bad.code is
refuses text fault.Memory is = tt

-- a line was refused
pub refused : (text rest after line : List ℕ) (reader : Reader) (number : ℕ) (f : ParseFault) (r : IsReadTo text rest reader number) → lines rest ≡ line ∷ lines after → IsFirst (open_bad reader.draft r.above (number + 1) (line_of line ∷ lines_of after)) f → Refuses text f
refused text rest after line reader number f r e is =
    let first : first_bad [] 1 (lines_of text) ≡ open_bad reader.draft r.above (number + 1) (line_of line ∷ lines_of after) = r.bad ∙ ap (open_bad reader.draft r.above (number + 1)) (lines-next rest after line e) in
    refuses text f (subst (λ (o : Option (ℕ × ℕ)). IsFirst o f) (sym first) is)

pub same_file : (a b : JobFile) → a.workers ≡ b.workers → a.jobs ≡ b.jobs → a ≡ b
same_file a b p q =
    let with_workers : ℕ → JobFile = λ (n : ℕ). record { workers = n; jobs = a.jobs } in
    let with_jobs : List Job → JobFile = λ (j : List Job). record { workers = b.workers; jobs = j } in
    ap with_workers p ∙ ap with_jobs q

-- the text has ended
pub read : (text rest : List ℕ) (reader : Reader) (number : ℕ) (file : JobFile) (r : IsReadTo text rest reader number) → lines rest ≡ [] → Ends r.above (number + 1) reader (Ok file) → Reads (lines_of text) file
read text rest reader number file r e ends =
    let none : lines_of rest ≡ [] = ap (map line_of) e in
    let first : first_bad [] 1 (lines_of text) ≡ None = r.bad ∙ (ap (open_bad reader.draft r.above (number + 1)) none ∙ ends.0) in
    let workers : file.workers ≡ workers_of (lines_of text) = ends.1 ∙ sym (r.workers ∙ ap (open_workers reader.workers) none) in
    let jobs : file.jobs ≡ jobs_of [] (lines_of text) = ends.2 ∙ sym (r.jobs ∙ ap (open_jobs reader.jobs reader.draft r.above) none) in
    record {
      good = first-none (lines_of text) first;
      says = same_file file (file_of (lines_of text)) workers jobs;
    }

pub refused-last : (text rest : List ℕ) (reader : Reader) (number : ℕ) (f : ParseFault) (r : IsReadTo text rest reader number) → lines rest ≡ [] → Ends r.above (number + 1) reader (Err f) → Refuses text f
refused-last text rest reader number f r e ends =
    let none : lines_of rest ≡ [] = ap (map line_of) e in
    let first : first_bad [] 1 (lines_of text) ≡ open_bad reader.draft r.above (number + 1) [] = r.bad ∙ ap (open_bad reader.draft r.above (number + 1)) none in
    refuses text f (subst (λ (o : Option (ℕ × ℕ)). IsFirst o f) (sym first) ends)

pub ends-reads : (text rest : List ℕ) (reader : Reader) (number : ℕ) (result : Result JobFile ParseFault) (r : IsReadTo text rest reader number) → lines rest ≡ [] → Ends r.above (number + 1) reader result → IfOk result (Reads (lines_of text))
ends-reads text rest reader number (Ok file) r e ends = read text rest reader number file r e ends
ends-reads text rest reader number (Err f) r e ends = tt

pub ends-refuses : (text rest : List ℕ) (reader : Reader) (number : ℕ) (result : Result JobFile ParseFault) (r : IsReadTo text rest reader number) → lines rest ≡ [] → Ends r.above (number + 1) reader result → IfErr result (Refuses text)
ends-refuses text rest reader number (Ok file) r e ends = tt
ends-refuses text rest reader number (Err f) r e ends = refused-last text rest reader number f r e ends
