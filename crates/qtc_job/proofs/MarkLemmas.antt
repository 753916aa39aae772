-- The marks of a job while its lines are looked through.
use Rattle.std.proofs.Common.{◌≡◌, ℕ, true, false, List, [], ◌∷◌, ◌++◌, map, refl, ap, sym, subst, ◌∙◌, append_assoc, append-nil}
use Rattle.qtc_base.specs.Lines.{lines}
use Rattle.qtc_job.specs.declared.heads.Head.{Head}
use Rattle.qtc_job.specs.declared.heads.Head.TheVariants as head
use Rattle.qtc_job_file.specs.declared.keywords.Keyword.{Keyword}
use Rattle.qtc_job.specs.declared.marks.Marks.{Marks}
use Rattle.qtc_job.specs.Codes.{own_below}
use Rattle.qtc_job.specs.Heads.{IsSeen}
use Rattle.qtc_job.specs.Lines.{Line, line_of, lines_of, too_long, silent, unknown, workers, job, says, is_job}
use Rattle.qtc_job.specs.Marks.{IsMarks}
use Rattle.qtc_job.specs.Readers.{IsUnmarked}
use Rattle.qtc_job.proofs.StepLemmas.{marks-unmarked, unmarked-job}

pub record IsMarkedTo (all rest : List Line) (before now : Marks) : Type 0 where
  pub done : List Line
  pub cut : own_below all ≡ done ++ own_below rest
  pub marks : (own : List Line) → IsMarks own before → IsMarks (own ++ done) now

pub marks-start : (all : List Line) (marks : Marks) → IsMarkedTo all all marks marks
marks-start all marks = record {
  done = [];
  cut = refl;
  marks = λ own m. subst (λ (o : List Line). IsMarks o marks) (sym (append-nil own)) m;
}

pub lines-next : (text after line : List ℕ) → lines text ≡ line ∷ lines after → lines_of text ≡ line_of line ∷ lines_of after
lines-next text after line e = ap (map line_of) e

marks-more : (all rest : List Line) (before now next : Marks) (l : Line) → is_job l ≡ false → IsMarkedTo all (l ∷ rest) before now → ((own : List Line) → IsMarks own now → IsMarks (own ++ l ∷ []) next) → IsMarkedTo all rest before next
marks-more all rest before now next l nj m step =
    let cut = m.cut in
    record {
      done = m.done ++ l ∷ [];
      cut = rw nj at cut ∙ sym (append_assoc m.done (l ∷ []) (own_below rest));
      marks = λ own o. subst (λ (x : List Line). IsMarks x next) (append_assoc own m.done (l ∷ [])) (step (own ++ m.done) (m.marks own o));
    }

seen-says : (l : Line) (k : Keyword) → IsSeen l (head.Says k) → (args : List (List ℕ)) × (l ≡ says k args)
seen-says too_long k s = absurd s
seen-says silent k s = absurd s
seen-says unknown k s = absurd s
seen-says (workers args) k s = absurd s
seen-says (job args) k s = absurd s
seen-says (says keyword args) k s = (args, ap (λ x. says x args) s)

pub seen-job : (l : Line) → IsSeen l head.Job → is_job l ≡ true
seen-job too_long s = absurd s
seen-job silent s = absurd s
seen-job unknown s = absurd s
seen-job (workers args) s = absurd s
seen-job (job args) s = refl
seen-job (says keyword args) s = absurd s

seen-unmarked : (l : Line) (h : Head) → IsSeen l h → (h ≡ head.Job → ⊥) → ((k : Keyword) → h ≡ head.Says k → ⊥) → IsUnmarked l
seen-unmarked too_long h s nj ns = tt
seen-unmarked silent h s nj ns = tt
seen-unmarked unknown h s nj ns = tt
seen-unmarked (workers args) h s nj ns = tt
seen-unmarked (job args) head.Job s nj ns = nj refl
seen-unmarked (job args) head.Silent s nj ns = s
seen-unmarked (job args) head.Unknown s nj ns = s
seen-unmarked (job args) head.Workers s nj ns = s
seen-unmarked (job args) (head.Says k) s nj ns = s
seen-unmarked (says keyword args) (head.Says k) s nj ns = ns k refl
seen-unmarked (says keyword args) head.Silent s nj ns = s
seen-unmarked (says keyword args) head.Unknown s nj ns = s
seen-unmarked (says keyword args) head.Workers s nj ns = s
seen-unmarked (says keyword args) head.Job s nj ns = s

pub marks-says : (all rest : List Line) (before now next : Marks) (l : Line) (k : Keyword) → IsSeen l (head.Says k) → IsMarkedTo all (l ∷ rest) before now → ((own : List Line) (args : List (List ℕ)) → IsMarks own now → IsMarks (own ++ says k args ∷ []) next) → IsMarkedTo all rest before next
marks-says all rest before now next l k s m step =
    let is = seen-says l k s in
    let m' = subst (λ (x : Line). IsMarkedTo all (x ∷ rest) before now) is.1 m in
    marks-more all rest before now next (says k is.0) refl m' (λ own o. step own is.0 o)

pub marks-other : (all rest : List Line) (before now : Marks) (l : Line) (h : Head) → IsSeen l h → (h ≡ head.Job → ⊥) → ((k : Keyword) → h ≡ head.Says k → ⊥) → IsMarkedTo all (l ∷ rest) before now → IsMarkedTo all rest before now
marks-other all rest before now l h s nj ns m =
    let u = seen-unmarked l h s nj ns in
    marks-more all rest before now now l (unmarked-job l u) m (λ own o. marks-unmarked own l now u o)

-- the job has ended
pub marks-end : (all rest : List Line) (before now : Marks) (own : List Line) → IsMarkedTo all rest before now → own_below rest ≡ [] → IsMarks own before → IsMarks (own ++ own_below all) now
marks-end all rest before now own m none o =
    let e : own_below all ≡ m.done = m.cut ∙ (ap (λ s. m.done ++ s) none ∙ append-nil m.done) in
    subst (λ (x : List Line). IsMarks (own ++ x) now) (sym e) (m.marks own o)

pub below-job : (l : Line) (rest : List Line) → is_job l ≡ true → own_below (l ∷ rest) ≡ []
below-job l rest j = rw j refl
