use Rattle.std.proofs.Common.{◌≡◌, ℕ, List, [], ◌∷◌, ◌++◌, refl, ap, sym, subst, ◌∙◌}
use Rattle.qtc_base.specs.Words.{words_left}
use Rattle.qtc_job.specs.Answers.{IsFault}
use Rattle.qtc_job_file.specs.Canonical.{names_of}
use Rattle.qtc_job.specs.Codes.{own_codes, above_codes}
use Rattle.qtc_job.specs.Forms.{name}
use Rattle.qtc_job.specs.Lines.{job}
use Rattle.qtc_job.proofs.FormLemmas.{exactly-one}
use Rattle.qtc_job.proofs.StepLemmas.{least-nameless, job-good}
use Rattle.qtc_job.proofs.readers.Reader.open.Goals as goal

pub returns-in_default : goal.returns-in_default
returns-in_default c = λ above old cl.
    let args = words_left c.args.words.now in
    let none : args ≡ [] = c.in_default.ensures.steps.0 in
    c.refused_here.ensures above args old.draft (λ rest. cl.bad args rest) (rw none (least-nameless above))

pub returns-in-Ok : goal.returns-in-Ok
returns-in-Ok c = λ above old cl.
    let args = words_left c.args.words.now in
    let cut = c.in-Some.ensures.steps in
    let codes = c.name_code.ensures.code above (words_left c.next.new.self) (cl.names ∙ ap names_of (sym c.as_slice.ensures)) in
    let e = c.in-Ok.ensures.gives _ _ _ (c.ended-read.ensures _ _ c.read.ensures) codes in
    let form = exactly-one [] name (c.in-Some.name.now ∷ words_left c.next.new.self) in
    let none : own_codes above (job (c.in-Some.name.now ∷ words_left c.next.new.self)) ≡ [] = ap (λ (l : List ℕ). l ++ above_codes above (job (c.in-Some.name.now ∷ words_left c.next.new.self))) form ∙ e.0 in
    rw cut (job-good above c.args.number (c.in-Some.name.now ∷ words_left c.next.new.self) old c.args.self.now _ c.new.result cl none c.new.ensures.line (c.new.ensures.name ∙ e.1) c.new.ensures.empty refl refl refl)

pub returns-in-Err : goal.returns-in-Err
returns-in-Err c = λ above old cl.
    let cut = c.in-Some.ensures.steps in
    let codes = c.name_code.ensures.code above (words_left c.next.new.self) (cl.names ∙ ap names_of (sym c.as_slice.ensures)) in
    let e = c.in-Err.ensures.gives _ _ _ (c.ended-read.ensures _ _ c.read.ensures) codes in
    let form = exactly-one [] name (c.in-Some.name.now ∷ words_left c.next.new.self) in
    let args = c.in-Some.name.now ∷ words_left c.next.new.self in
    let fault : IsFault (own_codes above (job args)) c.in-Err.fault = subst (λ (l : List ℕ). IsFault (l ++ above_codes above (job args)) c.in-Err.fault) (sym form) e in
    rw cut (c.refused_here-in-Err.ensures above args old.draft (λ rest. cl.bad args rest) fault)
