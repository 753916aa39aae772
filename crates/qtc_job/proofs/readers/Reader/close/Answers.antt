use Rattle.std.proofs.Common.{◌≡◌, Option, Some, refl, sym, subst}
use Rattle.qtc_job.specs.declared.drafts.Draft.{Draft}
use Rattle.qtc_job_file.specs.Canonical.{names_of}
use Rattle.qtc_job.specs.Codes.{own_above}
use Rattle.qtc_job.specs.Lines.{job}
use Rattle.qtc_job.specs.Readers.{IsRefusal, IsEndRefusal}
use Rattle.qtc_job.proofs.StepLemmas.{job-refusal, end-refusal, close-good}
use Rattle.qtc_job.proofs.readers.Reader.close.Goals as goal

pub returns-in-Err : goal.returns-in-Err
returns-in-Err c = λ above line is.
    let here : c.args.self.now.draft ≡ Some c.in-Some.draft = sym c.in-Some.ensures.value in
    let d = rw here at is.draft in
    let f = c.in-Err.ensures (names_of c.args.self.now.jobs) (own_above above) d.2 in
    let j = c.refused_job.ensures _ f in (
      λ args. subst (λ (o : Option Draft). IsRefusal above line (job args) o c.refused_job.result) (sym here) (job-refusal above line c.in-Some.draft args c.refused_job.result j),
      subst (λ (o : Option Draft). IsEndRefusal above line o c.refused_job.result) (sym here) (end-refusal above line c.in-Some.draft c.refused_job.result j),
    )

pub returns-in-Ok-push_job : goal.returns-in-Ok-push_job
returns-in-Ok-push_job c = λ above line is.
    let here : c.args.self.now.draft ≡ Some c.in-Some.draft = sym c.in-Some.ensures.value in
    let d = rw here at is.draft in
    let e = c.in-Ok.ensures (names_of c.args.self.now.jobs) (own_above above) d.2 in
    close-good above line c.args.self.now _ c.in-Some.draft c.in-Ok.job is here e.0 e.1 refl c.in-Ok-push_job.ensures.ok c.in-Some.ensures.after
