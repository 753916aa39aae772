use Rattle.std.proofs.Common.{◌≡◌, [], ◌∷◌, refl, ap, sym, ◌∙◌}
use Rattle.qtc_base.specs.Words.{words_left}
use Rattle.qtc_job_file.specs.Canonical.{names_of}
use Rattle.qtc_job.specs.Codes.{earlier_names, own_above}
use Rattle.qtc_job.specs.Drafts.{IsDraft}
use Rattle.qtc_job.specs.Lines.{says}
use Rattle.qtc_job.proofs.StepLemmas.{given-names, misplaced-fault, is-sixteen, adds-takes}
use Rattle.qtc_job.proofs.readers.Reader.read_said.Goals as goal

pub returns-in-None : goal.returns-in-None
returns-in-None c = λ above is.
    let args = words_left c.args.words.now in
    let d = rw c.in-None.is at is.draft in
    let names : earlier_names above ≡ names_of c.as_slice.result.now = d.2 ∙ sym (ap names_of (c.as_slice.ensures ∙ d.1)) in
    let given = given-names (earlier_names above) (names_of c.as_slice.result.now) args c.args.keyword c.read_statement-read.result names c.read_statement-read.ensures in
    let fault = misplaced-fault above c.args.keyword args c.either-fault.result d.0 (c.either-fault.ensures _ (16 ∷ []) _ given is-sixteen) in
    rw c.in-None.is (c.refused_outside.ensures above (says c.args.keyword args) refl fault)

pub returns-in-Some : goal.returns-in-Some
returns-in-Some c = λ above is.
    let args = words_left c.args.words.now in
    let d = rw c.in-Some.is at is.draft in
    let names : earlier_names above ≡ names_of c.as_slice.result.now = d.1 ∙ sym (ap names_of c.as_slice.ensures) in
    let given = given-names (earlier_names above) (names_of c.as_slice.result.now) args c.args.keyword c.read_statement-read.result names c.read_statement-read.ensures in
    let drafted : IsDraft (earlier_names above) (own_above above) c.in-Some.draft = rw d.1 d.2 in
    adds-takes above c.args.number c.args.keyword args c.args.self.now _ c.in-Some.draft c.add_said.new.draft c.add_said.result c.requires is c.in-Some.is d.1 refl refl refl (c.add_said.ensures above args d.0 drafted d.3 c.requires given)
