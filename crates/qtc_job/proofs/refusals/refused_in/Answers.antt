use Rattle.std.proofs.Common.{[], ◌∷◌, ◌++◌, refl}
use Rattle.qtc_job.specs.Codes.{own_above, own_codes}
use Rattle.qtc_job.specs.Lines.{says}
use Rattle.qtc_job.specs.Answers.{IsLeast}
use Rattle.qtc_job.proofs.StepLemmas.{bad-in}
use Rattle.qtc_job.proofs.refusals.refused_in.Goals as goal

pub returns-in-Wrong : goal.returns-in-Wrong
returns-in-Wrong c = λ above names args in_job d less f.
    let f' : IsLeast (own_codes above (says c.args.keyword args)) c.in-Wrong.code = rw c.in-Wrong.is at f in
    (own_above above ++ says c.args.keyword args ∷ [], c.with_line.ensures (own_above above) args (c.marks.ensures names (own_above above) d), λ rest. bad-in above c.args.number (says c.args.keyword args) c.args.draft.now c.in-Wrong.code less refl f' rest)
