use Rattle.std.proofs.Common.{ap, ◌∙◌}
use Rattle.qtc_job.specs.Codes.{earlier_names}
use Rattle.qtc_job.specs.Drafts.{with_statement}
use Rattle.qtc_job.proofs.refusals.add_said.Goals as goal

pub returns-in-Ok-add : goal.returns-in-Ok-add
returns-in-Ok-add c = λ above args in_job d less one given.
    let e = c.in-Ok.ensures.gives _ _ _ given (c.above_code.ensures (earlier_names above) args above in_job d one) in
    (e.0, c.in-Ok-add.ensures.ok ∙ ap (with_statement c.args.draft.now) e.1)

pub returns-in-Err : goal.returns-in-Err
returns-in-Err c = λ above args in_job d less one given.
    c.refused_in.ensures above (earlier_names above) args in_job d less (c.in-Err.ensures.gives _ _ _ given (c.above_code.ensures (earlier_names above) args above in_job d one))
