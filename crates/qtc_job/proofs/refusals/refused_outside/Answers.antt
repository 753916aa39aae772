use Rattle.std.proofs.Common.{None, refl}
use Rattle.qtc_job.specs.Answers.{IsLeast}
use Rattle.qtc_job.specs.Codes.{own_codes}
use Rattle.qtc_job.proofs.StepLemmas.{bad-here}
use Rattle.qtc_job.proofs.refusals.refused_outside.Goals as goal

pub returns-in-Wrong : goal.returns-in-Wrong
returns-in-Wrong c = λ above l other f.
    let f' : IsLeast (own_codes above l) c.in-Wrong.code = rw c.in-Wrong.is at f in
    λ rest. bad-here above c.args.line l None c.in-Wrong.code refl other f' rest
