use Rattle.std.proofs.Common.{[]}
use Rattle.qtc_job.specs.Answers.{IsLeast}
use Rattle.qtc_job.specs.Codes.{own_codes}
use Rattle.qtc_job.specs.Lines.{job}
use Rattle.qtc_job.proofs.StepLemmas.{first-open}
use Rattle.qtc_job.proofs.refusals.refused_here.Goals as goal

pub returns-in-Wrong : goal.returns-in-Wrong
returns-in-Wrong c = λ above args draft at f.
    let f' : IsLeast (own_codes above (job args)) c.in-Wrong.code = rw c.in-Wrong.is at f in
    ([], c.new.ensures, λ rest. first-open above c.args.line args draft c.in-Wrong.code at f' rest)
