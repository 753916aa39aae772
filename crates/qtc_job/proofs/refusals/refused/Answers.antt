use Rattle.std.proofs.Common.{[], ◌∷◌, ◌++◌}
use Rattle.qtc_job_file.specs.Canonical.{names_of}
use Rattle.qtc_job.specs.Codes.{own_above, own_codes}
use Rattle.qtc_job.specs.Answers.{IsLeast}
use Rattle.qtc_job.proofs.StepLemmas.{marks-unmarked, unmarked-job, bad-in}
use Rattle.qtc_job.proofs.refusals.refused.Goals as goal

pub returns-in-Some : goal.returns-in-Some
returns-in-Some c = λ above jobs l d u f.
    let d' = rw c.in-Some.is at d in
    let f' : IsLeast (own_codes above l) c.in-Wrong.code = rw c.in-Wrong.is at f in
    rw c.in-Some.is (own_above above ++ l ∷ [], marks-unmarked (own_above above) l c.marks.result u (c.marks.ensures (names_of jobs) (own_above above) d'.2), λ rest. bad-in above c.args.number l c.in-Some.draft c.in-Wrong.code d'.3 (unmarked-job l u) f' rest)
