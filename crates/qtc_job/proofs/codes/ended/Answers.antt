use Rattle.std.proofs.Common.{length, arith}
use Rattle.std.specs.Prelude.{nat_lt}
use Rattle.qtc_base.specs.Words.{words_left}
use Rattle.qtc_job.specs.Codes.{where_}
use Rattle.qtc_job.specs.Answers.{IsLeastSoFar}
use Rattle.qtc_job.proofs.LeastLemmas.{where_none, where_some, is-one}
use Rattle.qtc_job.proofs.codes.ended.Goals as goal
use Rattle.qtc_job.proofs.codes.ended.Goals.{in-Some, in-None}

pub returns : goal.returns
returns g c = λ codes meant given.
    let so_far : IsLeastSoFar (where_ (nat_lt 0 (length (words_left c.args.rest.now))) 13) c.match-next.code =
    elim c.match-next.branch [ in-Some w ↦ rw (w.code-is, where_some _ _ _ 13 w.in-Some.ensures.steps) (is-one 13 (omega arith)) | in-None w ↦ rw w.code-is (where_none _ 13 w.in-None.ensures.steps.0) ] in
    c.with_code.ensures.gives codes _ meant given so_far
