use Rattle.qtc_job.proofs.LiteralLemmas.{literal-step}
use Rattle.qtc_job.proofs.literals.read_literal.Goals as goal

pub loop-rest-preserved : goal.loop-rest-preserved
loop-rest-preserved c =
    literal-step c.args.word.now c.loop-rest.rest.now c.in-Some.after.now c.loop-rest.text c.append.new.self c.in-Some.byte c.loop-rest.invariant c.in-Some.ensures.value c.in_ok-append-in-Some.ensures.ok
