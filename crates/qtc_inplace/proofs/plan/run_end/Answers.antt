use Rattle.std.proofs.Common.{arith}
use Rattle.qtc_inplace.proofs.PlanLemmas.{cut-at, is-cut}
use Rattle.qtc_inplace.proofs.plan.run_end.Goals as goal

pub overflow_mul-result-2 : goal.overflow_mul-result-2
overflow_mul-result-2 c =
    let within = cut-at c.args.len c.args.size c.div_ceil-chunks.result c.args.part c.args.all c.requires.sizes.0 c.requires.parts.0 c.div_ceil-chunks.ensures in
    record { fits = omega (arith, within, c.requires.sizes.1) }

pub returns : goal.returns
returns c = is-cut c.args.len c.args.size c.div_ceil-chunks.result c.args.part c.args.all c.requires.sizes.0 c.requires.parts.0 c.div_ceil-chunks.ensures
