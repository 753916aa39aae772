use Rattle.std.proofs.Common.{length, ◌∙◌}
use Rattle.rayon.proofs.ListFacts.{IfOk-then}
use Rattle.qtc_inplace.specs.Conditions.{value_of}
use Rattle.qtc_inplace.proofs.CountLemmas.{all-calls}
use Rattle.qtc_inplace.proofs.SpreadLemmas.{copies-filtered}
use Rattle.qtc_inplace.proofs.blocking.blocking_filtered.Goals as goal

pub returns-clause-calls : goal.returns-clause-calls
returns-clause-calls g c =
    all-calls g.F.ItemFn.called c.args.functions.now c.take_together.new.functions (length c.args.list.now) c.take_together.result c.take_together.ensures.calls

pub returns-clause-filtered : goal.returns-clause-filtered
returns-clause-filtered g c =
    IfOk-then c.take_together.result _ _ c.take_together.ensures.whole
    (λ made h. h ∙ copies-filtered (value_of g.F.ItemFn.value c.args.functions.now) c.args.list.now)
