use Rattle.std.proofs.Common.{Option, unwrap_or, ap, ◌∙◌}
use Rattle.qtc_store.specs.declared.batch.AddFault.{AddFault}
use Rattle.qtc_store.specs.declared.batch.AddFault.TheVariants.{Memory}
use Rattle.qtc_future.specs.Future.{results_of}
use Rattle.qtc_future.specs.Answering.{lacking_at, refused_by}
use Rattle.qtc_future.proofs.future_core.FutureCore.lacking.Goals as goal

pub returns : goal.returns
returns g c =
    c.refused.ensures
    ∙ ap refused_by (c.unwrap_or.ensures ∙ ap (λ (o : Option AddFault). unwrap_or o Memory) c.refusal.ensures)
    ∙ ap (λ s. lacking_at s c.args.begin c.args.total) (c.self.invariant.results ∙ ap results_of c.self.view_is)
