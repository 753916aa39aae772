-- Each step gives just one outcome, so what the chain gives is the fold.
use Rattle.std.proofs.Common.{[], ◌∷◌}
use Rattle.std.proofs.lemmas.Result.{IfOk-weaker}
use Rattle.qtc_future.specs.declared.replies.Outcome.TheVariants.{Values}
use Rattle.qtc_chain_tests.proofs.folds.settled.Goals as goal

pub returns : goal.returns
returns c =
    let folds = c.chains_are_folds.ensures (λ _ step. Values (step.number ∷ [])) (λ step before after e. e) in
    IfOk-weaker c.run_chain.result _ _ (folds c.args.outcome c.args.steps) c.run_chain.ensures
