use Rattle.qtc_chain.specs.Chains.{IsChained}
use Rattle.qtc_chain.proofs.chain.run_chain.Given as goal

abbrev pub invariant-loop-step : goal.invariant-loop-step
invariant-loop-step g l =
    (last : _) → IsChained g.K.Continuation.gives l.given l.step-iterator.rest.items last
    → IsChained g.K.Continuation.gives l.fn.outcome l.fn.steps last
