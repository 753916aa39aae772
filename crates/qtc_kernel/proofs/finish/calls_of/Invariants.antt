use Rattle.std.proofs.Common.{◌≡◌, take}
use Rattle.qtc_kernel.specs.WorkedOut.{calls_of}
use Rattle.qtc_kernel.proofs.finish.calls_of.Given as goal

abbrev pub invariant-loop-function : goal.invariant-loop-function
invariant-loop-function g l =
    l.calls.items ≡ calls_of g.F.ItemFn.called (take l.function-index l.functions.items)
