use Rattle.std.proofs.Common.{◌≡◌, map}
use Rattle.qtc_future.specs.Future.{new_future}
use Rattle.qtc_future.specs.Runs.{run_of, told_of}
use Rattle.qtc_future.proofs.runs.run.Given as goal

abbrev pub invariant-loop-asked : goal.invariant-loop-asked
invariant-loop-asked g l = record {
  filter : l.core.filter ≡ l.fn.filter;
  future : l.core ≡ (run_of (new_future l.fn.filter l.fn.cancel_after l.fn.suspend_after) l.yielded).future;
  told : map told_of l.answers ≡ (run_of (new_future l.fn.filter l.fn.cancel_after l.fn.suspend_after) l.yielded).told;
}
