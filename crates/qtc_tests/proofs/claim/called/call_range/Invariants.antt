use Rattle.std.proofs.Common.{◌≡◌, ℕ, ◌+◌, cond}
use Rattle.qtc_base.specs.Ranges.{in_range, times_called}
use Rattle.qtc_tests.proofs.claim.called.call_range.Given as goal

abbrev pub invariant-loop-index : goal.invariant-loop-index
invariant-loop-index g l = record {
  callable : goal.F-IsAlwaysCallable g l.call;
  listed : (k : ℕ) → times_called l.calls.items k ≡ times_called l.initial.calls.items k + cond (in_range k (l.fn.range.begin, l.index)) 1 0;
}
