use Rattle.std.proofs.Common.{◌≡◌, ◌<◌, ◌≤◌, ℕ, vec_capacity, slice_get, Some, length}
use Rattle.qtc_shared.specs.Passes.{pass_at}
use Rattle.qtc_shared.specs.Inside.{IsBookOf}
use Rattle.qtc_shared.proofs.flag_word.FlagWord.hand_out.Given as goal

-- as many were made as were handed out
abbrev pub invariant-loop-made : goal.invariant-loop-made
invariant-loop-made g l = record {
  book : IsBookOf l.self l.book;
  core : l.book.core ≡ l.fn.book.core;
  made : l.book.made.count ≡ l._made;
  count : length l.handed.items ≡ l._made;
  room : l.passes ≤ vec_capacity l.handed;
  each : (number : ℕ) → number < l._made → slice_get l.handed.items number ≡ Some (pass_at l.self number l.fn.book.core.value.calls);
}
