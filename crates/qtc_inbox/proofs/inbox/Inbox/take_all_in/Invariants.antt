use Rattle.std.proofs.Common.{◌≡◌, All, length}
use Rattle.qtc_inbox.specs.Endings.{IsAt}
use Rattle.qtc_inbox.proofs.inbox.Inbox.take_all_in.Given as goal

-- the place has what it had, but for what was put
abbrev pub invariant-loop-at : goal.invariant-loop-at
invariant-loop-at g l = record {
  line : l.place.line ≡ l.self.line.table;
  key : l.place.has.key ≡ l.fn.place.has.key;
  taken : l.place.has.taken ≡ l.fn.place.has.taken;
  passes : All (IsAt l.self) l.passes.items;
  count : length l.passes.items ≡ length l.fn.passes.items;
  end : l.at-end ≡ length l.passes.items;
}
