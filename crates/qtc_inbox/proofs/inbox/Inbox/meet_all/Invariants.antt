use Rattle.std.proofs.Common.{◌≡◌, ◌≤◌, All, length}
use Rattle.std.specs.List.{AllWithin}
use Rattle.qtc_shared.specs.Journals.{IsJournal}
use Rattle.qtc_inbox.specs.Draining.{CallsBeside}
use Rattle.qtc_inbox.specs.Endings.{HasMet, IsAt}
use Rattle.qtc_inbox.proofs.inbox.Inbox.meet_all.Given as goal

-- the passes so far met the inbox's
abbrev pub invariant-loop-at : goal.invariant-loop-at
invariant-loop-at g l = record {
  beside : CallsBeside l.self.pass.number l.fn.pass l.pass;
  passes : All (IsAt l.self) l.passes.items;
  met : AllWithin (HasMet l.pass.known) l.passes.items 0 l.at;
  count : length l.passes.items ≡ length l.fn.passes.items;
  lawful : 1 ≤ l.at → IsJournal l.self.pass.of.terms l.pass.known;
  end : l.at-end ≡ length l.passes.items;
}
