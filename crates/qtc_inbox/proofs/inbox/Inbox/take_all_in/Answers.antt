use Rattle.std.proofs.Common.{rules, ◌∙◌}
use Rattle.std.proofs.lemmas.List.Elements.{All-set}
use Rattle.qtc_inbox.specs.Endings.{IsAt}
use Rattle.qtc_inbox.proofs.inbox.Inbox.take_all_in.Goals as goal

pub loop-at-preserved : goal.loop-at-preserved
loop-at-preserved g c =
    let was = c.loop-at.invariant in
    record {
      line = c.take_in.ensures.line;
      key = c.take_in.ensures.key ∙ was.key;
      taken = c.take_in.ensures.taken ∙ was.taken;
      passes = All-set (IsAt c.args.self.now) c.loop-at.passes.items c.loop-at.at c.take_in.new.own c.take_in.ensures.own was.passes;
      count = search rules;
      end = search rules;
    }
