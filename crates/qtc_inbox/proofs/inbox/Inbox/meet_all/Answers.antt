use Rattle.std.proofs.Common.{◌<◌, length, rules, arith}
use Rattle.std.proofs.lemmas.List.Elements.{All-set, AllWithin-more_set}
use Rattle.qtc_shared.proofs.Prefixes.{begins_further}
use Rattle.qtc_inbox.specs.Endings.{HasMet, IsAt}
use Rattle.qtc_inbox.proofs.Reporting.{beside_further, beside_none}
use Rattle.qtc_inbox.proofs.inbox.Inbox.meet_all.Goals as goal

pub loop-at-init : goal.loop-at-init
loop-at-init g c = record {
  beside = beside_none c.args.self.now c.args.pass.now;
  passes = c.requires.passes;
  met = search rules;
  end = search rules;
  count = search rules;
  lawful = λ some. absurd (omega (arith, some));
}

pub loop-at-preserved : goal.loop-at-preserved
loop-at-preserved g c =
    let was = c.loop-at.invariant in
    let passes = c.loop-at.passes.items in
    let met = c.meet_one.ensures in
    let less : c.loop-at.at < length passes = omega (arith, was.end) in
    record {
      beside = beside_further c.args.self.now c.args.pass.now c.loop-at.pass c.meet_one.new.pass was.beside met.beside;
      passes = All-set (IsAt c.args.self.now) passes c.loop-at.at c.meet_one.new.own met.own was.passes;
      met = AllWithin-more_set passes c.loop-at.at c.meet_one.new.own less (HasMet c.meet_one.new.pass.known)
          (λ k own low high. begins_further _ c.loop-at.pass.known c.meet_one.new.pass.known (was.met k own low high) met.beside.begins) met.met;
      end = search rules;
      count = search rules;
      lawful = λ some. met.lawful;
    }
