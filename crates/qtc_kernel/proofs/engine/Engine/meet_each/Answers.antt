use Rattle.std.proofs.Common.{◌<◌, ap, length, rules, arith, ◌∙◌}
use Rattle.std.proofs.lemmas.List.Elements.{All-set, AllWithin-more_set}
use Rattle.std.proofs.Math.Seq.{map-set_same}
use Rattle.qtc_kernel.specs.EngineParts.{IsDesk}
use Rattle.qtc_kernel.specs.Endings.{IsMet}
use Rattle.qtc_kernel.proofs.AtDesks.{met_further}
use Rattle.qtc_kernel.proofs.Passing.{goes_further}
use Rattle.qtc_kernel.proofs.engine.Engine.meet_each.Goals as goal

pub loop-at-preserved : goal.loop-at-preserved
loop-at-preserved g c =
    let was = c.loop-at.invariant in
    let desks = c.loop-at.desks.items in
    let met = c.meet_desk.ensures in
    let less : c.loop-at.at < length desks = omega (arith, was.end) in
    record {
      on = goes_further c.args.pass.now c.loop-at.pass c.meet_desk.new.pass was.on met.pass;
      own = met.own ∙ was.own;
      count = search rules;
      functions = map-set_same (λ d. d.function) desks c.loop-at.at c.meet_desk.new.desk c.index_mut.result.now (met.function ∙ ap (λ d. d.function) c.index_mut.ensures.value) ∙ was.functions;
      wants_memory = map-set_same (λ d. d.wants_memory) desks c.loop-at.at c.meet_desk.new.desk c.index_mut.result.now (met.wants_memory ∙ ap (λ d. d.wants_memory) c.index_mut.ensures.value) ∙ was.wants_memory;
      desks = All-set (IsDesk g.F.ItemFn.value g.F.ItemFn.called c.args.self.now) desks c.loop-at.at c.meet_desk.new.desk met.desk was.desks;
      met = AllWithin-more_set desks c.loop-at.at c.meet_desk.new.desk less (IsMet c.meet_desk.new.pass.known)
          (λ k d low high. met_further _ c.loop-at.pass c.meet_desk.new.pass met.pass (was.met k d low high)) met.met;
      end = search rules;
    }
