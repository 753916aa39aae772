use Rattle.std.proofs.Common.{◌≡◌, true, rules, sym, ◌∙◌}
use Rattle.qtc_kernel.specs.Turns.{goes_on}
use Rattle.qtc_kernel.proofs.Turning.{continues_by, wants_did}
use Rattle.qtc_kernel.proofs.engine.Engine.work.Goals as goal

pub loop-preserved : goal.loop-preserved
loop-preserved g c =
    let was = c.loop.invariant in
    let told = c.step-turn.ensures in
    let did : goes_on c.step-turn.result ≡ true = sym c.is_did.ensures ∙ c.if-not-is_did.false in
    record {
      can = search rules;
      finite = search rules;
      desk = told.desk;
      is_in = told.out ∙ did;
      number = told.number ∙ was.number;
      function = continues_by g.F.ItemFn.value g.F.ItemFn.called c.args.self.now c.args.desk.now c.loop.desk c.step-turn.new.desk c.step-turn.result c.requires.desk told.desk was.function told.turn;
      wants_memory = told.wants_memory ∙ wants_did c.loop.desk.wants_memory c.step-turn.result did ∙ was.wants_memory;
    }

pub returns-then-not-is_did-clause-function : goal.returns-then-not-is_did-clause-function
returns-then-not-is_did-clause-function g c =
    continues_by g.F.ItemFn.value g.F.ItemFn.called c.args.self.now c.args.desk.now c.loop.desk c.step-turn.new.desk c.step-turn.result c.requires.desk c.step-turn.ensures.desk c.loop.invariant.function c.step-turn.ensures.turn

pub returns-then-not-is_did-clause-turn : goal.returns-then-not-is_did-clause-turn
returns-then-not-is_did-clause-turn g c =
    let was = c.loop.invariant in
    record {
      before = c.loop.desk;
      desk = was.desk;
      number = was.number;
      function = was.function;
      turn_is = c.step-turn.ensures.turn;
      over = sym c.is_did.ensures ∙ c.if-not-is_did.true;
    }
