use Rattle.qtc_kernel.proofs.AtDesks.{desk_left}
use Rattle.qtc_kernel.proofs.engine.Engine.step.Goals as goal

pub returns-then-not-is_did-clause-desk : goal.returns-then-not-is_did-clause-desk
returns-then-not-is_did-clause-desk g c =
    desk_left g.F.ItemFn.value g.F.ItemFn.called c.args.self.now c.turn-turn.new.desk c.leave.new.desk c.turn-turn.ensures.desk c.leave.ensures
