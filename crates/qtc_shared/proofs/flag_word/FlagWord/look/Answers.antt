use Rattle.qtc_shared.specs.Inside.{pass_in}
use Rattle.qtc_shared.proofs.Seats.{at_table, has_word, pass_me}
use Rattle.qtc_shared.proofs.Steps.{looks}
use Rattle.qtc_shared.proofs.flag_word.FlagWord.look.Goals as goal

pub load-word-requires : goal.load-word-requires
load-word-requires g c =
    let pass = pass_in c.args.seat.now.me.0.passes in
    let me = pass_me c.self.inside _ c.self.view_is pass c.args.seat.now c.requires in (
      at_table c.self.inside _ c.self.view_is c.args.seat.now c.requires.at,
      has_word c.self.inside _ c.self.view_is c.self.invariant,
      looks c.self.inside.table.shared.key _ _ pass _ me,
    )
