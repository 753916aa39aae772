use Rattle.qtc_shared.proofs.Seats.{at_table, has_word}
use Rattle.qtc_shared.proofs.Steps.{hands_back}
use Rattle.qtc_shared.proofs.flag_word.FlagWord.hand_back.Goals as goal

pub split_seat-seat-requires : goal.split_seat-seat-requires
split_seat-seat-requires g c = (
  at_table c.self.inside _ c.self.view_is c.args.seat.now c.requires.seat.at,
  has_word c.self.inside _ c.self.view_is c.self.invariant,
  hands_back c.self.inside.table.shared.key _ _,
)
