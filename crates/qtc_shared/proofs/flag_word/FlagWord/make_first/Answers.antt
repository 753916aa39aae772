use Rattle.std.proofs.Common.{ap, arith}
use Rattle.qtc_shared.proofs.Seats.{at_table, has_word}
use Rattle.qtc_shared.proofs.Steps.{makes}
use Rattle.qtc_shared.proofs.flag_word.FlagWord.make_first.Goals as goal

pub split_seat-seat-requires : goal.split_seat-seat-requires
split_seat-seat-requires g c = (
  at_table c.self.inside _ c.self.view_is c.args.book.now.seat c.requires.at,
  has_word c.self.inside _ c.self.view_is c.self.invariant,
  makes c.self.inside.table.shared.key _ _ c.args.self.now.terms _ (ap (λ m. m.0) c.requires.me) (let number = c.in_ok-number.ensures in omega arith),
)
