use Rattle.std.proofs.Common.{ap, arith}
use Rattle.qtc_shared.specs.Rule.{learned}
use Rattle.qtc_shared.specs.Inside.{pass_at_seat, journal_of, book_with}
use Rattle.qtc_shared.proofs.Seats.{at_table, has_word}
use Rattle.qtc_shared.proofs.Steps.{makes_child}
use Rattle.qtc_shared.proofs.flag_word.FlagWord.make.Goals as goal

pub split_seat-seat-requires : goal.split_seat-seat-requires
split_seat-seat-requires g c =
    let seat = c.args.seat.now in
    let journal = journal_of seat in (
      at_table c.self.inside _ c.self.view_is seat c.requires.at,
      has_word c.self.inside _ c.self.view_is c.self.invariant,
      makes_child c.self.inside.table.shared.key _ _ c.args.self.now.terms (learned journal (pass_at_seat seat)) (book_with journal c.args.made.now.count)
          (ap (λ m. m.0) c.requires.me) (let number = c.in_ok-number.ensures in omega arith),
    )
