use Rattle.std.proofs.Common.{arith}
use Rattle.qtc_shared.proofs.Seats.{by_first, below_one}
use Rattle.qtc_shared.proofs.Steps.{begins, hands_back}
use Rattle.qtc_shared.proofs.flag_word.FlagWord.open.Goals as goal

pub of_words-requires : goal.of_words-requires
of_words-requires g c =
    begins (record { core = c.args.core; makers = c.args.makers }) c.flags-word.result.bits
    (record { small = c.flags-word.result.known; flags = c.flags-word.ensures })
    (record { legal = c.journal-legal.ensures.legal; allowed = by_first c.args.makers c.args.core.calls c.requires.makers c.requires.callers })
    (below_one c.args.core.calls c.requires.callers)

pub split_seat-book-requires : goal.split_seat-book-requires
split_seat-book-requires g c =
    let made = c.in_ok-table.ensures in (made.2, (let words = made.0 in omega arith), hands_back _ _ _)
