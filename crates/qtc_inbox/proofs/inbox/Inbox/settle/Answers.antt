use Rattle.std.proofs.Common.{◌≡◌, ◌≤◌, ◌++◌, ap, sym, subst, ◌∙◌, length}
use Rattle.qtc_claim.specs.Counter.{CounterId}
use Rattle.qtc_shared.proofs.Prefixes.{begins_same}
use Rattle.qtc_inbox.specs.Boards.{IsBoard}
use Rattle.qtc_inbox.specs.Endings.{workers_of}
use Rattle.qtc_inbox.proofs.Boards.{all_at, board_seats, further_known, long_workers, none_before, taken_in}
use Rattle.qtc_inbox.proofs.inbox.Inbox.settle.Goals as goal

pub take_all_in-requires-clause-passes : goal.take_all_in-requires-clause-passes
take_all_in-requires-clause-passes g c κs within = all_at c.args.self.now c.args.passes.now.items c.requires.passes.each

pub drain_all-drained-requires-clause-board : goal.drain_all-drained-requires-clause-board
drain_all-drained-requires-clause-board g c κs within =
    let board = c.args.board.now in
    let taken = c.take_all_in.ensures in
    record {
      reporting = c.requires.board.reporting;
      taken = taken_in c.args.self.now board.place c.take_all_in.new.place board.tally board.tally board.pass board.pass c.requires.board.taken taken.line taken.key taken.taken (further_known c.args.self.now board.tally board.pass board.pass (begins_same board.pass.known));
    }

pub has_ended-ended-requires-clause-reporting : goal.has_ended-ended-requires-clause-reporting
has_ended-ended-requires-clause-reporting g c κs within =
    let mid = c.drain_all-drained.new.board in
    let seats = c.gather_seats.ensures in
    (board_seats c.args.self.now mid.place mid.tally c.gather_seats.new.tally mid.pass c.meet_all.new.pass mid.all_reported c.drain_all-drained.ensures.board c.meet_all.ensures.beside seats.same.0 seats.same.1 seats.gathered).reporting

pub returns-in-Ok-clause-board : goal.returns-in-Ok-clause-board
returns-in-Ok-clause-board g c =
    let parts = c.args.self.now in
    let mid = c.drain_all-drained.new.board in
    let seats = c.gather_seats.ensures in
    subst (λ board. IsBoard parts board.place board.tally board.pass board.all_reported) (sym c.has_ended-ended.ensures.same)
    (board_seats parts mid.place mid.tally c.gather_seats.new.tally mid.pass c.meet_all.new.pass mid.all_reported c.drain_all-drained.ensures.board c.meet_all.ensures.beside seats.same.0 seats.same.1 seats.gathered)

pub returns-in-Err-clause-board : goal.returns-in-Err-clause-board
returns-in-Err-clause-board g c =
    let parts = c.args.self.now in
    let mid = c.drain_all-drained.new.board in
    let seats = c.gather_seats.ensures in
    subst (λ board. IsBoard parts board.place board.tally board.pass board.all_reported) (sym c.has_ended-ended.ensures.same)
    (board_seats parts mid.place mid.tally c.gather_seats.new.tally mid.pass c.meet_all.new.pass mid.all_reported c.drain_all-drained.ensures.board c.meet_all.ensures.beside seats.same.0 seats.same.1 seats.gathered)

pub returns-in-Ok-clause-ended : goal.returns-in-Ok-clause-ended
returns-in-Ok-clause-ended g c =
    let parts = c.args.self.now in
    let mid = c.drain_all-drained.new.board in
    let last = c.gather_seats.new.tally in
    let seats = c.gather_seats.ensures in
    let board = board_seats parts mid.place mid.tally last mid.pass c.meet_all.new.pass mid.all_reported c.drain_all-drained.ensures.board c.meet_all.ensures.beside seats.same.0 seats.same.1 seats.gathered in
    let own = workers_of c.args.seats.items in
    let all : length own ≡ parts.key.counter.workers = long_workers c.args.seats.items ∙ c.requires.seats.count in
    let few : length (mid.tally.workers ++ own) ≤ parts.key.counter.workers = subst (λ them. length them ≤ parts.key.counter.workers) seats.workers seats.gathered.count in
    let workers : last.workers ≡ own = seats.workers ∙ none_before mid.tally.workers own parts.key.counter.workers few all in
    let of = board.reporting.counter in
    record {
      tally = last;
      of = of;
      workers = workers;
      gathered = seats.gathered;
      knows = c.has_ended-ended.ensures.claims (ap length workers ∙ all ∙ sym (ap (λ (it : CounterId). it.workers) of));
      pass = c.meet_all.new.pass;
      all_reported = mid.all_reported;
      reporting = board.reporting;
      met = c.meet_all.ensures.met;
      ended_is = c.has_ended-ended.ensures.ended;
      tiles = c.has_ended-ended.ensures.tiles;
    }
