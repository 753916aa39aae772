use Rattle.std.proofs.Common.{true}
use Rattle.qtc_tests.proofs.lock.seated.Tally.new.Given as goal

abbrev pub ghosts-locked : goal.ghosts-locked
ghosts-locked a = record { key = record { table = a.counter.seat.table_id; start = a.start }; named = true }
