use Rattle.std.proofs.Common.{true}
use Rattle.qtc_shared.proofs.locked_core.LockedCore.open.Given as goal

abbrev pub ghosts-new : goal.ghosts-new
ghosts-new g a = record { key = record { table = a.value.seat.table_id; terms = a.value.seat.me.0.terms }; named = true }
