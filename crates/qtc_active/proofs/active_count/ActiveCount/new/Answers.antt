use Rattle.std.proofs.Common.{rules, arith}
use Rattle.qtc_active.proofs.Steps.{makes}
use Rattle.qtc_active.proofs.active_count.ActiveCount.new.Goals as goal

pub split_seat-seat-requires : goal.split_seat-seat-requires
split_seat-seat-requires c =
    let is = c.loop-made.invariant in
    let left = is.left in
    (is.at, search rules, makes _ _ _ (omega arith))
