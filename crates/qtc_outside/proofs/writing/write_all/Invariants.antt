use Rattle.std.proofs.Common.{◌≡◌, ◌≤◌, ◌-◌, length, take}
use Rattle.qtc_outside.specs.Intake.{GotMore}
use Rattle.qtc_outside.proofs.writing.write_all.Given as goal

abbrev pub invariant-loop-taken : goal.invariant-loop-taken
invariant-loop-taken g l =
    let sink = g.S.Sink in
    record {
      within : l.taken ≤ length l.piece;
      got : GotMore (sink.intake l.fn.sink).got (take l.taken l.piece) (sink.intake l.sink).got;
      faults : (sink.intake l.sink).faults ≡ (sink.intake l.fn.sink).faults;
    }

abbrev pub decreases-loop-taken : goal.decreases-loop-taken
decreases-loop-taken g l = length l.piece - l.taken
