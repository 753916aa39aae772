use Rattle.qtc_events.proofs.Words.{test_of_bit}
use Rattle.std.proofs.Common.{arith}
use Rattle.qtc_events.proofs.flags.Flags.is_suspended.Goals as goal

pub returns : goal.returns
returns c = test_of_bit c.args.self.bits 5 (omega arith)
