use Rattle.std.proofs.Common.{arith}
use Rattle.qtc_run.proofs.LineCounts.{lines-counted}
use Rattle.qtc_run.proofs.sizes.line_size.Goals as goal

pub returns-clause-size : goal.returns-clause-size
returns-clause-size c =
    let counted = lines-counted c.args.text.now in
    let number = counted.number in
    let bytes = counted.bytes in
    record { number = omega arith; bytes = omega arith }
