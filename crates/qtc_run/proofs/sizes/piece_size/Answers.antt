use Rattle.std.proofs.Common.{sym}
use Rattle.qtc_run.proofs.PieceLemmas.{pieces-bytes, pieces-number}
use Rattle.qtc_run.proofs.sizes.piece_size.Goals as goal

pub returns-clause-size : goal.returns-clause-size
returns-clause-size c = record {
  number = sym (pieces-number c.args.size c.args.text.now);
  bytes = sym (pieces-bytes c.args.size c.args.text.now c.requires.some);
}
