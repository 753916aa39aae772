use Rattle.qtc_events.proofs.Words.{flags_changed}
use Rattle.qtc_events.proofs.flags.Flags.changed.Goals as goal

pub returns : goal.returns
returns c = flags_changed c.args.self.bits c.args.clears c.args.sets c.ranges.clears.fits
