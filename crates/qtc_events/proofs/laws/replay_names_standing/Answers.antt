use Rattle.qtc_events.proofs.Replays.{replay_names_standing}
use Rattle.qtc_events.proofs.laws.replay_names_standing.Goals as goal

pub returns : goal.returns
returns c = replay_names_standing
