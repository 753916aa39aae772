use Rattle.qtc_events.proofs.Words.{word_of-lt, flags_in-word_of, word_of-flags_in}
use Rattle.qtc_events.proofs.laws.words_are_flags.Goals as goal

pub returns : goal.returns
returns c = record { small = word_of-lt; shown = flags_in-word_of; made = word_of-flags_in }
