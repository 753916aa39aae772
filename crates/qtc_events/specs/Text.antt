-- The line of an event in a report. (Own.)
use Rattle.std.specs.Prelude.{ℕ, List, [], ◌∷◌, ◌++◌, codes}
use Rattle.qtc_base.specs.Decimal.{decimal_text}
use Rattle.qtc_events.specs.declared.events.Event.{Event}
use Rattle.qtc_events.specs.declared.events.Event.TheVariants.{Started, Ready, Suspending, Suspended, Resumed, Canceled, Finished}

abbrev pub event_words : Event → List ℕ
event_words Started = codes "started"
event_words (Ready begin end) = codes "ready " ++ decimal_text begin ++ codes " " ++ decimal_text end
event_words Suspending = codes "suspending"
event_words Suspended = codes "suspended"
event_words Resumed = codes "resumed"
event_words Canceled = codes "canceled"
event_words Finished = codes "finished"

-- with its LF
abbrev pub event_line : Event → List ℕ
event_line event = codes "event " ++ event_words event ++ 10 ∷ []
