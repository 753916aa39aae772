-- What a sink that never fails tells. (Own.)
use Rattle.std.specs.Prelude.{ℕ, ◌+◌, ◌≤◌, List, length, Some, None, IsSome, if◌then◌else◌}
use Rattle.qtc_outside.specs.Intake.{Intake}
use Rattle.qtc_outside.specs.declared.sure_sink.SureSink.{SureSink}

-- no fault comes
abbrev pub sure_intake : SureSink → Intake
sure_intake sink = record { got = if sink.told then Some sink.text.items else None; faults = 0 }

-- how many bytes it tells at least
abbrev pub room_of : SureSink → ℕ
room_of sink = sink.room

-- what fits the room with what was got before is told
abbrev pub TellsMore : ℕ → List ℕ → Intake → List ℕ → Type 0
TellsMore room piece new got = length got + length piece ≤ room → IsSome new.got
