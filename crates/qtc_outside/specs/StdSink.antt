-- What is told of a standard stream: which it is, and how often it failed. (Own.)
use Rattle.std.specs.Prelude.{Bool, true, false, None}
use Rattle.qtc_outside.specs.Intake.{Intake}
use Rattle.qtc_outside.specs.declared.std_sink.Stream.{Stream}
use Rattle.qtc_outside.specs.declared.std_sink.Stream.TheVariants.{Output, Error}
use Rattle.qtc_outside.specs.declared.std_sink.StdSink.{StdSink}

abbrev pub is_error : Stream → Bool
is_error (Output stream) = false
is_error (Error stream) = true

abbrev pub goes_to_error : StdSink → Bool
goes_to_error sink = is_error sink.stream

-- what it got is not told
abbrev pub stream_intake : StdSink → Intake
stream_intake sink = record { got = None; faults = sink.faults }
