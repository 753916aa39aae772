-- What a thread waits for at the flags. (Own.)
use Rattle.std.specs.Prelude.{IsTrue}
use Rattle.qtc_events.specs.Flags.{Standing}
use Rattle.qtc_shared.specs.Passes.{IsResumed}
use Rattle.qtc_shared.specs.declared.waits.Until.{Until}
use Rattle.qtc_shared.specs.declared.waits.Until.TheVariants.{Resumed, Finished}

abbrev pub IsReached : Until → Standing → Type 0
IsReached Resumed flags = IsResumed flags
IsReached Finished flags = IsTrue flags.finished
