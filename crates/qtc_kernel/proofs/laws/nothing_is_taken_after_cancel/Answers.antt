use Rattle.qtc_kernel.specs.Machine.{run_of}
use Rattle.qtc_kernel.proofs.Asking.{none_taken}
use Rattle.qtc_kernel.proofs.laws.nothing_is_taken_after_cancel.Goals as goal

pub returns : goal.returns
returns c work mode events caller range canceled = none_taken work (run_of work mode events) caller range canceled
