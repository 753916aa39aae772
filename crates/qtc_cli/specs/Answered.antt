-- What every call of the program keeps, and when each refusal comes. (Own.)
use Rattle.std.specs.Prelude.{◌≡◌, ◌≢◌, ◌⊎◌, ℕ, List}
use Rattle.qtc_outside.specs.Counts.{Rose}
use Rattle.qtc_outside.specs.Source.{IsCalm}
use Rattle.qtc_job.specs.declared.faults.BadJob.{BadJob}
use Rattle.qtc_load.specs.Loads.{LoadsBad}
use Rattle.qtc_cli.specs.Refusals.{status_of, line_of, Hears}
use Rattle.qtc_cli.specs.Seen.{Seen}
use Rattle.qtc_cli.specs.declared.refusals.Refusal.{Refusal}
use Rattle.qtc_cli.specs.declared.refusals.Refusal.TheVariants.{Bad}

-- all was written
abbrev pub IsDone : ℕ → Type 0
IsDone status = (status ≡ 0) ⊎ (status ≡ 1)

-- a refusal with this status, whose line err heard
pub record IsSaid (refusal : Refusal) (call : Seen) : Type 0 where
  pub status : call.status ≡ status_of refusal
  pub hears : Hears (line_of refusal) call.err call.err_after

-- what becomes of the source and the sinks
pub record KeepsOutside (call : Seen) : Type 0 where
  -- where all was written err is as before; else it heard the line of the status
  pub quiet : IsDone call.status → call.err_after ≡ call.err
  pub told : (IsDone call.status → ⊥) → (refusal : Refusal) × IsSaid refusal call
  -- nothing is written with any status but 0, 1 and 5
  pub untouched : (IsDone call.status → ⊥) → call.status ≢ 5 → call.out_after ≡ call.out
  -- no fault of the source comes but with 4
  pub calm : call.status ≢ 4 → IsCalm call.texts call.texts_after

-- the job file under the name has a bad pair, and err was told the least
pub record IsBadJob (name : List ℕ) (call : Seen) : Type 0 where
  pub bad : BadJob
  pub loads : LoadsBad name call.texts bad call.texts_after
  pub hears : Hears (line_of (Bad bad)) call.err call.err_after

-- no count of faults rose
pub record HasNoFaults (call : Seen) : Type 0 where
  pub texts : ¬ Rose call.texts.faults call.texts_after.faults
  pub out : ¬ Rose call.out.faults call.out_after.faults
