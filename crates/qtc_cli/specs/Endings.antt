-- How a call ends. (Own.)
use Rattle.std.specs.Prelude.{◌≡◌, ◌⊎◌, ℕ, List}
use Rattle.qtc_outside.specs.Intake.{Intake, Takes, IsCut}
use Rattle.qtc_cli.specs.Refusals.{status_of, line_of, Hears, SaysFor}
use Rattle.qtc_cli.specs.declared.refusals.Refusal.{Refusal}
use Rattle.qtc_cli.specs.declared.refusals.Refusal.TheVariants.{WriteFault}

-- a refusal was told, or what stands for it
pub record IsRefused (refusal : Refusal) (status : ℕ) (old new : Intake) : Type 0 where
  pub said : Refusal
  pub stands : SaysFor refusal said
  pub status_is : status ≡ status_of said
  pub hears : Hears (line_of said) old new

-- all of the text was written, and nothing was said
pub record WritesAll (text : List ℕ) (done status : ℕ) (out out_after err err_after : Intake) : Type 0 where
  pub status_is : status ≡ done
  pub takes : Takes out text out_after
  pub quiet : err_after ≡ err

-- a front of the text was written, and the fault was told
pub record WritesFront (text : List ℕ) (status : ℕ) (out out_after err err_after : Intake) : Type 0 where
  pub status_is : status ≡ status_of WriteFault
  pub taken : ℕ
  pub cut : IsCut out text taken out_after
  pub hears : Hears (line_of WriteFault) err err_after

abbrev pub Writes : (text : List ℕ) (done status : ℕ) (out out_after err err_after : Intake) → Type 0
Writes text done status out out_after err err_after =
    WritesAll text done status out out_after err err_after ⊎ WritesFront text status out out_after err err_after
