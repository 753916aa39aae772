-- The continuation of one future. (After QFuture's then; that a second step is refused is own.)
use Rattle.std.specs.Prelude.{◌≡◌, ◌↔◌, Bool, true, false, if◌then◌else◌, Option, Some, None, IsSome}
use Rattle.qtc_chain.specs.declared.cont_state.Attach.{Attach}
use Rattle.qtc_chain.specs.declared.cont_state.Attach.TheVariants.{Waiting, RunNow, Refused}

-- the step that waits, whether one was ever attached, and whether the future has finished
pub record Cont (K : Type 0) : Type 0 where
  pub waiting : Option K
  pub attached : Bool
  pub finished : Bool

abbrev pub new_cont : {K : Type 0} → Cont K
new_cont = record { waiting = None; attached = false; finished = false }

module _ {K : Type 0} where
  -- where one was attached before, nothing changes; else the step waits, unless the future has finished
  abbrev pub attached_to : K → Cont K → Cont K
  attached_to step cont =
      if cont.attached then cont
      else record cont { attached = true; waiting = if cont.finished then None else Some step }

  -- a step is attached: refused exactly where one was before, else to be run now exactly where the future has finished, else
  -- waiting; and what doesn't wait is handed back
  pub record IsAttached (step : K) (old new : Cont K) (result : Attach K) : Type 0 where
    pub refused : (result ≡ Refused step) ↔ (old.attached ≡ true)
    pub run_now : (result ≡ RunNow step) ↔ ((old.attached ≡ false) × (old.finished ≡ true))
    pub waits : (result ≡ Waiting) ↔ ((old.attached ≡ false) × (old.finished ≡ false))
    pub after : new ≡ attached_to step old

  -- the future has finished: the step that waits comes out, exactly where one was attached and this is the first such call
  pub record IsFinished (old new : Cont K) (result : Option K) : Type 0 where
    pub out : result ≡ old.waiting
    pub some : IsSome result ↔ ((old.attached ≡ true) × (old.finished ≡ false))
    pub after : new ≡ record old { waiting = None; finished = true }
