-- What a turn comes to, by what its parts come to.
use Rattle.std.proofs.Common.{◌≡◌, ◌⊎◌, inl, inr, ℕ, Bool, true, false, List, [], ◌∷◌, Option, None, Some, Result, Ok, Err, refl, sym, ◌∙◌, subst}
use Rattle.qtc_base.specs.declared.memory.NoMemory.{NoMemory}
use Rattle.qtc_events.specs.Flags.{flags_in}
use Rattle.qtc_events.specs.declared.flags.Flags.{Flags}
use Rattle.qtc_shared.specs.Laws.{is_ended}
use Rattle.qtc_shared.specs.Passes.{PassState, IsPause}
use Rattle.qtc_tasks.specs.Inside.{IsAnswered, IsRefusal, IsTurn}
use Rattle.qtc_tasks.specs.Tasks.{TaskState}
use Rattle.qtc_tasks.specs.Turns.{IsOffered, IsPaused, IsTurnedDown, OffersFirst}
use Rattle.qtc_tasks.specs.declared.ends.TaskStop.{TaskStop}
use Rattle.qtc_tasks.specs.declared.ends.TaskStop.TheVariants.{Whole, Failed, Canceled, Refused, Memory, NotRun}

module _ {V : Type 0} where
  pub paused : (old new : PassState V) (result : Result Flags NoMemory) (flags : Flags) (b ended : Bool)
      → IsPause old new result → result ≡ Ok flags → b ≡ is_ended (flags_in flags.bits) → b ≡ ended → IsPaused old new ended
  paused old new result flags b ended pause is looks shows = record {
    flags = flags;
    pause = subst (λ r. IsPause old new r) is pause;
    showed = sym looks ∙ shows;
  }

  pub first_is : (left rest : List V) (value : V) (Offers : V → Type 0) → left ≡ value ∷ rest → Offers value → OffersFirst left Offers
  first_is left rest value Offers is offers = subst (λ xs. OffersFirst xs Offers) (sym is) offers

  turned_down : (old paused new : PassState V) (value : V) (ended : Bool) → IsPaused old paused false → IsRefusal paused new value ended → IsTurnedDown old new value ended
  turned_down old paused new value ended pause refusal = record {
    offered = refusal.offered;
    offer = record { paused = paused; pause = pause; add = refusal.add };
    flags = refusal.flags;
    look = refusal.look;
    showed = refusal.showed;
  }

  pub answered : {T : Type 0} (before after : TaskState V) (came : ℕ) (old paused new : PassState V) (value : V) (result : Option (TaskStop T))
      → IsPaused old paused false → before.left ≡ value ∷ after.left → after.bad ≡ before.bad
      → IsAnswered paused new value result → IsTurn before after came old new result
  answered before after came old paused new value None pause left bad answer = record {
    value = value;
    left = left;
    bad = bad;
    offer = record { paused = paused; pause = pause; add = answer };
  }
  answered before after came old paused new value (Some Canceled) pause left bad answer =
      inr (first_is before.left after.left value _ left (turned_down old paused new value true pause answer))
  answered before after came old paused new value (Some Refused) pause left bad answer =
      first_is before.left after.left value _ left (turned_down old paused new value false pause answer)
  answered before after came old paused new value (Some Memory) pause left bad answer =
      inr (inr (first_is before.left after.left value _ left (record { paused = paused; pause = pause; add = answer })))
  answered before after came old paused new value (Some Whole) pause left bad answer = absurd answer
  answered before after came old paused new value (Some Failed) pause left bad answer = absurd answer
  answered before after came old paused new value (Some (NotRun task)) pause left bad answer = absurd answer
