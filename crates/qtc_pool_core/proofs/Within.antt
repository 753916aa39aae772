-- The limits of a pool after any run of entries.
use Rattle.std.proofs.Common.{◌≡◌, ◌+◌, ◌-◌, ◌&&◌, not, nat_lt, nat_le, List, [], ◌∷◌, Option, Some, None, refl, arith, subst, leb-true}
use Rattle.std.specs.Option.{option_and_then}
use Rattle.std.proofs.lemmas.Bool.{and_parts, ltb-true}
use Rattle.std.proofs.lemmas.Option.{same_Some}
use Rattle.qtc_pool_core.specs.declared.entries.PoolEntry.{PoolEntry}
use Rattle.qtc_pool_core.specs.declared.entries.PoolEntry.TheVariants.{Started, Tried, Took, TookBack, Done, Reserved, Released, MaxSet}
use Rattle.qtc_pool_core.specs.Machine.{Pool, empty, is_head, is_known, is_queued, is_running, may_run, step, with_queued, with_running, without_queued, without_running}
use Rattle.qtc_base.specs.Limits.{most_reserved, most_threads}
use Rattle.qtc_pool_core.specs.Runs.{run_of}
use Rattle.qtc_pool_core.specs.Laws.{IsWithinLimits, LimitsHold}
use Rattle.qtc_pool_core.proofs.Lawful.{stands}

within_step : (old new : Pool) (entry : PoolEntry) → IsWithinLimits old → step old entry ≡ Some new → IsWithinLimits new
within_step old new (Started i priority) w h = subst IsWithinLimits (stands (not (is_known i old)) (with_queued old i priority) new h).1 (record { some = w.some; few = w.few; bounded = w.bounded })
within_step old new (Tried i) w h = subst IsWithinLimits (stands (not (is_known i old) && may_run old) (with_running old i) new h).1 (record { some = w.some; few = w.few; bounded = w.bounded })
within_step old new (Took i) w h = subst IsWithinLimits (stands (is_head i old && may_run old) (with_running (without_queued old i) i) new h).1 (record { some = w.some; few = w.few; bounded = w.bounded })
within_step old new (TookBack i) w h = subst IsWithinLimits (stands (is_queued i old) (without_queued old i) new h).1 (record { some = w.some; few = w.few; bounded = w.bounded })
within_step old new (Done i) w h = subst IsWithinLimits (stands (is_running i old) (without_running old i) new h).1 (record { some = w.some; few = w.few; bounded = w.bounded })
within_step old new Reserved w h =
    let s = stands (nat_lt old.reserved most_reserved) (record old { reserved = old.reserved + 1 }) new h in
    subst IsWithinLimits s.1 (record { some = w.some; few = w.few; bounded = omega (arith, ltb-true old.reserved most_reserved s.0) })
within_step old new Released w h =
    let s = stands (nat_lt 0 old.reserved) (record old { reserved = old.reserved - 1 }) new h in
    subst IsWithinLimits s.1 (record { some = w.some; few = w.few; bounded = omega (arith, w.bounded) })
within_step old new (MaxSet most) w h =
    let s = stands (nat_lt 0 most && nat_le most most_threads) (record old { max = most }) new h in
    let parts = and_parts (nat_lt 0 most) (nat_le most most_threads) s.0 in
    subst IsWithinLimits s.1 (record { some = ltb-true 0 most parts.0; few = leb-true most most_threads parts.1; bounded = w.bounded })

within_run : (entries : List PoolEntry) (old new : Pool) → IsWithinLimits old → run_of old entries ≡ Some new → IsWithinLimits new
within_run [] old new w h = subst IsWithinLimits (same_Some old new h) w
within_run (entry ∷ entries) old new w h =
    let go : (o : Option Pool) → step old entry ≡ o → option_and_then (λ next. run_of next entries) o ≡ Some new → IsWithinLimits new = elim [
      | None ↦ λ e r. absurd (cc)
      | Some next ↦ λ e r. within_run entries next new (within_step old next entry w e) r
    ] in
    go (step old entry) refl h

pub limits_hold : LimitsHold
limits_hold most entries pool some few h =
    within_run entries (empty most) pool (record { some = some; few = few; bounded = omega arith }) h
