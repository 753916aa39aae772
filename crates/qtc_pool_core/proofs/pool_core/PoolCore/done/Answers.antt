use Rattle.std.proofs.Common.{◌==◌, ◌∙◌, ap, sym, arith, length}
use Rattle.std.specs.List.{list_any}
use Rattle.qtc_pool_core.specs.declared.entries.PoolEntry.TheVariants.{Done}
use Rattle.qtc_pool_core.proofs.Replay.{fewer_run, replays-step, step-done}
use Rattle.qtc_pool_core.proofs.pool_core.PoolCore.done.Goals as goal

pub invariant_of-self : goal.invariant_of-self
invariant_of-self g c =
    let inv = c.self.invariant in
    let id = c.args.id in
    let ran = ap (list_any (λ other. other == id)) (sym c.as_slice.ensures.value) ∙ sym c.contains-ran.ensures.value ∙ c.if-ran.true in
    let fewer = ap length c.remove_id.ensures.items in
    let less = fewer_run id c.self.inside.running.items ran in
    record {
      replays = replays-step _ _ _ _ _ (Done id) inv.replays (step-done _ _ _ _ _ id ran c.remove_id.ensures.items) c.push_reserved.ensures.items;
      began = inv.began;
      few = omega (arith, fewer, less, inv.few);
      most = inv.most;
      bounded = inv.bounded;
      starts = inv.starts;
      entries = omega (arith, fewer, less, inv.entries, c.push_reserved.ensures.len, c.push_reserved.ensures.capacity);
      threads = λ some. omega (arith, inv.threads some, c.remove_id.ensures.capacity);
    }
