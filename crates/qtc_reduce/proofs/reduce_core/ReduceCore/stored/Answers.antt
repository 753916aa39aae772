use Rattle.std.proofs.Common.{◌≡◌, ℕ, [], false, IsSome, sym, subst}
use Rattle.qtc_base.specs.Ranges.{Tiles}
use Rattle.qtc_reduce.specs.Core.{Core, ranges_of}
use Rattle.qtc_reduce.proofs.Waiting.{none_waits}
use Rattle.qtc_reduce.proofs.reduce_core.ReduceCore.stored.Goals as goal

pub returns-clause-none : goal.returns-clause-none
returns-clause-none g c =
    let s = c.self.inside in
    let core : Core g.row.F-Acc.Denot = record {
      ordered = s.ordered;
      workers = s.workers;
      stored = s.stored.items;
      hand = s.hand;
      folded = s.folded.items;
      progress = s.progress;
      closed = s.closed;
      home = s.home;
    } in
    let view : c.args.self.now ≡ core = cc in
    subst (λ (core : Core g.row.F-Acc.Denot). IsSome core.home → core.closed ≡ false → (n : ℕ) → Tiles (ranges_of core) n → core.stored ≡ [])
    (sym view) (λ home going n tiles. none_waits core c.self.invariant.sound home going n tiles)
