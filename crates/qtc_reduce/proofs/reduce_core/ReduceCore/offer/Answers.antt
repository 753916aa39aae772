use Rattle.std.proofs.Common.{◌≡◌, true, false, None, is_some, length, sym, subst, ap, ◌∙◌, arith}
use Rattle.std.proofs.lemmas.Bool.{and_from}
use Rattle.qtc_reduce.specs.Core.{Core, goes_out, is_next}
use Rattle.qtc_reduce.specs.Steps.{handed_out}
use Rattle.qtc_reduce.specs.Inside.{IsSound}
use Rattle.qtc_reduce.proofs.Sound.{handed_sound}
use Rattle.qtc_reduce.proofs.reduce_core.ReduceCore.offer.Goals as goal

pub invariant_of-self-2 : goal.invariant_of-self-2
invariant_of-self-2 g c =
    let s = c.self.inside in
    let core : Core g.row.F-Acc.Denot = record {
      ordered = s.ordered;
      workers = s.workers;
      stored = s.stored.items;
      hand = s.hand;
      folded = s.folded.items;
      progress = s.progress;
      closed = s.closed;
      home = s.home;
    } in
    let going : core.closed ≡ false = c.if-self.false in
    let home : is_some core.home ≡ true = ap is_some (sym c.take.ensures.value ∙ c.in-Some.is) in
    let next : is_next core c.args.block ≡ true = cc in
    let out : goes_out core c.args.block ≡ true = and_from _ _ home next in
    let sound : IsSound (handed_out c.args.block core) = handed_sound core c.args.block c.self.invariant.sound going out in
    let none : c.take.new.self ≡ None = c.take.ensures.after in
    let same : c.reserve.new.self.items ≡ s.folded.items = c.in_ok-reserve.ensures.items in
    let long = ap length same in
    record {
      sound =
          subst (λ folded. IsSound (record (handed_out c.args.block core) { folded = folded; home = c.take.new.self })) (sym same)
          (subst (λ home. IsSound (record (handed_out c.args.block core) { home = home })) (sym none) sound);
      few = c.self.invariant.few;
      room =
          let enough = c.in_ok-reserve.ensures.ok in
          let asked = c.len.ensures in
          let new_len = c.reserve.new.self.ok in
          let old_len = s.stored.ok in
          omega arith;
    }
