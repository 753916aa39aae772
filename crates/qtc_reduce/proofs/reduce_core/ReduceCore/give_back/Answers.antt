use Rattle.std.proofs.Common.{◌≡◌, ◌<◌, true, Some, is_some, length, get_or, remove, ◌++◌, sym, subst, ap, ◌∙◌, arith}
use Rattle.std.proofs.lemmas.List.{length-append}
use Rattle.std.proofs.lemmas.List.Edits.{length-remove}
use Rattle.qtc_reduce.specs.Core.{Core, listed}
use Rattle.qtc_reduce.specs.Blocks.{may_be_next}
use Rattle.qtc_reduce.specs.Steps.{gone_on}
use Rattle.qtc_reduce.specs.Inside.{IsSound}
use Rattle.qtc_reduce.proofs.Sound.{gone_sound}
use Rattle.qtc_reduce.proofs.reduce_core.ReduceCore.give_back.Goals as goal

pub invariant_of-self : goal.invariant_of-self
invariant_of-self g c =
    let s = c.self.inside in
    let core : Core g.row.F-Acc.Denot = record {
      ordered = s.ordered;
      workers = s.workers;
      stored = s.stored.items;
      hand = s.hand;
      folded = s.folded.items;
      progress = s.progress;
      closed = s.closed;
      home = s.home;
    } in
    let block = c.remove-block.result in
    let place = c.in-Some-next_place.place in
    let hand : core.hand ≡ Some c.in-Some.range = sym c.take.ensures.value ∙ c.in-Some.is in
    let out : is_some core.hand ≡ true = ap is_some hand in
    let slice : c.as_slice.result.now ≡ s.stored.items = c.as_slice.ensures.value in
    let found : get_or c.as_slice.result.now place block ≡ block =
    ap (λ l. get_or l place block) slice ∙ sym c.remove-block.ensures.value in
    let next : may_be_next core.ordered core.progress block ≡ true =
    subst (λ b. may_be_next core.ordered core.progress b ≡ true) found (c.in-Some-next_place.ensures.first block).0 in
    let sound : IsSound (gone_on place block core) = gone_sound core place block c.self.invariant.sound out next in
    let stored : c.remove-block.new.self.items ≡ remove core.stored place = c.remove-block.ensures.items in
    let folded : c.push_reserved.new.self.items ≡ core.folded ++ listed core.hand =
    c.push_reserved.ensures.items ∙ sym (ap (λ h. core.folded ++ listed h) hand) in
    let below : place < length core.stored = subst (λ l. place < length l) slice c.in-Some-next_place.ensures.below in
    let shorter = length-remove core.stored place below in
    let less = ap length stored in
    record {
      sound =
          subst (λ l. IsSound (record (gone_on place block core) { folded = l; stored = c.remove-block.new.self.items })) (sym folded)
          (subst (λ l. IsSound (record (gone_on place block core) { stored = l })) (sym stored) sound);
      few = omega (arith, shorter, less, c.self.invariant.few);
      room =
          let kept = c.self.invariant.room in
          let cap = c.push_reserved.ensures.capacity in
          let long = ap length folded ∙ length-append core.folded (listed core.hand) in
          let one = ap (λ h. length (listed h)) hand in
          omega (arith, kept, cap, long, one, shorter, less);
    }
