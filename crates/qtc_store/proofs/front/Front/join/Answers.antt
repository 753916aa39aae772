use Rattle.std.proofs.Common.{◌∷◌, [], ◌++◌, length, All, ap, sym, ◌∙◌, subst, append_assoc, arith}
use Rattle.std.proofs.lemmas.List.Elements.{All-tail}
use Rattle.qtc_store.specs.Batches.{greatest_end}
use Rattle.qtc_store.specs.Inside.{met_in, waiting_in}
use Rattle.qtc_store.specs.Visible.{meeting}
use Rattle.qtc_store.proofs.Meeting.{meeting-next}
use Rattle.qtc_store.proofs.PendingLemmas.{IsFew}
use Rattle.qtc_store.proofs.front.Front.join.Goals as goal

pub loop-batch-preserved : goal.loop-batch-preserved
loop-batch-preserved g c =
    let b = c.in-Some.batch in
    let rest = waiting_in c.take_at.new.self in
    let taken = c.in-Some.ensures.taken in
    let inv = c.loop-batch.invariant in
    let next = ap length (ap (meeting c.loop-batch.self.place) taken ∙ meeting-next b rest c.loop-batch.self.place c.in-Some.ensures.at) in
    let place = ap (λ n. length (meeting n rest)) c.push.ensures.place in
    record {
      laid = c.push.ensures.laid;
      keyed = c.in-Some.ensures.keyed;
      room = omega (arith, inv.room, next, place, c.push.ensures.len, c.push.ensures.capacity);
      few = All-tail IsFew b rest (subst (All IsFew) taken inv.few);
      bounded = omega (arith, ap greatest_end taken, inv.bounded);
      all = ap (λ xs. xs ++ rest) c.push.ensures.met ∙ append_assoc (met_in c.loop-batch.self) (b ∷ []) rest ∙ ap (λ xs. met_in c.loop-batch.self ++ xs) (sym taken) ∙ inv.all;
    }
