use Rattle.std.proofs.Common.{◌≡◌, ◌<◌, ◌+◌, [], false, ap, arith, drop, length, take, ◌∙◌}
use Rattle.std.specs.List.{swap}
use Rattle.std.proofs.lemmas.Grind.{drop_more_same}
use Rattle.std.proofs.lemmas.List.Edits.{length-swap}
use Rattle.qtc_inplace.proofs.KeepLemmas.{back-stays, front-goes, front-stays}
use Rattle.qtc_inplace.proofs.in_place.keep.Goals as goal
use Rattle.qtc_inplace.proofs.in_place.keep.Goals.{then-stays, else-stays}

pub loop-index-preserved : goal.loop-index-preserved
loop-index-preserved c =
    let kept = c.loop-index.invariant in
    let old = c.args.list.now.items in
    let now = c.loop-index.list.items in
    let k = c.loop-index.kept in
    let i = c.loop-index.index in
    let few : i < length c.args.verdicts.now = c.loop-index-test.true in
    let long : length c.args.verdicts.now ≡ length old = c.requires in
    let len : length now ≡ length old = kept.len in
    elim c.if-stays.branch [
      | then-stays w ↦
          let is : c.if-stays.list.items ≡ swap now k i = ap (λ v. v.items) w.list-is ∙ w.swap.ensures.items in
          let more : c.if-stays.kept ≡ k + 1 = w.kept-is in
          record {
            few = omega (arith, more, kept.few);
            len = ap length is ∙ length-swap now k i ∙ len;
            front = (λ p. take (more p) (is p)) ∙ front-stays old now c.args.verdicts.now k i [] false kept.few (omega arith) len few kept.front kept.back w.if-stays.true;
            back = ap (drop (i + 1)) is ∙ back-stays old now k i [] kept.few (omega arith) kept.back;
          }
      | else-stays w ↦
          let is : c.if-stays.list.items ≡ now = ap (λ v. v.items) w.list-is in
          let same : c.if-stays.kept ≡ k = w.kept-is in
          record {
            few = omega (arith, same, kept.few);
            len = ap length is ∙ len;
            front = (λ p. take (same p) (is p)) ∙ front-goes old now c.args.verdicts.now k i [] false (omega arith) few kept.front w.if-stays.false;
            back = ap (drop (i + 1)) is ∙ drop_more_same now old i kept.back;
          }
    ]
