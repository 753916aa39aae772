use Rattle.std.proofs.Common.{◌≡◌, ◌≤◌, [], ◌∷◌, ◌++◌, length, ap, sym, ◌∙◌, append_assoc, append-nil, arith}
use Rattle.std.proofs.lemmas.Grind.{common_steps}
use Rattle.qtc_run.specs.Sources.{pieces_of}
use Rattle.qtc_run.proofs.PieceLemmas.{pieces-step, pieces-end}
use Rattle.qtc_run.proofs.SumLemmas.{one-fits}
use Rattle.qtc_run.proofs.sources.piece_items.Goals as goal

pub append_item-requires : goal.append_item-requires
append_item-requires c =
    let filled : 1 ≤ length c.loop-rest.rest.now = grind (arith, common_steps) in
    let more = pieces-step c.args.size c.min.result c.loop-rest.rest.now c.split_at.result.0.now c.split_at.result.1.now c.requires.some filled c.min.ensures c.split_at.ensures.front c.split_at.ensures.back in
    one-fits c.loop-rest.items c.split_at.result.0.now (pieces_of c.args.size c.split_at.result.1.now) (pieces_of c.args.size c.args.text.now)
    (c.loop-rest.invariant ∙ ap (λ ps. c.loop-rest.items ++ ps) more) c.requires.fits

pub loop-rest-preserved : goal.loop-rest-preserved
loop-rest-preserved c =
    let filled : 1 ≤ length c.loop-rest.rest.now = grind (arith, common_steps) in
    let others = pieces_of c.args.size c.split_at.result.1.now in
    let more = pieces-step c.args.size c.min.result c.loop-rest.rest.now c.split_at.result.0.now c.split_at.result.1.now c.requires.some filled c.min.ensures c.split_at.ensures.front c.split_at.ensures.back in
    c.loop-rest.invariant
    ∙ (ap (λ ps. c.loop-rest.items ++ ps) more
    ∙ (sym (append_assoc c.loop-rest.items (c.split_at.result.0.now ∷ []) others) ∙ ap (λ s. s ++ others) (sym c.in_ok-append_item.ensures)))

pub returns : goal.returns
returns c =
    let empty : length c.loop-rest.rest.now ≡ 0 = grind (arith, common_steps) in
    sym (c.loop-rest.invariant ∙ (ap (λ ps. c.loop-rest.items ++ ps) (pieces-end c.args.size c.loop-rest.rest.now c.requires.some empty) ∙ append-nil c.loop-rest.items))
