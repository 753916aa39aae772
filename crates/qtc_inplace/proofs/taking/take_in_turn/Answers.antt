use Rattle.std.proofs.Common.{length, ◌≡◌, ◌+◌, ap, ◌∙◌, subst, Global, Vec}
use Rattle.qtc_ops.specs.ItemValue.{ItemValue}
use Rattle.qtc_inplace.specs.Inside.{TakesOne}
use Rattle.qtc_inplace.proofs.RunLemmas.{called-more, none-more, refused-calls, refused-tells, taken-more}
use Rattle.qtc_inplace.proofs.taking.take_in_turn.Goals as goal
use Rattle.std.specs.Prelude.{Ok}

pub returns-in-Err-clause-tells : goal.returns-in-Err-clause-tells
returns-in-Err-clause-tells g c =
    let kept = c.loop-offset.invariant in
    let value = g.F.ItemFn.value in
    refused-tells (value c.args.function.now) (Vec g.row.X.Denot Global) g.T.Taking.taken (value c.loop-offset.function) c.args.members.now c.args.first c.loop-offset.offset c.index-members-offset.result
    c.loop-offset.taken.items c.take_one.new.taken.items c.in-Err.fault c.loop-offset-test.true c.index-members-offset.is kept.good kept.stays c.in-Err.ensures.takes

pub returns-in-Err-clause-calls : goal.returns-in-Err-clause-calls
returns-in-Err-clause-calls g c =
    let called = g.F.ItemFn.called in
    refused-calls c.args.first c.loop-offset.offset (length c.args.members.now) (called c.args.function.now) (called c.loop-offset.function) (called c.take_one.new.function)
    c.in-Err.fault c.loop-offset-test.true c.loop-offset.invariant.called c.in-Err.ensures.calls

pub loop-offset-preserved : goal.loop-offset-preserved
loop-offset-preserved g c =
    let kept = c.loop-offset.invariant in
    let value = g.F.ItemFn.value c.args.function.now in
    let called = g.F.ItemFn.called in
    let members = c.args.members.now in
    let k = c.loop-offset.offset in
    let member = c.index-members-offset.result in
    let within = c.loop-offset-test.true in
    let same : g.F.ItemFn.value c.loop-offset.function member ≡ value member = ap (λ f. f member) kept.stays in
    let takes : TakesOne g.T.Taking.taken (value member) (c.args.first + k) member c.loop-offset.taken.items c.take_one.new.taken.items (Ok tt) =
    subst (λ (v : ItemValue). TakesOne g.T.Taking.taken v (c.args.first + k) member c.loop-offset.taken.items c.take_one.new.taken.items (Ok tt)) same c.in-Ok.ensures.takes in
    record {
      taken = taken-more g.T.Taking.taken value members k member c.loop-offset.taken.items c.take_one.new.taken.items within c.index-members-offset.is kept.taken takes.1;
      good = none-more value members k member within c.index-members-offset.is kept.good takes.0;
      called = called-more c.args.first k (called c.args.function.now) (called c.loop-offset.function) (called c.take_one.new.function) kept.called c.in-Ok.ensures.calls;
      stays = c.take_one.ensures.value_stays ∙ kept.stays;
    }
