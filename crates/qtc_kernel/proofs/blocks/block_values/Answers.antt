use Rattle.std.proofs.Common.{◌≡◌, ◌≤◌, Some, ap, sym, ◌∙◌, refl, subst, append-nil, arith, length}
use Rattle.std.specs.Prelude.{slice_get, option_copied, ◌++◌}
use Rattle.qtc_ops.specs.ItemValue.{ItemValue, bad}
use Rattle.qtc_kernel.specs.Inside.{IsTaken}
use Rattle.qtc_kernel.specs.Workload.{item_at, texts_in, workload}
use Rattle.qtc_kernel.proofs.Kept.{texts-empty}
use Rattle.qtc_kernel.proofs.OneBlock.{calls-more, front-at, good-all, good-bad, good-more, good-none, indexes-none, item-is, some-at, texts-more}
use Rattle.qtc_kernel.proofs.blocks.block_values.Goals as goal

pub loop-index-init : goal.loop-index-init
loop-index-init g c =
    let work = workload c.args.items.now (g.F.ItemFn.value c.args.function.now) in
    let ordered = c.args.block.ordered in
    let within : c.args.block.begin ≤ length c.args.items.now = omega arith in
    record {
      kept = c.in_ok-values.ensures.items ∙ sym (texts-empty work c.args.block.begin within);
      good = good-none work c.args.block.begin;
      called = sym (append-nil (g.F.ItemFn.called c.args.function.now)) ∙ ap (λ xs. g.F.ItemFn.called c.args.function.now ++ xs) (sym (indexes-none c.args.block.begin));
      stays = refl;
    }

pub unwrap-item-requires : goal.unwrap-item-requires
unwrap-item-requires g c = some-at c.args.items.now c.loop-index.index c.get.result (omega arith) c.get.ensures

pub returns-in-Err-Bad-clause-block : goal.returns-in-Err-Bad-clause-block
returns-in-Err-Bad-clause-block g c =
    let kept = c.loop-index.invariant in
    let value = g.F.ItemFn.value c.args.function.now in
    let work = workload c.args.items.now value in
    let at : slice_get c.args.items.now c.loop-index.index ≡ Some c.unwrap-item.result.now = sym c.get.ensures ∙ ap option_copied c.unwrap-item.ensures in
    let item = item-is work c.loop-index.index c.unwrap-item.result.now at in
    let is : value (item_at work c.loop-index.index) ≡ bad = ap value item ∙ ap (λ f. f c.unwrap-item.result.now) (sym kept.stays) ∙ (rw c.in-Err-Bad.field-0-is at c.in-Err-Bad.ensures.takes) in
    good-bad work c.args.block.begin c.loop-index.index c.args.block.end (omega arith) (omega arith) kept.good is

pub returns-in-Err-Bad-clause-called : goal.returns-in-Err-Bad-clause-called
returns-in-Err-Bad-clause-called g c =
    let kept = c.loop-index.invariant in
    calls-more (g.F.ItemFn.called c.args.function.now) (g.F.ItemFn.called c.loop-index.function) (g.F.ItemFn.called c.take_value.new.function) c.args.block.begin c.loop-index.index (omega arith) kept.called
    (rw c.in-Err-Bad.field-0-is at c.in-Err-Bad.ensures.calls)

pub returns-in-Err-Memory-clause-front : goal.returns-in-Err-Memory-clause-front
returns-in-Err-Memory-clause-front g c =
    let kept = c.loop-index.invariant in
    let work = workload c.args.items.now (g.F.ItemFn.value c.args.function.now) in
    front-at work c.args.block.begin c.loop-index.index c.args.block.end (g.F.ItemFn.called c.args.function.now) (g.F.ItemFn.called c.loop-index.function) (g.F.ItemFn.called c.take_value.new.function)
    (omega arith) (omega arith) kept.good kept.called (rw c.in-Err-Memory.field-0-is at c.in-Err-Memory.ensures.calls)

pub loop-index-preserved : goal.loop-index-preserved
loop-index-preserved g c =
    let kept = c.loop-index.invariant in
    let value = g.F.ItemFn.value c.args.function.now in
    let work = workload c.args.items.now value in
    let index = c.loop-index.index in
    let begin = c.args.block.begin in
    let at : slice_get c.args.items.now index ≡ Some c.unwrap-item.result.now = sym c.get.ensures ∙ ap option_copied c.unwrap-item.ensures in
    let item = item-is work index c.unwrap-item.result.now at in
    let same : g.F.ItemFn.value c.loop-index.function c.unwrap-item.result.now ≡ value (item_at work index) = ap (λ f. f c.unwrap-item.result.now) kept.stays ∙ ap value (sym item) in
    let taken : IsTaken (value (item_at work index)) c.loop-index.values.items c.take_value.new.values.items = subst (λ (v : ItemValue). IsTaken v c.loop-index.values.items c.take_value.new.values.items) same c.in-Ok.ensures.takes in
    record {
      kept = texts-more work begin index c.loop-index.values.items c.take_value.new.values.items (omega arith) (omega arith) kept.kept taken;
      good = good-more work begin index c.loop-index.values.items c.take_value.new.values.items kept.good taken;
      called = calls-more (g.F.ItemFn.called c.args.function.now) (g.F.ItemFn.called c.loop-index.function) (g.F.ItemFn.called c.take_value.new.function) begin index (omega arith) kept.called c.in-Ok.ensures.calls;
      stays = c.take_value.ensures.value_stays ∙ kept.stays;
    }

pub returns-clause-block : goal.returns-clause-block
returns-clause-block g c =
    let kept = c.loop-index.invariant in
    let work = workload c.args.items.now (g.F.ItemFn.value c.args.function.now) in
    let end : c.loop-index.index ≡ c.args.block.end = omega arith in (
      c.from_vec.ensures ∙ kept.kept ∙ ap (λ e. texts_in work (c.args.block.begin, e)) end,
      good-all work c.args.block.begin c.args.block.end c.args.block.ordered (λ i low high. kept.good i low (omega arith)),
    )
