use Rattle.std.proofs.Common.{◌+◌, take, rules}
use Rattle.qtc_run.proofs.SumLemmas.{counted, first-more, named-at, over-limit}
use Rattle.qtc_run.proofs.TextRuns.{passes-with}
use Rattle.qtc_run.specs.Sources.{items_of_all}
use Rattle.qtc_run.proofs.sums.sizes_of.Goals as goal

pub size_of-size-requires-clause-named : goal.size_of-size-requires-clause-named
size_of-size-requires-clause-named c = named-at c.args.loaded.now c.args.jobs.now c.loop-place.place c.index-jobs-place.result c.requires.countable.named c.loop-place-test.true c.index-jobs-place.is

pub loop-place-preserved : goal.loop-place-preserved
loop-place-preserved c =
    let next = counted c.args.loaded.now c.args.jobs.now c.loop-place.place c.index-jobs-place.result c.size_of-size.result c.loop-place.items c.loop-place.bytes c.loop-place-test.true c.index-jobs-place.is c.loop-place.invariant.number c.loop-place.invariant.size c.size_of-size.ensures.size in
    record {
      sizes = search rules;
      number = next.0;
      size = next.1;
      few_items = c.if-items.false;
      few_bytes = c.if-bytes.false;
      first = first-more c.args.loaded.now c.args.jobs.now c.loop-place.place (c.loop-place.items + c.size_of-size.result.items) (c.loop-place.bytes + c.size_of-size.result.bytes) c.loop-place.invariant.first next.0 next.1 c.if-items.false c.if-bytes.false;
    }

pub returns-then-items-clause-refuses : goal.returns-then-items-clause-refuses
returns-then-items-clause-refuses c =
    let next = counted c.args.loaded.now c.args.jobs.now c.loop-place.place c.index-jobs-place.result c.size_of-size.result c.loop-place.items c.loop-place.bytes c.loop-place-test.true c.index-jobs-place.is c.loop-place.invariant.number c.loop-place.invariant.size c.size_of-size.ensures.size in
    passes-with c.args.loaded.now c.args.jobs.now c.loop-place.place (c.loop-place.items + c.size_of-size.result.items) (c.loop-place.bytes + c.size_of-size.result.bytes) c.requires.runnable c.loop-place-test.true
    (over-limit (items_of_all c.args.loaded.now (take (c.loop-place.place + 1) c.args.jobs.now)) (c.loop-place.items + c.size_of-size.result.items) (c.loop-place.bytes + c.size_of-size.result.bytes) next.0 next.1 c.then-items.either)
    c.loop-place.invariant.first next.0 next.1
