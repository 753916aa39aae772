use Rattle.std.proofs.Common.{rules, ◌-◌, get_or, slice_get, ap, sym, ◌∙◌, subst}
use Rattle.std.specs.List.{flat_map}
use Rattle.std.proofs.lemmas.List.Sorted.{IsPartitionPoint-from_clause, IsPartitionedBy-leb}
use Rattle.qtc_store.specs.Batches.{values_of}
use Rattle.qtc_store.specs.Inside.{batches_of, AreFirsts}
use Rattle.qtc_store.proofs.FrontLemmas.{is_at, firsts_rise, found_at, found_value, none_found}
use Rattle.qtc_store.proofs.PendingLemmas.{value_read}
use Rattle.qtc_store.proofs.front.Front.get.Goals as goal

pub returns-then-after-eq0 : goal.returns-then-after-eq0
returns-then-after-eq0 g c =
    let value = c.deref.ensures.value in
    let firsts = subst (AreFirsts 0) (sym value) c.requires.firsts in
    let parted = IsPartitionedBy-leb (λ m. m.first) c.deref.result.now c.args.position (firsts_rise 0 c.deref.result.now firsts) in
    let point = IsPartitionPoint-from_clause (is_at c.args.position) c.deref.result.now c.partition_point-after.result c.partition_point-after.ensures.partitioned parted (λ a r q k. search rules) in
    none_found c.args.position c.partition_point-after.result c.deref.result.now firsts point c.partition_point-after.ensures.bound c.if-after-eq0.true
    ∙ ap (λ ms. slice_get (flat_map values_of (batches_of ms)) c.args.position) value

pub overflow_sub-position : goal.overflow_sub-position
overflow_sub-position g c =
    let value = c.deref.ensures.value in
    let firsts = subst (AreFirsts 0) (sym value) c.requires.firsts in
    let parted = IsPartitionedBy-leb (λ m. m.first) c.deref.result.now c.args.position (firsts_rise 0 c.deref.result.now firsts) in
    let point = IsPartitionPoint-from_clause (is_at c.args.position) c.deref.result.now c.partition_point-after.result c.partition_point-after.ensures.partitioned parted (λ a r q k. search rules) in
    let is = c.index-met.ensures ∙ ap (λ ms. get_or ms (c.partition_point-after.result - 1) c.index-met.result.now) (sym value) in
    found_at c.args.position c.partition_point-after.result c.deref.result.now firsts point c.partition_point-after.ensures.bound c.index-met.result.now c.if-after-eq0.false is

pub returns : goal.returns
returns g c =
    let value = c.deref.ensures.value in
    let firsts = subst (AreFirsts 0) (sym value) c.requires.firsts in
    let parted = IsPartitionedBy-leb (λ m. m.first) c.deref.result.now c.args.position (firsts_rise 0 c.deref.result.now firsts) in
    let point = IsPartitionPoint-from_clause (is_at c.args.position) c.deref.result.now c.partition_point-after.result c.partition_point-after.ensures.partitioned parted (λ a r q k. search rules) in
    let is = c.index-met.ensures ∙ ap (λ ms. get_or ms (c.partition_point-after.result - 1) c.index-met.result.now) (sym value) in
    value_read c.as_slice.result.now (c.args.position - c.index-met.result.now.first) c.get.result c.get.ensures.lookup.0 c.get.ensures.lookup.1
    ∙ ap (λ xs. slice_get xs (c.args.position - c.index-met.result.now.first)) c.as_slice.ensures
    ∙ found_value c.args.position c.partition_point-after.result c.deref.result.now firsts point c.partition_point-after.ensures.bound c.index-met.result.now c.if-after-eq0.false is
    ∙ ap (λ ms. slice_get (flat_map values_of (batches_of ms)) c.args.position) value
