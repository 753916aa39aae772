use Rattle.std.proofs.Common.{ap, sym, ◌∙◌, arith}
use Rattle.std.proofs.lemmas.List.{length-map}
use Rattle.std.specs.Arc.{arc_value}
use Rattle.std.specs.Prelude.{sum_by}
use Rattle.qtc_base.specs.Parts.{part_len, part_of, parts_of}
use Rattle.qtc_base.proofs.ItemLemmas.{keeps_limits, total_bytes-parts}
use Rattle.qtc_base.proofs.item_list.Items.of_parts.Goals as goal

pub total_of-total-requires : goal.total_of-total-requires
total_of-total-requires c =
    let limits = keeps_limits (parts_of (arc_value c.args.text) c.args.parts.items) c.requires.fits in
    let total = total_bytes-parts (arc_value c.args.text) c.args.parts.items c.requires.within in
    let same = ap (sum_by part_len) c.deref.ensures.value in
    let few = limits.1 in
    omega arith

pub invariant_of-result : goal.invariant_of-result
invariant_of-result c =
    let limits = keeps_limits (parts_of (arc_value c.args.text) c.args.parts.items) c.requires.fits in
    let bytes = total_bytes-parts (arc_value c.args.text) c.args.parts.items c.requires.within in
    let total = c.total_of-total.ensures ∙ ap (sum_by part_len) c.deref.ensures.value in
    let count = length-map c.args.parts.items (part_of (arc_value c.args.text)) in
    let number = limits.0 in
    let few = limits.1 in
    let short = c.requires.short in
    record {
      alone = c.new.ensures.items;
      within = c.requires.within;
      total_is = total ∙ sym bytes;
      few_items = omega arith;
      few_bytes = omega arith;
      short = omega arith;
    }
