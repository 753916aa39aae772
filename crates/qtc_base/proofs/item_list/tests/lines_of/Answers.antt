use Rattle.std.proofs.Common.{◌≡◌, ◌<◌, List, ℕ, ap, length, sym, ⊎_elim, ◌∙◌, arith}
use Rattle.std.specs.Arc.{arc_value}
use Rattle.qtc_base.specs.Items.{total_bytes}
use Rattle.qtc_base.specs.Limits.{most_bytes, most_items}
use Rattle.qtc_base.specs.Lines.{lines}
use Rattle.qtc_base.specs.Parts.{parts_of}
use Rattle.qtc_base.proofs.LineLemmas.{lines_short}
use Rattle.qtc_base.proofs.item_list.tests.lines_of.Goals as goal

pub of_parts-requires-clause-fits : goal.of_parts-requires-clause-fits
of_parts-requires-clause-fits c passes =
    let text : List ℕ = arc_value c.args.text.now in
    let parts = c.in_ok-parts.parts.items in
    let is : c.as_slice.result.now ≡ text = c.as_slice.ensures ∙ c.deref.ensures in
    let same : parts_of (arc_value c.in_ok-shared.shared) parts ≡ lines text = ap (λ (t : List ℕ). parts_of t parts) (c.in_ok-shared.ensures ∙ sym is) ∙ c.in_ok-parts.ensures.lines ∙ ap lines is in
    let short = lines_short text in
    let number_short = short.0 in
    let bytes_short = short.1 in
    let number = ap length same in
    let bytes = ap total_bytes same in
    let few = c.requires in
    ⊎_elim (λ (more : most_items < length (parts_of (arc_value c.in_ok-shared.shared) parts)). absurd (omega arith)) (λ (more : most_bytes < total_bytes (parts_of (arc_value c.in_ok-shared.shared) parts)). absurd (omega arith)) passes
