use Rattle.std.proofs.Common.{◌≡◌, List, ℕ, ◌++◌, ◌∷◌, [], length, ap, sym, subst, ◌∙◌, length-append, arith}
use Rattle.std.specs.Prelude.{IfSome}
use Rattle.std.proofs.lemmas.Grind.{common_steps}
use Rattle.std.proofs.lemmas.List.{length-map}
use Rattle.qtc_base.specs.ItemsInside.{text_in, IsOneMore}
use Rattle.qtc_base.specs.Items.{total_bytes, HasRoom}
use Rattle.qtc_base.specs.Parts.{AreWithin, part_of, parts_of}
use Rattle.qtc_base.proofs.ItemLemmas.{parts-push, total_bytes-push, within-push}
use Rattle.qtc_base.proofs.item_list.Items.push.Goals as goal

pub returns-clause-ok : goal.returns-clause-ok
returns-clause-ok c =
    let s = c.self.inside in
    let text : List ℕ = text_in s.shared s.own.items in
    let taken = c.in_ok-take_over.ensures.ok in
    let own : c.append_item.new.own.items ≡ text ++ c.args.item.now = c.in_ok-append_item.ensures.own ∙ ap (λ t. t ++ c.args.item.now) taken.1 in
    let more : IsOneMore text c.args.item.now s.parts.items c.append_item.new.parts.items = subst (λ t. IsOneMore t c.args.item.now s.parts.items c.append_item.new.parts.items) taken.1 c.in_ok-append_item.ensures.parts in
    ap (λ shared. parts_of (text_in shared c.append_item.new.own.items) c.append_item.new.parts.items) taken.0
    ∙ ap (λ t. parts_of t c.append_item.new.parts.items) own
    ∙ parts-push text c.args.item.now s.parts.items c.append_item.new.parts.items c.self.invariant.within more
    ∙ ap (λ items. items ++ c.args.item.now ∷ []) c.self.view_is

pub invariant_of-self-2 : goal.invariant_of-self-2
invariant_of-self-2 c =
    let s = c.self.inside in
    let text : List ℕ = text_in s.shared s.own.items in
    let taken = c.in_ok-take_over.ensures.ok in
    let own : c.append_item.new.own.items ≡ text ++ c.args.item.now = c.in_ok-append_item.ensures.own ∙ ap (λ t. t ++ c.args.item.now) taken.1 in
    let more : IsOneMore text c.args.item.now s.parts.items c.append_item.new.parts.items = subst (λ t. IsOneMore t c.args.item.now s.parts.items c.append_item.new.parts.items) taken.1 c.in_ok-append_item.ensures.parts in
    let whole : text_in c.take_over.new.shared c.append_item.new.own.items ≡ text ++ c.args.item.now = ap (λ shared. text_in shared c.append_item.new.own.items) taken.0 ∙ own in
    let items : parts_of (text ++ c.args.item.now) c.append_item.new.parts.items ≡ parts_of text s.parts.items ++ c.args.item.now ∷ [] = parts-push text c.args.item.now s.parts.items c.append_item.new.parts.items c.self.invariant.within more in
    let total = ap total_bytes items ∙ total_bytes-push (parts_of text s.parts.items) c.args.item.now in
    let before = c.self.invariant.total_is in
    let count = ap length more.parts ∙ length-append s.parts.items (more.part ∷ []) in
    let long = ap length whole ∙ length-append text c.args.item.now in
    let room : HasRoom c.args.self.now (length c.args.item.now) = c.has_room.ensures.0 (grind (arith, common_steps)) in
    let number = ap length c.self.view_is in
    let bytes = ap total_bytes c.self.view_is in
    let counted = length-map s.parts.items (part_of text) in
    let one = room.item in
    let fits = room.bytes in
    let short = c.self.invariant.short in
    record {
      alone = subst (λ shared. IfSome shared (λ t. c.append_item.new.own.items ≡ [])) (sym taken.0) tt;
      within = subst (λ t. AreWithin t c.append_item.new.parts.items) (sym whole) (within-push text c.args.item.now s.parts.items c.append_item.new.parts.items c.self.invariant.within more);
      total_is = let is = ap (λ t. total_bytes (parts_of t c.append_item.new.parts.items)) whole in omega arith;
      few_items = omega arith;
      few_bytes = omega arith;
      short = omega arith;
    }
