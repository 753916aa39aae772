use Rattle.std.proofs.Common.{arith}
use Rattle.std.proofs.lemmas.Grind.{common_steps}
use Rattle.qtc_base.proofs.ItemLemmas.{one_more}
use Rattle.qtc_base.proofs.item_list.append_item.Goals as goal

pub returns-in-Ok-clause-parts : goal.returns-in-Ok-clause-parts
returns-in-Ok-clause-parts c = one_more c.args.own.now.items c.args.item.now c.args.parts.now.items c.push.new.self.items _ c.in-Ok.ensures.items (grind (arith, common_steps)) (grind (arith, common_steps))
