use Rattle.std.proofs.Common.{rules, refl}
use Rattle.qtc_active.proofs.Steps.{looks}
use Rattle.qtc_active.proofs.Badges.{is_at}
use Rattle.qtc_active.proofs.active_count.ActiveCount.count.Goals as goal

pub load-requires : goal.load-requires
load-requires c =
    let at = is_at c.self.inside c.badge.inside _ _ _ c.self.view_is c.badge.view_is c.badge.invariant c.requires refl in
    (at.table, search rules, looks _ _ _ _ _ _ at.me)
