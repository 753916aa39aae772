use Rattle.std.proofs.Common.{rules}
use Rattle.qtc_active.proofs.Steps.{enters}
use Rattle.qtc_active.proofs.Badges.{is_at}
use Rattle.qtc_active.proofs.active_count.ActiveCount.enter.Goals as goal

pub fetch_add-requires : goal.fetch_add-requires
fetch_add-requires c =
    let at = is_at c.self.inside c.badge.inside _ _ _ c.self.view_is c.badge.view_is c.badge.invariant c.requires.of c.requires.out in
    (at.table, search rules, enters _ _ _ _ c.self.invariant.fits _ at.me)
