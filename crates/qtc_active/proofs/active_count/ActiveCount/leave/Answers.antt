use Rattle.std.proofs.Common.{rules}
use Rattle.qtc_active.proofs.Steps.{leaves}
use Rattle.qtc_active.proofs.Badges.{is_at}
use Rattle.qtc_active.proofs.active_count.ActiveCount.leave.Goals as goal

pub fetch_sub-requires : goal.fetch_sub-requires
fetch_sub-requires c =
    let at = is_at c.self.inside c.badge.inside _ _ _ c.self.view_is c.badge.view_is c.badge.invariant c.requires.of c.requires.inside in
    (at.table, search rules, leaves _ _ _ _ c.self.invariant.fits _ at.me)
