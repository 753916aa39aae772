use Rattle.std.proofs.Common.{rules, ap, sym, ◌∙◌, []}
use Rattle.qtc_lock.specs.Rule.{idle}
use Rattle.qtc_lock.proofs.Steps.{tries}
use Rattle.qtc_lock.proofs.lock.KeyLock.wait.Goals as goal

pub swap-requires : goal.swap-requires
swap-requires g c =
    let is = c.loop.invariant.idle in let here = sym c.self.view_is in
    (is.table ∙ ap (λ l. l.table) here, search rules, tries g.S.Keyed.fits _ _ _ _ (is.me ∙ ap (λ l. (idle l.key, [])) here))
