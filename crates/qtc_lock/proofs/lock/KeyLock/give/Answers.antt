use Rattle.std.proofs.Common.{rules, ap, sym, subst, ◌∙◌, ◌∷◌, [], Some}
use Rattle.atomic_table.specs.Table.{rest}
use Rattle.qtc_lock.specs.Rule.{holding}
use Rattle.qtc_lock.proofs.Steps.{puts}
use Rattle.qtc_lock.proofs.lock.KeyLock.give.Goals as goal

pub store-requires : goal.store-requires
store-requires g c =
    let key = sym (ap (λ l. l.key) c.self.view_is) in
    let me = c.exchange-out.ensures.3 ∙ ap (λ m. (m.0, (0, Some c.args.value) ∷ rest m.1)) c.requires.seat.me ∙ ap (λ k. (holding k, (0, Some c.args.value) ∷ [])) key in
    (search rules, search rules, puts g.S.Keyed.fits _ _ _ _ c.args.value me (subst (λ k. g.S.Keyed.fits k c.args.value) key c.requires.fits))
