use Rattle.std.proofs.Common.{ap, sym, ◌∙◌, ◌∷◌, Some}
use Rattle.atomic_table.specs.Table.{rest}
use Rattle.qtc_lock.proofs.lock.KeyLock.gain.Goals as goal

pub exchange-requires : goal.exchange-requires
exchange-requires g c =
    let t = c.requires.me.value in
    (c.requires.table ∙ sym (ap (λ l. l.table) c.self.view_is), (Some t.0, t.1 ∙ ap (λ l. (0, Some t.0) ∷ rest l) (sym t.1)))
