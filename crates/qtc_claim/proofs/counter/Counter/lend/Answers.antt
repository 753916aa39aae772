use Rattle.std.proofs.Common.{ap, sym, ◌∙◌, rules}
use Rattle.qtc_claim.proofs.Parting.{lends}
use Rattle.qtc_claim.proofs.counter.Counter.lend.Goals as goal

pub split_seat-requires : goal.split_seat-requires
split_seat-requires g c =
    let here = sym c.self.view_is in
    (ap (λ l. l.table) (c.requires.of.0 ∙ here), search rules, lends c.self.inside.table.shared.key _ _ _ c.requires.one c.requires.home)
