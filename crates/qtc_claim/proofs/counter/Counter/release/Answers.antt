use Rattle.std.proofs.Common.{ap, sym, ◌∙◌, rules}
use Rattle.qtc_claim.proofs.Parting.{releases}
use Rattle.qtc_claim.proofs.counter.Counter.release.Goals as goal

pub split_seat-requires : goal.split_seat-requires
split_seat-requires c =
    let here = sym c.self.view_is in
    (ap (λ l. l.table) (c.requires.of.0 ∙ here), search rules, releases c.self.inside.table.shared.key _ _)
