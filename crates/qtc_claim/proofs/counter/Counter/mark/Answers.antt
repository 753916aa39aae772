use Rattle.std.proofs.Common.{ap, sym, ◌∙◌, rules}
use Rattle.qtc_claim.proofs.Parting.{marks}
use Rattle.qtc_claim.proofs.counter.Counter.mark.Goals as goal

pub split_seat-requires : goal.split_seat-requires
split_seat-requires c =
    let here = sym c.self.view_is in
    (ap (λ l. l.table) (c.requires.of.0 ∙ here), search rules, marks c.self.inside.table.shared.key _ _ c.requires.unmarked)
