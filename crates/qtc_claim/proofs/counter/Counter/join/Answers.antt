use Rattle.std.proofs.Common.{ap, sym, ◌∙◌, rules}
use Rattle.qtc_claim.proofs.Parting.{gathers}
use Rattle.qtc_claim.proofs.counter.Counter.join.Goals as goal

pub join_seat-requires : goal.join_seat-requires
join_seat-requires c =
    let here = sym c.self.view_is in (
      ap (λ l. l.table) (c.requires.of.0 ∙ here),
      ap (λ l. l.table) (c.requires.other.0 ∙ here),
      c.requires.other.1,
      search rules,
      gathers c.self.inside.table.shared.key _ _ _ _ c.requires.other.2,
    )
