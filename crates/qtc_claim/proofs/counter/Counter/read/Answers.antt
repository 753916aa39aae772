use Rattle.std.proofs.Common.{ap, sym, ◌∙◌, rules}
use Rattle.qtc_claim.proofs.Steps.{reads}
use Rattle.qtc_claim.proofs.Seats.{read_knows, read_settles}
use Rattle.qtc_claim.proofs.counter.Counter.read.Goals as goal

pub load-requires : goal.load-requires
load-requires c =
    let here = sym c.self.view_is in
    let n_is = ap (λ l. l.n) (c.requires.of ∙ here) ∙ sym (ap (λ k. k.n) c.self.invariant.key) in
    let most_is = ap (λ l. l.workers) (c.requires.of ∙ here) ∙ sym (ap (λ k. k.workers) c.self.invariant.key) in
    (ap (λ l. l.table) (c.requires.of ∙ here), search rules, reads c.self.inside.table.shared.key _ _ _ c.requires.slots n_is most_is)

pub returns-clause-read : goal.returns-clause-read
returns-clause-read c = read_knows c.self.inside _ c.load.result c.args.seat.now c.self.invariant c.self.view_is c.requires.of c.load.ensures.2.1.1

pub returns-clause-settled : goal.returns-clause-settled
returns-clause-settled c = read_settles c.self.inside _ c.load.result c.args.seat.now c.self.invariant c.self.view_is c.requires.of c.load.ensures.2.1.1

pub returns-clause-books : goal.returns-clause-books
returns-clause-books c = c.load.ensures.2.1.1.right.books
