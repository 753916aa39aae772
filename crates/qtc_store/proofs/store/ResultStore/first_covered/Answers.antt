use Rattle.std.proofs.Common.{ap, sym, ◌∙◌, arith}
use Rattle.qtc_store.specs.Batches.{least_covered}
use Rattle.qtc_store.proofs.StoreLemmas.{least_met, least_past_end, least_waiting, waiting_apart, waiting_within}
use Rattle.qtc_store.proofs.store.ResultStore.first_covered.Goals.{then-total-eq0-via-then-total-eq0, then-total-eq0-via-else-total-eq0+then-begin-self}
use Rattle.qtc_store.proofs.store.ResultStore.first_covered.Goals as goal

pub returns-then-total-eq0 : goal.returns-then-total-eq0
returns-then-total-eq0 g c =
    let s = c.self.inside in
    elim c.then-total-eq0.branch [
      | then-total-eq0-via-then-total-eq0 w ↦ ap (least_covered c.args.self.now.batches c.args.begin) (sym w.if-total-eq0.true)
      | then-total-eq0-via-else-total-eq0+then-begin-self w ↦ sym (least_past_end s.filter s.front s.pending s.end c.self.invariant c.args.begin c.args.total w.if-begin-self.true) ∙ ap (λ v. least_covered v.batches c.args.begin c.args.total) c.self.view_is
    ]

pub returns-then-begin-self-2 : goal.returns-then-begin-self-2
returns-then-begin-self-2 g c =
    let s = c.self.inside in
    sym (least_met s.filter s.front s.pending s.end c.self.invariant c.args.begin c.args.total c.if-begin-self-2.true (omega arith)) ∙ ap (λ v. least_covered v.batches c.args.begin c.args.total) c.self.view_is

pub first_covered-requires-clause-apart : goal.first_covered-requires-clause-apart
first_covered-requires-clause-apart g c =
    let s = c.self.inside in
    waiting_apart s.filter s.front s.pending s.end c.self.invariant

pub first_covered-requires-clause-bounded : goal.first_covered-requires-clause-bounded
first_covered-requires-clause-bounded g c =
    let s = c.self.inside in
    waiting_within s.filter s.front s.pending s.end c.self.invariant

pub returns : goal.returns
returns g c =
    let s = c.self.inside in
    c.first_covered.ensures ∙ sym (least_waiting s.filter s.front s.pending s.end c.self.invariant c.args.begin c.args.total (omega arith)) ∙ ap (λ v. least_covered v.batches c.args.begin c.args.total) c.self.view_is
