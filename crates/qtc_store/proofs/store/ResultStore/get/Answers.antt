use Rattle.std.proofs.Common.{ap, ◌∙◌}
use Rattle.qtc_store.specs.Stored.{value_at}
use Rattle.qtc_store.proofs.StoreLemmas.{none_told, value_told, waiting_apart, waiting_few, waiting_told}
use Rattle.qtc_store.proofs.store.ResultStore.get.Goals as goal

pub returns-then-index-self : goal.returns-then-index-self
returns-then-index-self g c =
    let s = c.self.inside in
    c.get.ensures ∙ value_told s.filter s.front s.pending s.end c.self.invariant c.args.index c.if-index-self.true ∙ ap (λ v. value_at v c.args.index) c.self.view_is

pub returns-then-self : goal.returns-then-self
returns-then-self g c =
    let s = c.self.inside in
    none_told s.filter s.front s.pending s.end c.self.invariant c.args.index c.if-index-self.false c.if-self.true ∙ ap (λ v. value_at v c.args.index) c.self.view_is

pub get-requires-2-clause-apart : goal.get-requires-2-clause-apart
get-requires-2-clause-apart g c =
    let s = c.self.inside in
    waiting_apart s.filter s.front s.pending s.end c.self.invariant

pub get-requires-2-clause-few : goal.get-requires-2-clause-few
get-requires-2-clause-few g c =
    let s = c.self.inside in
    waiting_few s.filter s.front s.pending s.end c.self.invariant

pub returns : goal.returns
returns g c =
    let s = c.self.inside in
    c.get-2.ensures ∙ waiting_told s.filter s.front s.pending s.end c.self.invariant c.args.index c.if-index-self.false c.if-self.false ∙ ap (λ v. value_at v c.args.index) c.self.view_is
