use Rattle.std.proofs.Common.{ap, ◌∙◌, subst}
use Rattle.qtc_store.specs.Stored.{IsFirstGap, count_of}
use Rattle.qtc_store.proofs.StoreLemmas.{count_told, gap_told}
use Rattle.qtc_store.proofs.store.ResultStore.count.Goals as goal

pub returns-clause-count : goal.returns-clause-count
returns-clause-count g c =
    let s = c.self.inside in
    count_told s.filter s.front s.pending s.end c.self.invariant ∙ ap count_of c.self.view_is

pub returns-clause-first_gap : goal.returns-clause-first_gap
returns-clause-first_gap g c =
    let s = c.self.inside in
    subst (λ v. IsFirstGap v s.front.count) c.self.view_is (gap_told s.filter s.front s.pending s.end c.self.invariant)
