use Rattle.std.proofs.Common.{sym, ◌∙◌, subst}
use Rattle.qtc_store.specs.Inside.{batches_in}
use Rattle.qtc_store.specs.Stored.{IsFirstResults}
use Rattle.qtc_store.proofs.StoreLemmas.{results_told}
use Rattle.qtc_store.proofs.store.ResultStore.into_results.Goals as goal

pub returns : goal.returns
returns g c =
    let s = c.self.inside in
    let values = c.from_vec.ensures ∙ c.in_ok-values.ensures in
    subst (λ v. IsFirstResults v c.from_vec.result) c.self.view_is (subst (IsFirstResults (record { filter = s.filter; batches = batches_in s.front s.pending })) (sym values) (results_told s.filter s.front s.pending s.end c.self.invariant))
