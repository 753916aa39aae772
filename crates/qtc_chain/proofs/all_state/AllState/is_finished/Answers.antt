use Rattle.std.proofs.Common.{◌≡◌, eq-eqb, eqb-true, count_by, is_none, sym, ◌∙◌}
use Rattle.qtc_chain.proofs.Missing.{all_there, none_missing}
use Rattle.qtc_chain.proofs.all_state.AllState.is_finished.Goals as goal

pub returns : goal.returns
returns g c =
    let missing : c.self.inside.missing ≡ count_by is_none c.args.self.now = cc in (
      (λ zero. none_missing c.args.self.now (sym missing ∙ eqb-true _ _ zero)),
      (λ all. eq-eqb _ _ (missing ∙ all_there c.args.self.now all)),
    )
