use Rattle.std.proofs.Common.{◌≡◌, ◌<◌, None, length, get_or, set, sym, subst, ◌∙◌}
use Rattle.std.proofs.lemmas.List.{get_or_default}
use Rattle.qtc_chain.specs.Arrivals.{IsArrived}
use Rattle.qtc_chain.proofs.Missing.{arrives}
use Rattle.qtc_chain.proofs.all_state.AllState.arrive.Goals as goal
use Rattle.qtc_chain.proofs.all_state.AllState.arrive.Goals.{then-self-eq0, else-self-eq0}

pub returns : goal.returns
returns g c =
    let items = c.self.inside.values.items in
    let index = c.args.index in
    let new = set items index c.replace-before.new.self in
    let view : c.args.self.now ≡ items = cc in
    let below : index < length items = subst (λ items. index < length items) view c.requires in
    let none : get_or items index None ≡ None =
    get_or_default _ _ None c.index_mut-slot.result.now below
    ∙ sym c.index_mut-slot.ensures.value ∙ sym c.replace-before.ensures.value ∙ c.in-None.is in
    let both = arrives c.args.self.now items index c.args.value c.replace-before.new.self
    c.self.inside.missing view c.replace-before.ensures.after below none c.self.invariant in
    elim c.if-self-eq0.branch [
      | then-self-eq0 w ↦ subst (IsArrived index c.args.value c.args.self.now new) (sym w.result-is) (both.0 w.if-self-eq0.true)
      | else-self-eq0 w ↦ subst (IsArrived index c.args.value c.args.self.now new) (sym w.result-is) (both.1 w.if-self-eq0.false)
    ]
