use Rattle.std.proofs.Common.{ap, Bool, length, List, ℕ, subst, ◌∙◌, Global, Vec}
use Rattle.std.specs.Prelude.{is_some, Ok, Err, Result, Some}
use Rattle.rayon.specs.Lists.{filter_by_mask}
use Rattle.qtc_inplace.specs.Conditions.{value_of}
use Rattle.qtc_inplace.specs.Inside.{CallsTogether, taken_of}
use Rattle.qtc_inplace.specs.declared.faults.InPlaceFault.{InPlaceFault}
use Rattle.qtc_inplace.proofs.CountLemmas.{all-calls}
use Rattle.qtc_inplace.proofs.SpreadLemmas.{length-verdicts, verdicts-filter}
use Rattle.qtc_inplace.proofs.in_place.filter_in_place.Goals as goal

pub keep-requires : goal.keep-requires
keep-requires g c =
    let value = value_of g.F.ItemFn.value c.args.functions.now in
    ap length (c.as_slice.ensures.value ∙ c.in-Ok.ensures.whole) ∙ length-verdicts value c.as_slice-members.result.now ∙ ap length c.as_slice-members.ensures.value

pub returns-in-Ok-clause-filtered : goal.returns-in-Ok-clause-filtered
returns-in-Ok-clause-filtered g c =
    let value = value_of g.F.ItemFn.value c.args.functions.now in
    let items = c.args.list.now.items in
    let verdicts = c.as_slice.ensures.value ∙ c.in-Ok.ensures.whole ∙ ap (taken_of (λ member text. Some (is_some text)) value) c.as_slice-members.ensures.value in
    c.keep.ensures ∙ ap (λ (bs : List Bool). filter_by_mask items bs) verdicts ∙ verdicts-filter value items

pub returns-in-Ok-clause-calls : goal.returns-in-Ok-clause-calls
returns-in-Ok-clause-calls g c =
    let called = g.F.ItemFn.called in
    let before = c.args.functions.now in
    let after = c.take_together.new.functions in
    let r : Result (Vec Bool Global) InPlaceFault = Ok c.in-Ok.verdicts in
    all-calls called before after (length c.args.list.now.items) r
    (subst (λ (l : List (List ℕ)). CallsTogether called 0 (length l) before after r) c.as_slice-members.ensures.value c.in-Ok.ensures.calls)

pub returns-in-Err-clause-calls : goal.returns-in-Err-clause-calls
returns-in-Err-clause-calls g c =
    let called = g.F.ItemFn.called in
    let before = c.args.functions.now in
    let after = c.take_together.new.functions in
    let r : Result (Vec Bool Global) InPlaceFault = Err c.in-Err.fault in
    all-calls called before after (length c.args.list.now.items) r
    (subst (λ (l : List (List ℕ)). CallsTogether called 0 (length l) before after r) c.as_slice-members.ensures.value c.in-Err.ensures.calls)
