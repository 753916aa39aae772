use Rattle.std.proofs.Common.{◌≡◌, ap, sym, ◌∙◌, subst, true, false, All}
use Rattle.std.proofs.lemmas.List.{map-id}
use Rattle.std.proofs.lemmas.Iterator.Adapters.{YieldsList-from_vec}
use Rattle.std.proofs.lemmas.Iterator.Consumers.{YieldsList-end}
use Rattle.qtc_store.specs.Batches.{in_order}
use Rattle.qtc_store.specs.Stored.{value_at}
use Rattle.qtc_store.specs.Adds.{accepted_of, offered, Fits, ShowsTaken}
use Rattle.qtc_store.proofs.Arrival.{results_arrived}
use Rattle.qtc_store.proofs.Offers.{offered_accepted, accepted_of-push}
use Rattle.qtc_store.proofs.Taken.{shows_taken}
use Rattle.qtc_store.proofs.store.ResultStore.from_additions.Goals as goal

pub loop-addition-preserved : goal.loop-addition-preserved
loop-addition-preserved g c =
    c.in_ok-offer.ensures.ok ∙ ap (λ s. offered s c.in-Some.addition) c.loop-addition.invariant ∙ offered_accepted c.args.filter (accepted_of c.loop-addition.yielded) c.in-Some.addition ∙ ap (λ xs. record { filter = c.args.filter; batches = in_order xs }) (sym (accepted_of-push c.loop-addition.yielded c.in-Some.addition))

pub returns-clause-results : goal.returns-clause-results
returns-clause-results g c =
    let gives = c.into_iter-addition-iterator.ensures.into_iter_gives in
    let list = YieldsList-from_vec c.args.additions.items gives.0 (gives.1 ∙ c.args.additions.ok.0) in
    let end = YieldsList-end list c.loop-addition.yielded c.loop-addition.addition-iterator c.loop-addition.yielded_by c.next.result c.next.new.self c.in-None.is c.next.ensures.steps in
    let all : c.loop-addition.yielded ≡ c.args.additions.items = sym (map-id c.loop-addition.yielded) ∙ end.0 in
    λ plain index. ap (λ s. value_at s index) c.loop-addition.invariant ∙ ap (λ f. value_at (record { filter = f; batches = in_order (accepted_of c.loop-addition.yielded) }) index) plain ∙ ap (λ xs. value_at (record { filter = false; batches = in_order (accepted_of xs) }) index) all ∙ results_arrived c.args.additions.items (subst (λ f. All (Fits f) c.args.additions.items) plain c.requires) index

pub returns-clause-shown : goal.returns-clause-shown
returns-clause-shown g c =
    let gives = c.into_iter-addition-iterator.ensures.into_iter_gives in
    let list = YieldsList-from_vec c.args.additions.items gives.0 (gives.1 ∙ c.args.additions.ok.0) in
    let end = YieldsList-end list c.loop-addition.yielded c.loop-addition.addition-iterator c.loop-addition.yielded_by c.next.result c.next.new.self c.in-None.is c.next.ensures.steps in
    let all : c.loop-addition.yielded ≡ c.args.additions.items = sym (map-id c.loop-addition.yielded) ∙ end.0 in
    λ filtered. subst (λ s. ShowsTaken s (accepted_of c.args.additions.items)) (sym (c.loop-addition.invariant ∙ ap (λ f. record { filter = f; batches = in_order (accepted_of c.loop-addition.yielded) }) filtered ∙ ap (λ xs. record { filter = true; batches = in_order (accepted_of xs) }) all)) (shows_taken c.args.additions.items)
