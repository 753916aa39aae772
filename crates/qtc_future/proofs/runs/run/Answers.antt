use Rattle.std.proofs.Common.{◌≡◌, List, [], ◌∷◌, ◌++◌, map, ap, sym, ◌∙◌}
use Rattle.std.proofs.lemmas.List.{map-id, map-append}
use Rattle.std.proofs.lemmas.Iterator.Adapters.{YieldsList-from_vec}
use Rattle.std.proofs.lemmas.Iterator.Consumers.{YieldsList-end}
use Rattle.qtc_future.specs.Future.{Future, new_future}
use Rattle.qtc_future.specs.Steps.{step}
use Rattle.qtc_future.specs.Runs.{run_of, told_of, with_asked}
use Rattle.qtc_future.specs.declared.requests.Asked.{Asked}
use Rattle.qtc_future.proofs.Appending.{fold-push}
use Rattle.qtc_future.proofs.Modes.{step-filter}
use Rattle.qtc_future.proofs.runs.run.Goals as goal

run-push : {V : Type 0} (future : Future V) (calls : List (Asked V)) (asked : Asked V) → run_of future (calls ++ asked ∷ []) ≡ with_asked (run_of future calls) asked
run-push future calls asked = fold-push with_asked (record { future = future; told = [] }) calls asked

pub loop-asked-preserved : goal.loop-asked-preserved
loop-asked-preserved g c =
    let start = new_future c.args.filter c.args.cancel_after c.args.suspend_after in
    let asked = c.in-Some.asked in
    let push = sym (run-push start c.loop-asked.yielded asked) in
    let future = c.loop-asked.invariant.future in
    record {
      filter = ap (λ f. f.filter) c.in_ok-reply.ensures.ok.future ∙ step-filter c.loop-asked.core asked.caller asked.request ∙ c.loop-asked.invariant.filter;
      future = c.in_ok-reply.ensures.ok.future ∙ ap (λ f. (step f asked.caller asked.request).future) future ∙ ap (λ r. r.future) push;
      told =
          ap (map told_of) c.in-Ok.ensures.ok
          ∙ map-append told_of c.loop-asked.answers (c.in_ok-reply.reply ∷ [])
          ∙ ap (λ ts. ts ++ told_of c.in_ok-reply.reply ∷ []) c.loop-asked.invariant.told
          ∙ ap (λ t. (run_of start c.loop-asked.yielded).told ++ t ∷ []) (c.in_ok-reply.ensures.ok.answer ∙ ap (λ f. (step f asked.caller asked.request).told) future)
          ∙ ap (λ r. r.told) push;
    }

pub returns-clause-future : goal.returns-clause-future
returns-clause-future g c =
    let gives = c.into_iter-asked-iterator.ensures.into_iter_gives in
    let list = YieldsList-from_vec c.args.calls.items gives.0 (gives.1 ∙ c.args.calls.ok.0) in
    let end = YieldsList-end list c.loop-asked.yielded c.loop-asked.asked-iterator c.loop-asked.yielded_by c.next.result c.next.new.self c.in-None.is c.next.ensures.steps in
    let all : c.loop-asked.yielded ≡ c.args.calls.items = sym (map-id c.loop-asked.yielded) ∙ end.0 in
    c.loop-asked.invariant.future ∙ ap (λ xs. (run_of (new_future c.args.filter c.args.cancel_after c.args.suspend_after) xs).future) all

pub returns-clause-told : goal.returns-clause-told
returns-clause-told g c =
    let gives = c.into_iter-asked-iterator.ensures.into_iter_gives in
    let list = YieldsList-from_vec c.args.calls.items gives.0 (gives.1 ∙ c.args.calls.ok.0) in
    let end = YieldsList-end list c.loop-asked.yielded c.loop-asked.asked-iterator c.loop-asked.yielded_by c.next.result c.next.new.self c.in-None.is c.next.ensures.steps in
    let all : c.loop-asked.yielded ≡ c.args.calls.items = sym (map-id c.loop-asked.yielded) ∙ end.0 in
    c.loop-asked.invariant.told ∙ ap (λ xs. (run_of (new_future c.args.filter c.args.cancel_after c.args.suspend_after) xs).told) all
