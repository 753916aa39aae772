use Rattle.std.proofs.Common.{◌≡◌, ◌≤◌, ◌+◌, ◌∷◌, [], All, arith, ap, ◌∙◌, sym, subst, Some, length, length-append, option_to_list}
use Rattle.std.proofs.lemmas.List.Elements.{All-push}
use Rattle.qtc_claim.specs.Claims.{Worker}
use Rattle.qtc_claim.specs.Laws.{AreCalls, NoneMissing, added_for}
use Rattle.qtc_claim.proofs.CallLaws.{popped_ok, popped_left}
use Rattle.qtc_tests.proofs.claim.called.gather_all.Goals as goal

pub gather_one-requires-clause-calls : goal.gather_one-requires-clause-calls
gather_one-requires-clause-calls c =
    popped_ok (λ worked. AreCalls c.args.counter.now.n worked.seat.worker.claims worked.calls.items) c.loop-told.all.items c.pop.new.self.items c.pop.result c.in_ok-told.field-0
    c.pop.ensures.items c.loop-told.invariant.calls_left (c.in-Some.is ∙ ap Some c.in_ok-told.was)

pub loop-told-preserved : goal.loop-told-preserved
loop-told-preserved c =
    let n = c.args.counter.now.n in
    let is = c.loop-told.invariant in
    let all = c.loop-told.all.items in
    let left = c.pop.new.self.items in
    let taken = c.in-Some.is ∙ ap Some c.in_ok-told.was in
    let past = popped_ok (λ worked. n ≤ worked.seat.worker.seen) all left c.pop.result c.in_ok-told.field-0 c.pop.ensures.items is.past_left taken in
    let grown : length c.gather_one.new.tally.workers ≡ length c.loop-told.tally.workers + 1 = ap length c.gather_one.ensures.workers ∙ length-append c.loop-told.tally.workers (c.in_ok-told.field-0.seat.worker ∷ []) in
    let shrunk : length all ≡ length left + 1 = ap length c.pop.ensures.items ∙ length-append left (option_to_list c.pop.result) ∙ ap (λ r. length left + length (option_to_list r)) c.in-Some.is in
    let count = is.count in
    let seen = All-push (λ (worker : Worker). n ≤ worker.seen) c.loop-told.tally.workers c.in_ok-told.field-0.seat.worker is.past past in
    record {
      of = c.gather_one.ensures.of;
      count = omega arith;
      past = subst (λ ws. All (λ (worker : Worker). n ≤ worker.seen) ws) (sym c.gather_one.ensures.workers) seen;
      missing = c.in_ok-gather_one.ensures.missing;
      missing_left = popped_left (λ w. NoneMissing n w.seat.worker.claims (added_for w.pieces.items)) all left c.pop.result c.pop.ensures.items is.missing_left;
      calls = c.in_ok-gather_one.ensures.calls;
      seats_left = popped_left (λ worked. worked.seat.of ≡ c.args.counter.now) all left c.pop.result c.pop.ensures.items is.seats_left;
      past_left = popped_left (λ worked. n ≤ worked.seat.worker.seen) all left c.pop.result c.pop.ensures.items is.past_left;
      calls_left = popped_left (λ worked. AreCalls n worked.seat.worker.claims worked.calls.items) all left c.pop.result c.pop.ensures.items is.calls_left;
      pieces_left = popped_left (λ worked. All (λ piece. piece.of ≡ c.args.counter.now) worked.pieces.items) all left c.pop.result c.pop.ensures.items is.pieces_left;
    }
