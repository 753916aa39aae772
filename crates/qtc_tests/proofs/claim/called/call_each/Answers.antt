use Rattle.std.proofs.Common.{sym, ◌∙◌}
use Rattle.qtc_claim.proofs.CallLaws.{called_by_all, ended_by_all}
use Rattle.qtc_tests.proofs.claim.called.call_each.Goals as goal

pub returns-clause-calls : goal.returns-clause-calls
returns-clause-calls g c =
    let new = c.in_ok-counter.ensures in
    let gathered = c.in_ok-calls.ensures in
    called_by_all c.args.n c.args.workers c.in_ok-counter.counter c.gather_all.new.tally c.in_ok-calls.calls.items new.indexes new.for_workers c.requires.limits.one gathered.of
    (gathered.all ∙ sym c.in_ok-all.all.ok.0 ∙ c.in_ok-all.ensures.len ∙ c.in_ok-counter.seats.ok.0 ∙ new.count)
    gathered.past
    c.end-ended.ensures.claims
    gathered.calls

pub returns-clause-ended : goal.returns-clause-ended
returns-clause-ended g c =
    let new = c.in_ok-counter.ensures in
    let gathered = c.in_ok-calls.ensures in
    c.end-ended.ensures.end.1
    (ended_by_all c.args.n c.args.workers c.in_ok-counter.counter c.gather_all.new.tally new.for_workers c.requires.limits.one gathered.of
    (gathered.all ∙ sym c.in_ok-all.all.ok.0 ∙ c.in_ok-all.ensures.len ∙ c.in_ok-counter.seats.ok.0 ∙ new.count)
    gathered.past
    c.end-ended.ensures.claims
    gathered.missing)
