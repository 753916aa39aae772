use Rattle.std.proofs.Common.{ap, ◌∙◌, ◌++◌, ◌+◌}
use Rattle.qtc_claim.specs.Claims.{added}
use Rattle.qtc_claim.specs.Laws.{added_for}
use Rattle.qtc_claim.proofs.CallLaws.{called_worker, missing_worker}
use Rattle.qtc_tests.proofs.claim.called.gather_one.Goals as goal

pub returns-clause-calls : goal.returns-clause-calls
returns-clause-calls c =
    called_worker c.args.counter.now.n c.args.tally.now.workers c.gather_pieces.new.tally.workers c.args.worked.seat.worker c.args.calls.now.items c.extend_from_slice.new.self.items c.args.worked.calls.items
    (c.gather_pieces.ensures.same.1 ∙ ap (λ t. t.workers) c.gather_seat.ensures.workers)
    (c.in_ok-extend_from_slice.ensures.items ∙ ap (λ further. c.args.calls.now.items ++ further) c.deref.ensures.value)
    c.requires.so_far
    c.requires.calls

pub returns-clause-missing : goal.returns-clause-missing
returns-clause-missing c =
    missing_worker c.args.counter.now.n c.args.tally.now.workers c.gather_pieces.new.tally.workers c.args.worked.seat.worker (added c.args.tally.now.pieces) (added_for c.args.worked.pieces.items) (added c.gather_pieces.new.tally.pieces)
    (c.gather_pieces.ensures.same.1 ∙ ap (λ t. t.workers) c.gather_seat.ensures.workers)
    (c.gather_pieces.ensures.added ∙ ap (λ t. added t.pieces + added_for c.args.worked.pieces.items) c.gather_seat.ensures.workers)
    c.requires.none_yet
    c.requires.missing
