use Rattle.std.proofs.Common.{rules}
use Rattle.qtc_claim.proofs.CallLaws.{called_piece, called_no_piece, missing_piece, missing_no_piece}
use Rattle.qtc_tests.proofs.claim.called.work.Goals as goal

pub loop-piece-preserved : goal.loop-piece-preserved
loop-piece-preserved g c = record {
  callable = search rules;
  of = search rules;
  calls = called_piece c.args.counter.now _ _ _ _ c.loop-piece.calls.items c.call_range.new.calls.items _ c.in-Some.ensures.piece c.range.ensures c.loop-piece.invariant.calls c.in_ok-call_range.ensures;
  missing = missing_piece c.args.counter.now _ _ _ _ c.loop-piece.pieces.items c.push.new.self.items c.in-Some.ensures.piece c.in_ok-push.ensures.items c.loop-piece.invariant.missing;
  pieces = search rules;
}

pub returns-clause-calls : goal.returns-clause-calls
returns-clause-calls g c = called_no_piece c.args.counter.now _ _ _ c.loop-piece.calls.items c.in_default.ensures.none c.loop-piece.invariant.calls

pub returns-clause-missing : goal.returns-clause-missing
returns-clause-missing g c = missing_no_piece c.args.counter.now _ _ _ _ c.in_default.ensures.none c.loop-piece.invariant.missing
