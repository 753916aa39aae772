use Rattle.std.proofs.Common.{◌≡◌, ap, subst, ◌∙◌, arith}
use Rattle.qtc_inbox.specs.Draining.{TakesSome, drain_at}
use Rattle.qtc_inbox.proofs.Boards.{ok_from, some_more}
use Rattle.qtc_inbox.proofs.inbox.Inbox.drain_board.Goals as goal

pub overflow_add-count : goal.overflow_add-count
overflow_add-count g c =
    let less = c.loop-count-test.true in
    let few = c.self.invariant.few in
    omega (arith, less, few)

pub loop-count-preserved : goal.loop-count-preserved
loop-count-preserved g c =
    let parts = c.args.self.now in
    let was = c.loop-count.invariant in
    let before = c.loop-count.board in
    let new = c.take_one.new.board in
    let told = ok_from _ c.take_one.result c.in_ok-take_one.field-0 c.in_ok-take_one.was c.take_one.ensures.took in
    let took = subst (TakesSome parts before.place before.pass new.place new.pass) c.if-not-branch.false told in
    let room : c.self.inside.room ≡ parts.line.room = c.self.invariant.room ∙ ap (λ it. it.line.room) c.self.view_is in
    let less = c.loop-count-test.true in
    record {
      board = c.take_one.ensures.board;
      few = omega (arith, less, room);
      some = some_more parts.key.counter.n _ (drain_at parts before.place before.pass) (drain_at parts new.place new.pass) c.loop-count.count took.0 was.some took.1;
    }
