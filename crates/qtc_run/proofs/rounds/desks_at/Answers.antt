use Rattle.std.proofs.Common.{◌≡◌, ◌+◌, ◌≤◌, length, ap, sym, subst, ◌∙◌, arith}
use Rattle.std.specs.Prelude.{All}
use Rattle.std.specs.Vec.Iter.{into_iter_items}
use Rattle.std.proofs.lemmas.List.{length_push}
use Rattle.qtc_run.specs.Rounds.{IsFree}
use Rattle.qtc_run.proofs.Rows.{all-push}
use Rattle.qtc_run.proofs.Seating.{row-ends, row-next, row-over}
use Rattle.qtc_run.proofs.rounds.desks_at.Goals.{in-Some+in_ok-push, in_default}
use Rattle.qtc_run.proofs.rounds.desks_at.Goals as goal

pub loop-preserved : goal.loop-preserved
loop-preserved g c = λ parts rest here.
    let before = c.loop.invariant parts rest here in
    elim c.match-next.branch [
      | in-Some+in_ok-push w ↦
          let both = row-next c.args.count c.loop.counter parts w.in-Some.desk rest (into_iter_items c.loop.bound) (into_iter_items c.next.new.self) c.loop-test.true w.in-Some.ensures.cases.0 before.2 in
          let free = subst (λ parts. IsFree g.F.ItemFn.value g.F.ItemFn.called parts w.into_desk.result) both.0 w.into_desk.ensures in
          rw w.desks-is (
            ap length w.in_ok-push.ensures.items ∙ (length_push c.loop.desks.items w.into_desk.result ∙ ap (λ n. n + 1) before.0),
            subst (λ desks. All (IsFree g.F.ItemFn.value g.F.ItemFn.called parts) desks) (sym w.in_ok-push.ensures.items) (all-push (IsFree g.F.ItemFn.value g.F.ItemFn.called parts) c.loop.desks.items w.into_desk.result before.1 free),
            both.1,
          )
      | in_default w ↦ absurd (row-ends c.args.count c.loop.counter parts rest c.loop.bound.rest.items c.loop-test.true (omega (arith, w.in_default.ensures.cases.0, c.loop.bound.rest.ok.0)) before.2)
    ]

pub returns : goal.returns
returns g c = λ parts rest here.
    let all = c.loop.invariant parts rest here in
    let same : c.loop.counter ≡ c.args.count = omega (arith, c.loop-test.false, c.loop.auto.counter-end) in
    let over : c.args.count ≤ c.loop.counter = omega (arith, same) in
    (all.0 ∙ same, all.1, row-over c.args.count c.loop.counter parts rest (into_iter_items c.loop.bound) over all.2)
