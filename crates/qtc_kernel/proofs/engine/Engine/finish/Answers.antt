use Rattle.std.proofs.Common.{◌≡◌, ◌∷◌, ◌++◌, [], ℕ, List, IfSome, false, ap, length, sym, subst, arith, ◌∙◌}
use Rattle.std.proofs.lemmas.List.{length-map}
use Rattle.std.proofs.lemmas.List.Elements.{All-pop}
use Rattle.qtc_shared.specs.Passes.{PassState}
use Rattle.qtc_kernel.specs.EngineParts.{DeskState, FitTogether, HasBoard, IsDesk, work_of}
use Rattle.qtc_kernel.specs.Endings.{functions_at}
use Rattle.qtc_kernel.specs.Runs.{times_called}
use Rattle.qtc_kernel.specs.WorkedOut.{AreContinued, IsWorkedOut, calls_of}
use Rattle.qtc_kernel.proofs.Boards.{ok_from}
use Rattle.qtc_kernel.proofs.Opening.{popped_length}
use Rattle.qtc_kernel.proofs.Returning.{handed_back, look_canceled, none_wanted}
use Rattle.qtc_kernel.proofs.Settling.{calls_turned, ended_or, worked_out}
use Rattle.std.proofs.lemmas.Bool.{false≢true}
use Rattle.qtc_kernel.proofs.engine.Engine.finish.Goals as goal
use Rattle.qtc_kernel.proofs.engine.Engine.finish.Goals.{then-has_ended, else-has_ended}

pub unwrap-first-requires : goal.unwrap-first-requires
unwrap-first-requires g c =
    let fits = subst (FitTogether g.F.ItemFn.value) c.self.view_is c.self.invariant.parts in
    c.pop.ensures.variant.1 (omega (arith, c.requires.desks.count, fits.limits.one))

pub work_off-requires-clause-first : goal.work_off-requires-clause-first
work_off-requires-clause-first g c κs within =
    let P = IsDesk g.F.ItemFn.value g.F.ItemFn.called c.args.self.now in
    subst (λ o. IfSome o P) c.unwrap-first.ensures (All-pop P c.args.desks.items c.pop.new.self.items c.pop.result c.pop.ensures.items c.requires.desks.each).1

pub work_off-requires-clause-out : goal.work_off-requires-clause-out
work_off-requires-clause-out g c κs within =
    let P : DeskState g.row.F.Denot → Type 0 = λ desk. desk.badge.is_in ≡ false in
    subst (λ o. IfSome o P) c.unwrap-first.ensures (All-pop P c.args.desks.items c.pop.new.self.items c.pop.result c.pop.ensures.items c.requires.out).1

pub work_off-requires-clause-others : goal.work_off-requires-clause-others
work_off-requires-clause-others g c κs within =
    (All-pop (IsDesk g.F.ItemFn.value g.F.ItemFn.called c.args.self.now) c.args.desks.items c.pop.new.self.items c.pop.result c.pop.ensures.items c.requires.desks.each).0

pub prove-unreachable-requires : goal.prove-unreachable-requires
prove-unreachable-requires g c =
    let value = g.F.ItemFn.value in
    let called = g.F.ItemFn.called in
    let parts = c.args.self.now in
    let fits = subst (FitTogether value) c.self.view_is c.self.invariant.parts in
    let has = subst HasBoard c.self.view_is c.self.invariant.plain in
    let first = c.work_off.new.first in
    let others = c.work_off.new.others.items in
    let calls = c.in_ok-calls.calls in
    let long = popped_length c.args.desks.items c.pop.new.self.items c.pop.result c.unwrap-first.result c.pop.ensures.items c.unwrap-first.ensures in
    let same : length others ≡ length c.pop.new.self.items = sym (length-map others (λ desk. desk.function)) ∙ ap length c.work_off.ensures.functions ∙ length-map c.pop.new.self.items (λ desk. desk.function) in
    let count : length (first ∷ others) ≡ parts.counter.workers = omega (arith, long, same, c.requires.desks.count) in
    let are = ok_from _ c.calls_of.result calls c.in_ok-calls.was c.calls_of.ensures in
    let look = c.is_canceled-is_canceled.ensures in
    let pass = c.settle-pass.result.pass in
    elim c.if-has_ended.branch [
      | then-has_ended w ↦ absurd (false≢true (sym c.if-prove.true ∙ w.prove-is ∙ w.if-has_ended.true))
      | else-has_ended w ↦
          ended_or value called parts fits has first others pass.known c.settle-pass.result.has_ended c.settle-pass.ensures.settled count
          c.work_off.ensures.first c.work_off.ensures.others c.work_off.ensures.met c.work_off.ensures.over
          (c.none_wants-had_memory.ensures.first c.if-not-had_memory.false) (c.none_wants-had_memory.ensures.others c.if-not-had_memory.false)
          calls (λ index. ap (λ list. times_called list index) (are ∙ ap (calls_of called) (c.settle-pass.ensures.functions c.if-not-has_room.false ∙ ap (λ fs. fs ++ functions_at (others ++ first ∷ [])) c.new-functions.ensures.items)) ∙ calls_turned value called parts first others index)
          c.is_canceled-is_canceled.result (look.2 ∙ look_canceled c.known_is_kept.ensures pass c.is_canceled-is_canceled.new.pass look.0 look.1 c.settle-pass.ensures.pass.1)
          w.if-has_ended.false (sym w.prove-is ∙ c.if-prove.true)
    ]

pub returns-clause-worked : goal.returns-clause-worked
returns-clause-worked g c =
    let value = g.F.ItemFn.value in
    let called = g.F.ItemFn.called in
    let parts = c.args.self.now in
    let fits = subst (FitTogether value) c.self.view_is c.self.invariant.parts in
    let has = subst HasBoard c.self.view_is c.self.invariant.plain in
    let first = c.work_off.new.first in
    let others = c.work_off.new.others.items in
    let calls = c.in_ok-calls.calls in
    let long = popped_length c.args.desks.items c.pop.new.self.items c.pop.result c.unwrap-first.result c.pop.ensures.items c.unwrap-first.ensures in
    let same : length others ≡ length c.pop.new.self.items = sym (length-map others (λ desk. desk.function)) ∙ ap length c.work_off.ensures.functions ∙ length-map c.pop.new.self.items (λ desk. desk.function) in
    let count : length (first ∷ others) ≡ parts.counter.workers = omega (arith, long, same, c.requires.desks.count) in
    let are = ok_from _ c.calls_of.result calls c.in_ok-calls.was c.calls_of.ensures in
    subst (λ journal. IsWorkedOut (work_of value parts) parts.sizes parts.kind parts.future.terms journal calls) (sym (ap (λ (p : PassState (List ℕ)). p.known) c.is_canceled-is_canceled.ensures.1.pass))
    (worked_out value called parts fits has first others c.settle-pass.result.pass.known c.settle-pass.result.has_ended c.settle-pass.ensures.settled count
    c.work_off.ensures.first c.work_off.ensures.others c.work_off.ensures.met c.work_off.ensures.over
    (c.none_wants-had_memory.ensures.first c.if-not-had_memory.false) (c.none_wants-had_memory.ensures.others c.if-not-had_memory.false)
    calls (λ index. ap (λ list. times_called list index) (are ∙ ap (calls_of called) (c.settle-pass.ensures.functions c.if-not-has_room.false ∙ ap (λ fs. fs ++ functions_at (others ++ first ∷ [])) c.new-functions.ensures.items)) ∙ calls_turned value called parts first others index))

pub returns-clause-functions : goal.returns-clause-functions
returns-clause-functions g c =
    let value = g.F.ItemFn.value in
    let called = g.F.ItemFn.called in
    subst (AreContinued value called (functions_at c.args.desks.items)) (sym (c.settle-pass.ensures.functions c.if-not-has_room.false ∙ ap (λ fs. fs ++ functions_at (c.work_off.new.others.items ++ c.work_off.new.first ∷ [])) c.new-functions.ensures.items))
    (handed_back value called c.args.desks.items c.pop.new.self.items c.work_off.new.others.items c.pop.result c.unwrap-first.result c.work_off.new.first c.pop.ensures.items c.unwrap-first.ensures c.work_off.ensures.functions c.work_off.ensures.function)

pub returns-clause-memory : goal.returns-clause-memory
returns-clause-memory g c =
    none_wanted c.args.desks.items c.pop.new.self.items c.work_off.new.others.items c.pop.result c.unwrap-first.result c.pop.ensures.items c.unwrap-first.ensures c.work_off.ensures.want_memory
    (c.none_wants-had_memory.ensures.others c.if-not-had_memory.false)
    (c.work_off.ensures.wants_memory (c.none_wants-had_memory.ensures.first c.if-not-had_memory.false))
