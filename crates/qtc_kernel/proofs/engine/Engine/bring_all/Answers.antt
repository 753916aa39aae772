use Rattle.std.proofs.Common.{◌≡◌, ◌++◌, [], ◌∷◌, All, ap, sym, subst, ◌∙◌, arith, append_assoc, append-nil}
use Rattle.std.proofs.lemmas.List.Elements.{All-push, All-tail}
use Rattle.qtc_claim.specs.Counter.{TallyState}
use Rattle.qtc_shared.specs.Passes.{Meets}
use Rattle.qtc_kernel.specs.EngineParts.{DeskState, IsDesk}
use Rattle.qtc_kernel.specs.Endings.{functions_at, workers_at}
use Rattle.qtc_kernel.proofs.AtDesks.{nothing_left, taken_first}
use Rattle.qtc_kernel.proofs.engine.Engine.bring_all.Goals as goal

pub loop-pass-preserved : goal.loop-pass-preserved
loop-pass-preserved g c =
    let was = c.loop-pass.invariant in
    let items = c.loop-pass.desks.items in
    let rest = c.remove.new.self.items in
    let desk = c.remove.result in
    let told = c.bring_in-function.ensures in
    let are : items ≡ desk ∷ rest = taken_first items rest desk (omega arith) c.remove.ensures.value c.remove.ensures.items in
    let P : DeskState g.row.F.Denot → Type 0 = λ d. Meets d.pass c.args.pass.now.known in
    record {
      same = record {
        of = told.pass.of ∙ was.same.of;
        known = told.pass.known ∙ was.same.known;
        children = told.pass.children ∙ was.same.children;
      };
      counter = ap (λ (t : TallyState). t.of) told.tally ∙ was.counter;
      apart = told.apart;
      workers =
          ap (λ (t : TallyState). t.workers ++ workers_at rest) told.tally
          ∙ append_assoc c.loop-pass.tally.workers (desk.seat.worker ∷ []) (workers_at rest)
          ∙ ap (λ ds. c.loop-pass.tally.workers ++ workers_at ds) (sym are)
          ∙ was.workers;
      pieces = ap (λ (t : TallyState). t.pieces) told.tally ∙ was.pieces;
      functions = λ room.
          let kept = c.keep.ensures room in
          ap (λ fs. fs ++ functions_at rest) kept.1
          ∙ append_assoc c.loop-pass.functions.items (c.bring_in-function.result ∷ []) (functions_at rest)
          ∙ ap (λ f. c.loop-pass.functions.items ++ f ∷ functions_at rest) told.function
          ∙ ap (λ ds. c.loop-pass.functions.items ++ functions_at ds) (sym are)
          ∙ was.functions kept.0;
      desks = All-tail (IsDesk g.F.ItemFn.value g.F.ItemFn.called c.args.self.now) desk rest (subst (All (IsDesk g.F.ItemFn.value g.F.ItemFn.called c.args.self.now)) are was.desks);
      met = (
        was.met.0 ++ desk ∷ [],
        was.met.1 ∙ ap (λ ds. was.met.0 ++ ds) are ∙ sym (append_assoc was.met.0 (desk ∷ []) rest),
        All-push P was.met.0 desk was.met.2 (subst (Meets desk.pass) was.same.known told.met),
      );
    }

pub returns-clause-gathered : goal.returns-clause-gathered
returns-clause-gathered g c =
    let was = c.loop-pass.invariant in
    let none : c.loop-pass.desks.items ≡ [] = nothing_left c.loop-pass.desks.items (omega arith) in
    let P : DeskState g.row.F.Denot → Type 0 = λ d. Meets d.pass c.args.pass.now.known in
    record {
      of = was.counter;
      workers = sym (append-nil c.loop-pass.tally.workers) ∙ ap (λ ds. c.loop-pass.tally.workers ++ workers_at ds) (sym none) ∙ was.workers;
      pieces = was.pieces;
      met = subst (All P) (sym (was.met.1 ∙ ap (λ ds. was.met.0 ++ ds) none ∙ append-nil was.met.0)) was.met.2;
    }

pub returns-clause-functions : goal.returns-clause-functions
returns-clause-functions g c = λ room.
    let was = c.loop-pass.invariant in
    let none : c.loop-pass.desks.items ≡ [] = nothing_left c.loop-pass.desks.items (omega arith) in
    sym (append-nil c.loop-pass.functions.items) ∙ ap (λ ds. c.loop-pass.functions.items ++ functions_at ds) (sym none) ∙ was.functions room
