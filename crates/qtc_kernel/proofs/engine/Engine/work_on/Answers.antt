use Rattle.std.proofs.Common.{◌≡◌, ℕ, ◌+◌, ◌≤◌, ◌++◌, Some, ap, arith, refl, sym, subst, ◌∙◌}
use Rattle.qtc_claim.specs.Claims.{clipped}
use Rattle.qtc_claim.specs.Counter.{CounterId}
use Rattle.qtc_kernel.specs.EngineParts.{FitTogether, work_of}
use Rattle.qtc_kernel.specs.Desks.{desk_state}
use Rattle.qtc_kernel.specs.Inside.{IsBlockOf, called_in}
use Rattle.qtc_kernel.specs.Working.{IsAtWork, IsLeaving, IsWorked, range_in}
use Rattle.qtc_kernel.specs.Workload.{first_bad, indexes_of, size_of, workload}
use Rattle.qtc_kernel.proofs.AtWork.{bad_in, fails_told, last_called, leaving, range_whole, wants_told, worked_on}
use Rattle.qtc_kernel.proofs.Passing.{goes_same, looked_on, looked_same, stayed_on, stayed_own}
use Rattle.qtc_kernel.proofs.engine.Engine.work_on.Goals as goal

pub give_up-requires-after_bounds : goal.give_up-requires-after_bounds
give_up-requires-after_bounds g c κs within =
    let value = g.F.ItemFn.value in
    let called = g.F.ItemFn.called in
    let parts = c.args.self.now in
    let h = subst (λ d. IsAtWork value called parts d c.args.piece) (sym c.desk.view_is) c.requires in
    let bounds : (c.range-block.result.begin, c.range-block.result.end) ≡ range_in parts c.args.piece = c.range-block.ensures ∙ ap (λ (id : CounterId). clipped id.n c.args.piece.addition) c.requires.piece_is.of in
    let calls = subst (λ b. called c.block_values.new.function ≡ called c.desk.inside.function ++ called_in (c.range-block.result.begin, c.range-block.result.end) b) c.in-Ok-Kept.field-0-is c.in-Ok-Kept.ensures.called in
    let whole = range_whole parts.counter.n c.args.piece.addition in
    subst (IsLeaving value called parts _) (sym c.in-Err-hand_in.ensures.back)
    (leaving value called parts _ c.args.piece h _ refl refl (stayed_on c.desk.inside.pass c.hand_in.new.pass c.hand_in.ensures.pass) (stayed_own c.desk.inside.pass c.hand_in.new.pass c.hand_in.ensures.pass)
    c.in-Ok-Kept.ensures.value_stays refl refl (range_in parts c.args.piece).1 whole.0 (omega arith) (subst (λ r. called c.block_values.new.function ≡ called c.desk.inside.function ++ indexes_of r) bounds calls))

pub fail-requires-clause-desk : goal.fail-requires-clause-desk
fail-requires-clause-desk g c κs within =
    let value = g.F.ItemFn.value in
    let called = g.F.ItemFn.called in
    let parts = c.args.self.now in
    let h = subst (λ d. IsAtWork value called parts d c.args.piece) (sym c.desk.view_is) c.requires in
    let bounds : (c.range-block.result.begin, c.range-block.result.end) ≡ range_in parts c.args.piece = c.range-block.ensures ∙ ap (λ (id : CounterId). clipped id.n c.args.piece.addition) c.requires.piece_is.of in
    let calls = subst (λ b. called c.block_values.new.function ≡ called c.desk.inside.function ++ called_in (c.range-block.result.begin, c.range-block.result.end) b) c.in-Ok-Bad.field-0-is c.in-Ok-Bad.ensures.called in
    let whole = range_whole parts.counter.n c.args.piece.addition in
    let fits = subst (FitTogether value) c.self.view_is c.self.invariant.parts in
    let inside : (range_in parts c.args.piece).1 ≤ size_of (work_of value parts) = let is = fits.indexes in let high = whole.1 in omega arith in
    let job_is : workload c.self.inside.items.now (value c.desk.inside.function) ≡ work_of value parts =
    λ i. workload ((c.self.invariant.items ∙ ap (λ parts'. parts'.items) c.self.view_is) i) (h.seated.valued i)
    in
    let first = subst (λ b. IsBlockOf (workload c.self.inside.items.now (value c.desk.inside.function)) (c.range-block.result.begin, c.range-block.result.end) b) c.in-Ok-Bad.field-0-is c.in-Ok-Bad.ensures.block in
    let found = bad_in (work_of value parts) (range_in parts c.args.piece) c.in-Ok-Bad.index whole.0 inside (subst (λ r. first_bad (work_of value parts) r ≡ Some c.in-Ok-Bad.index) bounds (subst (λ w. first_bad w (c.range-block.result.begin, c.range-block.result.end) ≡ Some c.in-Ok-Bad.index) job_is first)) in
    let low = found.low in
    let high = found.high in
    leaving value called parts _ c.args.piece h _ refl refl (looked_on c.desk.inside.pass c.desk.inside.pass (looked_same c.desk.inside.pass c.desk.inside.pass refl)) refl
    c.in-Ok-Bad.ensures.value_stays refl refl (c.in-Ok-Bad.index + 1) (omega arith) (omega arith)
    (subst (λ (r : ℕ × ℕ). called c.block_values.new.function ≡ called c.desk.inside.function ++ indexes_of (r.0, c.in-Ok-Bad.index + 1)) bounds calls)

pub fail-requires-clause-bad : goal.fail-requires-clause-bad
fail-requires-clause-bad g c κs within =
    let value = g.F.ItemFn.value in
    let called = g.F.ItemFn.called in
    let parts = c.args.self.now in
    let h = subst (λ d. IsAtWork value called parts d c.args.piece) (sym c.desk.view_is) c.requires in
    let bounds : (c.range-block.result.begin, c.range-block.result.end) ≡ range_in parts c.args.piece = c.range-block.ensures ∙ ap (λ (id : CounterId). clipped id.n c.args.piece.addition) c.requires.piece_is.of in
    let whole = range_whole parts.counter.n c.args.piece.addition in
    let fits = subst (FitTogether value) c.self.view_is c.self.invariant.parts in
    let inside : (range_in parts c.args.piece).1 ≤ size_of (work_of value parts) = let is = fits.indexes in let high = whole.1 in omega arith in
    let job_is : workload c.self.inside.items.now (value c.desk.inside.function) ≡ work_of value parts =
    λ i. workload ((c.self.invariant.items ∙ ap (λ parts'. parts'.items) c.self.view_is) i) (h.seated.valued i)
    in
    let first = subst (λ b. IsBlockOf (workload c.self.inside.items.now (value c.desk.inside.function)) (c.range-block.result.begin, c.range-block.result.end) b) c.in-Ok-Bad.field-0-is c.in-Ok-Bad.ensures.block in
    let found = bad_in (work_of value parts) (range_in parts c.args.piece) c.in-Ok-Bad.index whole.0 inside (subst (λ r. first_bad (work_of value parts) r ≡ Some c.in-Ok-Bad.index) bounds (subst (λ w. first_bad w (c.range-block.result.begin, c.range-block.result.end) ≡ Some c.in-Ok-Bad.index) job_is first)) in
    let calls = subst (λ b. called c.block_values.new.function ≡ called c.desk.inside.function ++ called_in (c.range-block.result.begin, c.range-block.result.end) b) c.in-Ok-Bad.field-0-is c.in-Ok-Bad.ensures.called in
    let low = found.low in
    record {
      failing = found.failing;
      called = last_called (called c.desk.inside.function) (called c.block_values.new.function) (range_in parts c.args.piece).0 c.in-Ok-Bad.index
          (subst (λ (r : ℕ × ℕ). called c.block_values.new.function ≡ called c.desk.inside.function ++ indexes_of (r.0, c.in-Ok-Bad.index + 1)) bounds calls) low;
    }

pub give_up-requires-in-Err-after_bounds : goal.give_up-requires-in-Err-after_bounds
give_up-requires-in-Err-after_bounds g c κs within =
    let value = g.F.ItemFn.value in
    let called = g.F.ItemFn.called in
    let parts = c.args.self.now in
    let h = subst (λ d. IsAtWork value called parts d c.args.piece) (sym c.desk.view_is) c.requires in
    let bounds : (c.range-block.result.begin, c.range-block.result.end) ≡ range_in parts c.args.piece = c.range-block.ensures ∙ ap (λ (id : CounterId). clipped id.n c.args.piece.addition) c.requires.piece_is.of in
    let front = c.in-Err.ensures.front in
    let first : c.range-block.result.begin ≡ (range_in parts c.args.piece).0 = ap (λ (r : ℕ × ℕ). r.0) bounds in
    let last : c.range-block.result.end ≡ (range_in parts c.args.piece).1 = ap (λ (r : ℕ × ℕ). r.1) bounds in
    let low = front.low in
    let high = front.high in
    leaving value called parts _ c.args.piece h _ refl refl (looked_on c.desk.inside.pass c.desk.inside.pass (looked_same c.desk.inside.pass c.desk.inside.pass refl)) refl
    c.in-Err.ensures.value_stays refl refl front.at (omega arith) (omega arith)
    (subst (λ begin. called c.block_values.new.function ≡ called c.desk.inside.function ++ indexes_of (begin, front.at)) first front.calls)

pub returns-in-Ok-true-clause-desk : goal.returns-in-Ok-true-clause-desk
returns-in-Ok-true-clause-desk g c =
    let value = g.F.ItemFn.value in
    let called = g.F.ItemFn.called in
    let parts = c.args.self.now in
    let h = subst (λ d. IsAtWork value called parts d c.args.piece) (sym c.desk.view_is) c.requires in
    let bounds : (c.range-block.result.begin, c.range-block.result.end) ≡ range_in parts c.args.piece = c.range-block.ensures ∙ ap (λ (id : CounterId). clipped id.n c.args.piece.addition) c.requires.piece_is.of in
    let calls = subst (λ b. called c.block_values.new.function ≡ called c.desk.inside.function ++ called_in (c.range-block.result.begin, c.range-block.result.end) b) c.in-Ok-Kept.field-0-is c.in-Ok-Kept.ensures.called in
    worked_on value called parts _ c.args.piece h _ refl refl (stayed_on c.desk.inside.pass c.hand_in.new.pass c.hand_in.ensures.pass) (stayed_own c.desk.inside.pass c.hand_in.new.pass c.hand_in.ensures.pass)
    c.in-Ok-Kept.ensures.value_stays refl refl _ (subst (λ r. called c.block_values.new.function ≡ called c.desk.inside.function ++ indexes_of r) bounds calls)
    c.in-Ok-true.ensures.ok

pub returns-in-Ok-false-clause-desk : goal.returns-in-Ok-false-clause-desk
returns-in-Ok-false-clause-desk g c =
    let value = g.F.ItemFn.value in
    let called = g.F.ItemFn.called in
    let parts = c.args.self.now in
    let h = subst (λ d. IsAtWork value called parts d c.args.piece) (sym c.desk.view_is) c.requires in
    let bounds : (c.range-block.result.begin, c.range-block.result.end) ≡ range_in parts c.args.piece = c.range-block.ensures ∙ ap (λ (id : CounterId). clipped id.n c.args.piece.addition) c.requires.piece_is.of in
    let calls = subst (λ b. called c.block_values.new.function ≡ called c.desk.inside.function ++ called_in (c.range-block.result.begin, c.range-block.result.end) b) c.in-Ok-Kept.field-0-is c.in-Ok-Kept.ensures.called in
    worked_on value called parts _ c.args.piece h _ refl refl (stayed_on c.desk.inside.pass c.hand_in.new.pass c.hand_in.ensures.pass) (stayed_own c.desk.inside.pass c.hand_in.new.pass c.hand_in.ensures.pass)
    c.in-Ok-Kept.ensures.value_stays refl refl _ (subst (λ r. called c.block_values.new.function ≡ called c.desk.inside.function ++ indexes_of r) bounds calls)
    c.in-Ok-false.ensures.ok

pub returns-in-Err-hand_in-clause-turn : goal.returns-in-Err-hand_in-clause-turn
returns-in-Err-hand_in-clause-turn g c =
    let value = g.F.ItemFn.value in
    let called = g.F.ItemFn.called in
    let parts = c.args.self.now in
    let bounds : (c.range-block.result.begin, c.range-block.result.end) ≡ range_in parts c.args.piece = c.range-block.ensures ∙ ap (λ (id : CounterId). clipped id.n c.args.piece.addition) c.requires.piece_is.of in
    let calls = subst (λ b. called c.block_values.new.function ≡ called c.desk.inside.function ++ called_in (c.range-block.result.begin, c.range-block.result.end) b) c.in-Ok-Kept.field-0-is c.in-Ok-Kept.ensures.called in
    let whole = range_whole parts.counter.n c.args.piece.addition in
    subst (λ d. IsWorked value called parts d c.give_up.new.desk (range_in parts c.args.piece) c.give_up.result) c.desk.view_is
    (wants_told value called parts (desk_state c.desk.inside) _ c.give_up.new.desk (range_in parts c.args.piece) (stayed_on c.desk.inside.pass c.hand_in.new.pass c.hand_in.ensures.pass) c.give_up.result c.give_up.ensures.turn
    (range_in parts c.args.piece).1 whole.0 (omega arith) (subst (λ r. called c.block_values.new.function ≡ called c.desk.inside.function ++ indexes_of r) bounds calls))

pub returns-in-Ok-Bad-clause-turn : goal.returns-in-Ok-Bad-clause-turn
returns-in-Ok-Bad-clause-turn g c =
    let value = g.F.ItemFn.value in
    let called = g.F.ItemFn.called in
    let parts = c.args.self.now in
    let h = subst (λ d. IsAtWork value called parts d c.args.piece) (sym c.desk.view_is) c.requires in
    let bounds : (c.range-block.result.begin, c.range-block.result.end) ≡ range_in parts c.args.piece = c.range-block.ensures ∙ ap (λ (id : CounterId). clipped id.n c.args.piece.addition) c.requires.piece_is.of in
    let calls = subst (λ b. called c.block_values.new.function ≡ called c.desk.inside.function ++ called_in (c.range-block.result.begin, c.range-block.result.end) b) c.in-Ok-Bad.field-0-is c.in-Ok-Bad.ensures.called in
    let whole = range_whole parts.counter.n c.args.piece.addition in
    let fits = subst (FitTogether value) c.self.view_is c.self.invariant.parts in
    let inside : (range_in parts c.args.piece).1 ≤ size_of (work_of value parts) = let is = fits.indexes in let high = whole.1 in omega arith in
    let job_is : workload c.self.inside.items.now (value c.desk.inside.function) ≡ work_of value parts =
    λ i. workload ((c.self.invariant.items ∙ ap (λ parts'. parts'.items) c.self.view_is) i) (h.seated.valued i)
    in
    let first = subst (λ b. IsBlockOf (workload c.self.inside.items.now (value c.desk.inside.function)) (c.range-block.result.begin, c.range-block.result.end) b) c.in-Ok-Bad.field-0-is c.in-Ok-Bad.ensures.block in
    let first_is : first_bad (work_of value parts) (range_in parts c.args.piece) ≡ Some c.in-Ok-Bad.index =
    subst (λ r. first_bad (work_of value parts) r ≡ Some c.in-Ok-Bad.index) bounds (subst (λ w. first_bad w (c.range-block.result.begin, c.range-block.result.end) ≡ Some c.in-Ok-Bad.index) job_is first)
    in
    let found = bad_in (work_of value parts) (range_in parts c.args.piece) c.in-Ok-Bad.index whole.0 inside first_is in
    subst (λ d. IsWorked value called parts d c.fail.new.desk (range_in parts c.args.piece) c.fail.result) c.desk.view_is
    (fails_told value called parts (desk_state c.desk.inside) _ c.fail.new.desk (range_in parts c.args.piece) (goes_same c.desk.inside.pass) c.fail.result c.in-Ok-Bad.index c.fail.ensures.turn found.low found.high first_is
    (subst (λ (r : ℕ × ℕ). called c.block_values.new.function ≡ called c.desk.inside.function ++ indexes_of (r.0, c.in-Ok-Bad.index + 1)) bounds calls))
