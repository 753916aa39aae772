use Rattle.std.proofs.Common.{◌↔◌, ℕ, List, ◌∷◌, ◌++◌, [], IsTrue, ap, refl, sym, subst, ◌∙◌, append_assoc}
use Rattle.std.proofs.lemmas.List.{map-append}
use Rattle.qtc_base.specs.Ranges.{Tiles}
use Rattle.qtc_shared.specs.Journals.{IsJournal, flags_at}
use Rattle.qtc_shared.specs.Passes.{FutureId, PassState}
use Rattle.qtc_kernel.specs.EngineParts.{IsBoard, ranges_by, reporter}
use Rattle.qtc_kernel.specs.Gathering.{HasEnded}
use Rattle.qtc_kernel.specs.Desks.{desk_state}
use Rattle.qtc_kernel.specs.Endings.{AreSettled, functions_at}
use Rattle.qtc_kernel.proofs.Boards.{board_seats, board_stays}
use Rattle.qtc_kernel.proofs.Returning.{of_all, pieces_all, workers_all}
use Rattle.qtc_kernel.proofs.Settling.{finished_new, future_new, lawful_new}
use Rattle.qtc_kernel.proofs.engine.Engine.settle.Goals as goal

pub has_ended-has_ended-requires-clause-board : goal.has_ended-has_ended-requires-clause-board
has_ended-has_ended-requires-clause-board g c κs within =
    let value = g.F.ItemFn.value in
    let parts = c.args.self.now in
    let first = desk_state c.first.inside in
    let others = c.args.others.items in
    let before = c.args.board.now.tally in
    let known = c.meet.new.pass.known in
    let last = c.bring_all-has_room.new.tally in
    let on = c.args.board.now.all_reported in
    board_seats value parts before last c.meet.new.other on
    (board_stays value parts before c.args.board.now.pass c.meet.new.other on c.requires.board c.meet.ensures.other)
    (of_all first others known before c.gather_seat.new.self last last c.gather_seat.ensures.workers c.bring_all-has_room.ensures.gathered refl)
    (pieces_all first others known before c.gather_seat.new.self last last c.gather_seat.ensures.workers c.bring_all-has_room.ensures.gathered refl)

pub has_ended-has_ended-requires-clause-lawful : goal.has_ended-has_ended-requires-clause-lawful
has_ended-has_ended-requires-clause-lawful g c κs within =
    subst (λ (f : FutureId). IsJournal f.terms c.meet.new.other.known) (ap (λ d. d.pass.of) c.first.view_is ∙ c.requires.desks.0.seated.future)
    (subst (IsJournal c.first.inside.pass.of.terms) c.meet.ensures.one
    (lawful_new c.first.inside.pass c.finish-has_room.new.pass c.meet.new.pass c.finish-has_room.result c.finish-has_room.ensures c.meet.ensures.pass c.known_is_kept.ensures))

pub returns-clause-settled : goal.returns-clause-settled
returns-clause-settled g c =
    let value = g.F.ItemFn.value in
    let parts = c.args.self.now in
    let first = desk_state c.first.inside in
    let others = c.args.others.items in
    let before = c.args.board.now.tally in
    let known = c.meet.new.pass.known in
    let last = c.bring_all-has_room.new.tally in
    let ended = c.has_ended-has_ended.result in
    subst (λ d. AreSettled value parts d others c.bring_all-has_room.new.pass.known ended) c.first.view_is
    (subst (λ k. AreSettled value parts first others k ended) (sym c.bring_all-has_room.ensures.pass.known)
    (record {
      journal = c.finish-has_room.ensures.journal;
      met = c.finish-has_room.ensures.met;
      finished = future_new c.first.inside.pass c.finish-has_room.new.pass c.meet.new.pass c.finish-has_room.result c.finish-has_room.ensures c.meet.ensures.pass c.known_is_kept.ensures;
      lawful = lawful_new c.first.inside.pass c.finish-has_room.new.pass c.meet.new.pass c.finish-has_room.result c.finish-has_room.ensures c.meet.ensures.pass c.known_is_kept.ensures;
      others_met = c.bring_all-has_room.ensures.gathered.met;
      before = before;
      board = c.meet.new.other;
      mark = c.args.board.now.all_reported;
      board_is = board_stays value parts before c.args.board.now.pass c.meet.new.other c.args.board.now.all_reported c.requires.board c.meet.ensures.other;
      board_knows = sym c.meet.ensures.one;
      tally = last;
      gathered = c.bring_all-has_room.ensures.apart;
      knows = c.has_ended-has_ended.ensures.claims;
      of = of_all first others known before c.gather_seat.new.self last last c.gather_seat.ensures.workers c.bring_all-has_room.ensures.gathered refl;
      workers = workers_all first others known before c.gather_seat.new.self last last c.gather_seat.ensures.workers c.bring_all-has_room.ensures.gathered refl;
      pieces = pieces_all first others known before c.gather_seat.new.self last last c.gather_seat.ensures.workers c.bring_all-has_room.ensures.gathered refl;
      ended_is = subst (λ k. IsTrue ended ↔ HasEnded last (reporter parts) k) (sym c.meet.ensures.one) c.has_ended-has_ended.ensures.ended;
      tiles = subst (λ k. IsTrue ended → Tiles (ranges_by (reporter parts) k) parts.counter.n) (sym c.meet.ensures.one) c.has_ended-has_ended.ensures.tiles;
    }))

pub returns-clause-functions : goal.returns-clause-functions
returns-clause-functions g c = λ room.
    let kept = c.keep.ensures room in
    kept.1 ∙ ap (λ fs. fs ++ c.first.inside.function ∷ []) (c.bring_all-has_room.ensures.functions kept.0)
    ∙ append_assoc c.args.functions.now.items (functions_at c.args.others.items) (c.first.inside.function ∷ [])
    ∙ ap (λ f. c.args.functions.now.items ++ (functions_at c.args.others.items ++ f ∷ [])) (ap (λ d. d.function) c.first.view_is)
    ∙ ap (λ fs. c.args.functions.now.items ++ fs) (sym (map-append (λ d. d.function) c.args.others.items (c.args.first ∷ [])))

pub bring_all-has_room-requires-clause-pass : goal.bring_all-has_room-requires-clause-pass
bring_all-has_room-requires-clause-pass g c κs within = (
  ap (λ (p : PassState (List ℕ)). p.of) c.meet.ensures.pass.pass ∙ ap (λ (p : PassState (List ℕ)). p.of) c.finish-has_room.ensures.pass ∙ ap (λ d. d.pass.of) c.first.view_is ∙ c.requires.desks.0.seated.future,
  finished_new c.first.inside.pass c.finish-has_room.new.pass c.meet.new.pass c.finish-has_room.result c.finish-has_room.ensures c.meet.ensures.pass c.known_is_kept.ensures,
)

pub returns-clause-pass : goal.returns-clause-pass
returns-clause-pass g c = (
  c.bring_all-has_room.ensures.pass.of ∙ ap (λ (p : PassState (List ℕ)). p.of) c.meet.ensures.pass.pass ∙ ap (λ (p : PassState (List ℕ)). p.of) c.finish-has_room.ensures.pass ∙ ap (λ d. d.pass.of) c.first.view_is ∙ c.requires.desks.0.seated.future,
  subst (λ journal. IsTrue (flags_at journal).finished) (sym c.bring_all-has_room.ensures.pass.known)
      (finished_new c.first.inside.pass c.finish-has_room.new.pass c.meet.new.pass c.finish-has_room.result c.finish-has_room.ensures c.meet.ensures.pass c.known_is_kept.ensures),
)

pub returns-clause-board : goal.returns-clause-board
returns-clause-board g c =
    let value = g.F.ItemFn.value in
    let parts = c.args.self.now in
    let first = desk_state c.first.inside in
    let others = c.args.others.items in
    let before = c.args.board.now.tally in
    let known = c.meet.new.pass.known in
    let last = c.bring_all-has_room.new.tally in
    let on = c.args.board.now.all_reported in
    subst (λ board. IsBoard value parts board.tally board.pass board.all_reported) (sym c.has_ended-has_ended.ensures.same)
    (board_seats value parts before last c.meet.new.other on
    (board_stays value parts before c.args.board.now.pass c.meet.new.other on c.requires.board c.meet.ensures.other)
    (of_all first others known before c.gather_seat.new.self last last c.gather_seat.ensures.workers c.bring_all-has_room.ensures.gathered refl)
    (pieces_all first others known before c.gather_seat.new.self last last c.gather_seat.ensures.workers c.bring_all-has_room.ensures.gathered refl))

pub returns-clause-childless : goal.returns-clause-childless
returns-clause-childless g c =
    c.bring_all-has_room.ensures.pass.children ∙ ap (λ (p : PassState (List ℕ)). p.children) c.meet.ensures.pass.pass ∙ ap (λ (p : PassState (List ℕ)). p.children) c.finish-has_room.ensures.pass ∙ ap (λ d. d.pass.children) c.first.view_is ∙ c.requires.desks.0.seated.childless
