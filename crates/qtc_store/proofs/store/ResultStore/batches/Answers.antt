use Rattle.std.proofs.Common.{◌≡◌, ◌++◌, map, ap, sym, ◌∙◌, subst}
use Rattle.std.proofs.lemmas.Bool.{false≢true}
use Rattle.qtc_store.specs.Inside.{met_in, waiting_in, batches_in}
use Rattle.qtc_store.specs.Results.{result_ranges}
use Rattle.qtc_store.specs.Stored.{ranges_of, AreRangesOf}
use Rattle.qtc_base.specs.Ranges.{bounds_of}
use Rattle.qtc_store.specs.Visible.{position_ranges}
use Rattle.qtc_store.proofs.StoreLemmas.{waiting_within, positions_told, ranges_of_both, ranges_just}
use Rattle.qtc_store.proofs.store.ResultStore.batches.Goals.{then-self+in_ok-append_positions, else-self+in_ok-append_ranges+in_ok-append_ranges-2}
use Rattle.qtc_store.proofs.store.ResultStore.batches.Goals as goal

pub append_ranges-requires-else-self : goal.append_ranges-requires-else-self
append_ranges-requires-else-self g c =
    let s = c.self.inside in
    waiting_within s.filter s.front s.pending s.end c.self.invariant

told : (g : _) (c : goal.Joined-self g) → map bounds_of c.if-self.ranges ≡ ranges_of (record { filter = c.self.inside.filter; batches = batches_in c.self.inside.front c.self.inside.pending })
told g c =
    let s = c.self.inside in
    elim c.if-self.branch [
      | then-self+in_ok-append_positions w ↦
          ap (map bounds_of) w.ranges-is
          ∙ w.in_ok-append_positions.ensures.ok
          ∙ ap (λ xs. map bounds_of xs ++ position_ranges 0 (met_in s.front)) c.new-ranges.ensures
          ∙ positions_told s.filter s.front s.pending s.end c.self.invariant w.if-self.true
      | else-self+in_ok-append_ranges+in_ok-append_ranges-2 w ↦
          ap (map bounds_of) w.ranges-is
          ∙ w.in_ok-append_ranges-2.ensures.ok
          ∙ ap (λ xs. xs ++ result_ranges (waiting_in s.pending)) w.in_ok-append_ranges.ensures.ok
          ∙ ap (λ xs. (map bounds_of xs ++ result_ranges (met_in s.front)) ++ result_ranges (waiting_in s.pending)) c.new-ranges.ensures
          ∙ ranges_of_both s.filter s.front s.pending s.end c.self.invariant w.if-self.false
    ]

pub returns-clause-ranges : goal.returns-clause-ranges
returns-clause-ranges g c = told g c ∙ ap ranges_of c.self.view_is

pub returns-clause-just : goal.returns-clause-just
returns-clause-just g c =
    let s = c.self.inside in
    subst (λ v. AreRangesOf v (map bounds_of c.if-self.ranges)) c.self.view_is (subst (AreRangesOf (record { filter = s.filter; batches = batches_in s.front s.pending })) (sym (told g c)) (ranges_just s.filter s.front s.pending s.end c.self.invariant))

pub returns-in_err-append_positions-clause-sure : goal.returns-in_err-append_positions-clause-sure
returns-in_err-append_positions-clause-sure g c none =
    let s = c.self.inside in
    absurd (false≢true (c.in_err-append_positions.ensures.sure (positions_told s.filter s.front s.pending s.end c.self.invariant c.if-self.true ∙ ap ranges_of c.self.view_is ∙ none)))
