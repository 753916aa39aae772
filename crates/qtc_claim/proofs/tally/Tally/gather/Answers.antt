use Rattle.std.proofs.Common.{◌≡◌, ◌∷◌, ◌++◌, [], arith, ap, sym, ◌∙◌, subst, is_some, sum_by, rules}
use Rattle.std.proofs.lemmas.List.Sums.{sum_by_push}
use Rattle.qtc_claim.specs.Claims.{Addition, added}
use Rattle.qtc_claim.specs.declared.rule.View.{View}
use Rattle.qtc_claim.specs.Rule.{IsUnmarked, gathered, last_of, last_marked, marked, tallies}
use Rattle.qtc_claim.specs.Inside.{addition_of, lent_in}
use Rattle.qtc_claim.proofs.Tallies.{is_unmarked, one_marked, all_marked, same_lent, receipt_is}
use Rattle.qtc_claim.proofs.tally.Tally.gather.Goals as goal

pub mark-requires-clause-unmarked : goal.mark-requires-clause-unmarked
mark-requires-clause-unmarked c =
    let v = c.self.inside.seat.me.0 in
    let w = c.piece.inside.seat.me.0 in
    let joined : c.join.new.tally.me.0 ≡ gathered v w = ap (λ m. m.0) c.join.ensures.joined in
    subst IsUnmarked (sym joined)
    (is_unmarked v w (addition_of w) c.self.invariant.one c.self.invariant.marked (ap (λ m. m.0.held) c.piece.invariant.me) (ap (λ m. m.0.books) c.piece.invariant.me))

pub invariant_of-self : goal.invariant_of-self
invariant_of-self c =
    let v = c.self.inside.seat.me.0 in
    let w = c.piece.inside.seat.me.0 in
    let held = ap (λ m. m.0.held) c.piece.invariant.me in
    let books = ap (λ m. m.0.books) c.piece.invariant.me in
    let is = c.self.invariant in
    let joined : c.join.new.tally.me.0 ≡ gathered v w = ap (λ m. m.0) c.join.ensures.joined in
    let now : c.mark.new.tally.me.0 ≡ last_marked (gathered v w) = ap (λ m. m.0) c.mark.ensures.marked ∙ ap last_marked joined in
    let sizes : added c.mark.new.tally.me.0.held ≡ added (v.held ++ addition_of w ∷ []) = ap (λ (view : View). added view.held) now ∙ ap (λ them. added (v.held ++ them)) held in
    let more = sum_by_push (λ (it : Addition). it.size) v.held (addition_of w) in
    record {
      slots = search rules;
      made = search rules;
      gathered = omega (arith, is.gathered, sizes, more, c.piece.invariant.size);
      blank = search rules;
      seats = search rules;
      one = ap tallies now ∙ one_marked v w (addition_of w) is.one is.marked held books;
      marked = λ weight. ap (marked weight) now ∙ all_marked v w (addition_of w) is.one is.marked held books weight ∙ sym (ap (λ (view : View). sum_by weight view.held) now);
      lent = is.lent ∙ sym (ap is_some (ap (λ (view : View). lent_in view.books) now ∙ same_lent v w (addition_of w) is.one is.marked held books));
    }

pub returns-clause-receipt : goal.returns-clause-receipt
returns-clause-receipt c =
    let v = c.self.inside.seat.me.0 in
    let w = c.piece.inside.seat.me.0 in
    let is = c.self.invariant in
    let joined : c.join.new.tally.me.0 ≡ gathered v w = ap (λ m. m.0) c.join.ensures.joined in
    let last : last_of c.join.new.tally.me.0 ≡ addition_of w =
    ap last_of joined ∙ receipt_is v w (addition_of w) is.one is.marked (ap (λ m. m.0.held) c.piece.invariant.me) (ap (λ m. m.0.books) c.piece.invariant.me) in
    search rules
