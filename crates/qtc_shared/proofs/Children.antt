-- A pass that a child was made from.
use Rattle.std.proofs.Common.{◌≡◌, ℕ, List, Option, None, Some, IfNone, IfSome, refl, ap, sym, ◌∙◌, subst}
use Rattle.atomic_table.specs.declared.shared.Seat.{Seat}
use Rattle.qtc_future.specs.Future.{Logged}
use Rattle.qtc_shared.specs.declared.rule.View.{View}
use Rattle.qtc_shared.specs.Parts.{PassPart}
use Rattle.qtc_shared.specs.Passes.{FutureId, PassState, IsParent}
use Rattle.qtc_shared.specs.Passes as passes
use Rattle.qtc_shared.specs.Rule.{learned, with_child}
use Rattle.qtc_shared.specs.Inside.{IsPassSeat, IsLentSeat, of_seat, pass_in, pass_at_seat, journal_of, state_of}

module _ {V : Type 0} (of : FutureId) where
  -- what contracts see of a pass at its seat
  pub state_at : (part : PassPart V) (seat : Seat (Unit {0}) (View V)) → IsPassSeat of part seat → state_of (of_seat seat) (pass_at_seat seat) ≡ state_of of part
  state_at part seat is = λ i. state_of (record { table = is.at i; terms = (is.me i).0.terms }) (pass_in (is.me i).0.passes)

  lent_part : (part : PassPart V) (made : ℕ) (journal : List (Logged V)) (seat : Seat (Unit {0}) (View V)) → IsLentSeat of part made journal seat → pass_at_seat seat ≡ learned journal part
  lent_part part made journal seat is = ap (λ m. pass_in m.0.passes) is.me

  pub parent : (old : PassState V) (before : PassPart V) (journal : List (Logged V)) (made made' : ℕ) (lent after back : Seat (Unit {0}) (View V)) (answer : Option (PassState V))
      → old ≡ state_of of before → passes.Meets (state_of of before) journal → IsLentSeat of before made journal lent
      → IfNone answer (after ≡ lent) → IfSome answer (λ _. IsLentSeat of (with_child (pass_at_seat lent)) made' (journal_of lent) after)
      → IsPassSeat of (learned journal (pass_at_seat after)) back
      → IsParent old (state_of (of_seat back) (pass_at_seat back)) answer
  parent old before journal made made' lent after back None old_is met lent_is none some back_is =
      subst (λ o. IsParent o (state_of (of_seat back) (pass_at_seat back)) None) (sym old_is) (record {
        held = state_of of (learned journal before);
        hold = record { journal = journal; met = met; done = refl; pass = refl };
        none = state_at (learned journal (pass_at_seat after)) back back_is
            ∙ ap (λ s. state_of of (learned journal (pass_at_seat s))) none
            ∙ ap (λ p. state_of of (learned journal p)) (lent_part before made journal lent lent_is);
        some = tt;
      })
  parent old before journal made made' lent after back (Some child) old_is met lent_is none some back_is =
      subst (λ o. IsParent o (state_of (of_seat back) (pass_at_seat back)) (Some child)) (sym old_is) (record {
        held = state_of of (learned journal before);
        hold = record { journal = journal; met = met; done = refl; pass = refl };
        none = tt;
        some = state_at (learned journal (pass_at_seat after)) back back_is
            ∙ ap (λ p. state_of of (learned journal p)) (lent_part (with_child (pass_at_seat lent)) made' (journal_of lent) after some)
            ∙ ap (λ p. state_of of (with_child (learned journal p))) (lent_part before made journal lent lent_is);
      })
