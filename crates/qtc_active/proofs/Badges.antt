-- A badge of a count is a seat at the count's table, under its key.
use Rattle.std.proofs.Common.{◌≡◌, ℕ, ◌+◌, ◌≤◌, Bool, false, List, All, subst, [], ◌∷◌, ◌++◌, cond, length, length-append, sum_by, count_by, sym, ap, ◌∙◌, arith}
use Rattle.std.proofs.lemmas.List.Sums.{sum_by_push, sum_by-le}
use Rattle.std.proofs.lemmas.List.Elements.{All-weaker}
use Rattle.qtc_active.specs.declared.active_count.ActiveCount.TheInside as active_count
use Rattle.qtc_active.specs.declared.badge.Badge.TheInside as badge
use Rattle.qtc_active.specs.declared.rule.View.{View}
use Rattle.qtc_active.specs.Rule.{badge_view, inside, gathered}
use Rattle.qtc_active.specs.Count.{CountId, BadgeState}
use Rattle.qtc_active.specs.Inside.{count_id, badge_state, IsBadge}

pub record IsAt (a : active_count.Inside) (b : badge.Inside) (is_in : Bool) : Type 0 where
  pub table : b.seat.table_id ≡ a.table.shared.table_id
  pub me : b.seat.me ≡ (badge_view a.table.shared.key is_in b.seat.me.0.seen, [])

pub is_at : (a : active_count.Inside) (b : badge.Inside) (count : CountId) (state : BadgeState) (is_in : Bool)
    → count_id a ≡ count → badge_state b ≡ state → IsBadge b → state.of ≡ count → state.is_in ≡ is_in → IsAt a b is_in
is_at a b count state is_in count_is badge_is shape of is =
    let here = ap (λ (s : BadgeState). s.of) badge_is ∙ of ∙ sym count_is in
    let workers = ap (λ (c : CountId). c.workers) here in
    let inside = ap (λ (s : BadgeState). s.is_in) badge_is ∙ is in
    record {
      table = ap (λ (c : CountId). c.table) here;
      me = shape.me ∙ (λ i. (badge_view (workers i) (inside i) b.seat.me.0.seen, []));
    }

-- a gatherer takes in the last badge of a list
module _ (b : badge.Inside) (state : BadgeState) (badge_is : badge_state b ≡ state) (shape : IsBadge b) (all left : List BadgeState) (items : all ≡ left ++ state ∷ []) (v after : View)
    (joined : after ≡ gathered v b.seat.me.0) where
  one : after.are_in ≡ v.are_in ++ state.is_in ∷ []
  one = ap (λ (w : View). w.are_in) joined ∙ ap (λ m. v.are_in ++ m.0.are_in) shape.me ∙ ap (λ (s : BadgeState). v.are_in ++ s.is_in ∷ []) badge_is

  pub more_badges : (n : ℕ) → length v.are_in + length all ≡ n → length after.are_in + length left ≡ n
  more_badges n before =
      let longer : length after.are_in ≡ length v.are_in + 1 = ap length one ∙ length-append v.are_in (state.is_in ∷ []) in
      let shorter : length all ≡ length left + 1 = ap length items ∙ length-append left (state ∷ []) in
      omega (arith, longer, shorter, before)

  pub more_in : (n : ℕ) → inside v + count_by (λ (s : BadgeState). s.is_in) all ≡ n → inside after + count_by (λ (s : BadgeState). s.is_in) left ≡ n
  more_in n before =
      let weight : Bool → ℕ = λ is_in. cond is_in 1 0 in
      let of_state : BadgeState → ℕ = λ s. cond s.is_in 1 0 in
      let more : inside after ≡ inside v + weight state.is_in = ap (sum_by weight) one ∙ sum_by_push weight v.are_in state.is_in in
      let fewer : sum_by of_state all ≡ sum_by of_state left + of_state state = ap (sum_by of_state) items ∙ sum_by_push of_state left state in
      omega (arith, more, fewer, before)

-- where all are out, none is in
pub none_in : (states : List BadgeState) → All (λ (s : BadgeState). s.is_in ≡ false) states → count_by (λ (s : BadgeState). s.is_in) states ≡ 0
none_in states out =
    let of_state : BadgeState → ℕ = λ s. cond s.is_in 1 0 in
    let few = sum_by-le of_state 0 states (All-weaker (λ (s : BadgeState). s.is_in ≡ false) (λ (s : BadgeState). of_state s ≤ 0) none states out) in
    omega (arith, few)
  where
    none : (s : BadgeState) → s.is_in ≡ false → cond s.is_in 1 0 ≤ 0
    none s is = subst (λ (b : Bool). cond b 1 0 ≤ 0) (sym is) (omega arith)
