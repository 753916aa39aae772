use Rattle.std.proofs.Common.{◌≡◌, rules, ap, sym, subst, ◌∙◌, IfSome}
use Rattle.std.proofs.lemmas.List.Elements.{All-pop}
use Rattle.qtc_active.specs.Count.{BadgeState}
use Rattle.qtc_active.proofs.Steps.{begins, gathers, looks_with_all}
use Rattle.qtc_active.proofs.Badges.{more_badges, more_in}
use Rattle.qtc_active.proofs.active_count.ActiveCount.count_all.Goals as goal

pub load_new_seat-gatherer-requires : goal.load_new_seat-gatherer-requires
load_new_seat-gatherer-requires c = (search rules, begins _ _)

pub join_seat-requires : goal.join_seat-requires
join_seat-requires c =
    let at = ap (λ l. l.table) (sym c.self.view_is) in
    let Mine : BadgeState → Type 0 = λ badge. badge.of ≡ c.args.self.now in
    let of : IfSome c.pop.result Mine = (All-pop Mine c.loop-badge.badges.items c.pop.new.self.items c.pop.result c.pop.ensures.items c.loop-badge.invariant.of).1 in
    let mine : Mine c.in-Some.badge = subst (λ r. IfSome r Mine) c.in-Some.is of in
    let shape = c.badge.invariant.me in (
      c.loop-badge.invariant.at ∙ at,
      ap (λ (s : BadgeState). s.of.table) c.badge.view_is ∙ ap (λ l. l.table) mine ∙ at,
      ap (λ m. m.1) shape,
      search rules,
      gathers _ _ _ _ _ (ap (λ m. m.0.unmade) shape),
    )

pub loop-badge-preserved : goal.loop-badge-preserved
loop-badge-preserved c =
    let is = c.loop-badge.invariant in
    let all = c.loop-badge.badges.items in
    let left = c.pop.new.self.items in
    let v = c.loop-badge.gatherer.me.0 in
    let after = c.join_seat.new.seat.me.0 in
    let joined = ap (λ m. m.0) c.join_seat.ensures.2 in
    record {
      at = search rules;
      slots = search rules;
      workers = search rules;
      of = (All-pop (λ (badge : BadgeState). badge.of ≡ c.args.self.now) all left c.pop.result c.pop.ensures.items is.of).0;
      badges = more_badges c.badge.inside _ c.badge.view_is c.badge.invariant all left c.in-Some.ensures.items v after joined _ is.badges;
      in_all = more_in c.badge.inside _ c.badge.view_is c.badge.invariant all left c.in-Some.ensures.items v after joined _ is.in_all;
    }

pub load-requires : goal.load-requires
load-requires c =
    let at = sym c.self.view_is in
    let is = c.loop-badge.invariant in
    (is.at ∙ ap (λ l. l.table) at, search rules, looks_with_all _ _ _ _ is.slots (is.workers ∙ ap (λ l. l.workers) at))
