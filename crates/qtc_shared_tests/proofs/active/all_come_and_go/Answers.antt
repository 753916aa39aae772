use Rattle.std.proofs.Common.{◌≡◌, false, All, length, rules, ◌∙◌}
use Rattle.qtc_active.specs.Count.{BadgeState}
use Rattle.qtc_active.proofs.Badges.{none_in}
use Rattle.qtc_shared_tests.proofs.active.all_come_and_go.Goals as goal

pub returns : goal.returns
returns g c =
    let badges = c.in_ok-badges.badges.items in
    let out : All (λ (badge : BadgeState). badge.is_in ≡ false) badges = search rules in
    let all : length badges ≡ c.in_ok-count.count.workers = search rules in
    c.count_all.ensures.all all ∙ none_in badges out
