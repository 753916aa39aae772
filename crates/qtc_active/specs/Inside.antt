-- What the fields of a count and of a badge mean (own).
use Rattle.std.specs.Prelude.{◌≡◌, ◌<◌, ◌^◌, false, [], slice_index_or}
use Rattle.qtc_active.specs.declared.active_count.ActiveCount.TheInside as active_count
use Rattle.qtc_active.specs.declared.badge.Badge.TheInside as badge
use Rattle.qtc_active.specs.Rule.{badge_view}
use Rattle.qtc_active.specs.Count.{CountId, BadgeState}

abbrev pub count_id : active_count.Inside → CountId
count_id a = record { table = a.table.shared.table_id; workers = a.table.shared.key }

pub record IsCount (a : active_count.Inside) : Type 0 where
  pub words : a.table.shared.table_id.words ≡ 1
  pub fits : a.table.shared.key < 2 ^ 32

abbrev pub badge_state : badge.Inside → BadgeState
badge_state a = record {
  of = record { table = a.seat.table_id; workers = a.seat.me.0.workers };
  is_in = slice_index_or a.seat.me.0.are_in 0 false;
  seen = a.seat.me.0.seen;
}

-- a seat with one badge, and none to make
pub record IsBadge (a : badge.Inside) : Type 0 where
  pub me : a.seat.me ≡ (badge_view a.seat.me.0.workers (slice_index_or a.seat.me.0.are_in 0 false) a.seat.me.0.seen, [])
