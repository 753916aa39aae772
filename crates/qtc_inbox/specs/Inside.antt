-- What the fields of a line and of a place mean. (Own.)
use Rattle.std.specs.Prelude.{◌≡◌, ◌≤◌, []}
use Rattle.qtc_inbox.specs.declared.inbox.Inbox.TheInside as inbox
use Rattle.qtc_inbox.specs.declared.inbox_pass.InboxPass.TheInside as inbox_pass
use Rattle.qtc_inbox.specs.Boards.{FitTogether}
use Rattle.qtc_inbox.specs.Inboxes.{InboxPassState}
use Rattle.crossbeam_queue.specs.Passes.{view}
use Rattle.qtc_inbox.specs.declared.line.Line.TheInside as line
use Rattle.qtc_inbox.specs.declared.place.Place.TheInside as place
use Rattle.qtc_inbox.specs.Line.{LineId, PlaceState}

abbrev pub line_state : {V : Type 0} → line.Inside V → LineId
line_state a = record { table = a.queue.table.shared.table_id; room = a.queue.cap }

abbrev pub place_state : {V : Type 0} → place.Inside V → PlaceState V
place_state a = record { line = a.pass.table_id; has = view a.pass }

-- a place that has no slot of the queue in hand, and a part
pub record IsPlace {V : Type 0} (a : place.Inside V) : Type 0 where
  pub slots : a.pass.me.1 ≡ []
  pub part : 1 ≤ (view a.pass).parts

abbrev pub inbox_pass_state : {V : Type 0} → inbox_pass.Inside V → InboxPassState V
inbox_pass_state a = record { place = a.place; pass = a.pass }

-- the fields of an inbox are its parts, which fit each other
pub record IsInbox {V : Type 0} (a : inbox.Inside V) : Type 0 where
  pub line : a.line ≡ a.board.key.parts.line
  pub room : a.room ≡ a.board.key.parts.line.room
  pub few : a.room ≤ 1024
  pub counter : a.counter ≡ a.board.key.parts.key.counter
  pub future : a.future ≡ a.board.key.parts.pass.of
  pub fits : FitTogether a.board.key.parts.key a.board.key.parts.pass
