-- What the fields of a desk and of an engine mean. (Own.)
use Rattle.std.specs.Prelude.{◌≡◌, ℕ, List}
use Rattle.qtc_ops.specs.ItemValue.{ItemValue}
use Rattle.qtc_kernel.specs.declared.desk.Desk.TheInside as desk
use Rattle.qtc_kernel.specs.declared.engine.Engine.TheInside as engine
use Rattle.qtc_kernel.specs.EngineParts.{DeskState, FitTogether, HasBoard}

abbrev pub desk_state : {F : Type 0} → desk.Inside F → DeskState F
desk_state a = record {
  seat = a.seat;
  pass = a.pass;
  badge = a.badge;
  function = a.function;
  next_size = a.next_size;
  wants_memory = a.wants_memory;
}

-- the fields of an engine are its parts, which fit each other
pub record IsEngine {F R G A : Type 0} (value : F → List ℕ → ItemValue) (a : engine.Inside F R G A) : Type 0 where
  pub parts : FitTogether value a.board.key.parts
  pub plain : HasBoard a.board.key.parts
  pub workers : a.workers ≡ a.board.key.parts.counter.workers
  pub counter : a.counter ≡ a.board.key.parts.counter
  pub future : a.future ≡ a.board.key.parts.future
  pub active : a.active ≡ a.board.key.parts.active
  pub items : a.items.now ≡ a.board.key.parts.items
  pub sizes : a.sizes ≡ a.board.key.parts.sizes
  pub kind : a.kind ≡ a.board.key.parts.kind
