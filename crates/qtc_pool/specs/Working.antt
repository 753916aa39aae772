-- What is asked of a function that does the work of tasks. (Own.)
use Rattle.std.specs.Borrow.{Bor, MutBor}
use Rattle.std.specs.Fn.{Shared}

-- each call of it makes of a desk what tasks may make of it
pub record Keeps {P K D W : Type 0} (becomes : D → D → Type 0)
    (calls : Shared W (Bor P × (Bor K × (MutBor D × Unit {0}))) (Unit {0} × (MutBor D × Unit {0}))) (work : W) : Type 0 where
  pub each : (pool : Bor P) (task : Bor K) (desk left : MutBor D) →
      calls.post work (pool, (task, (desk, tt))) (tt, (left, tt)) → becomes desk.now left.now
