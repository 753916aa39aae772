-- The limit that users are told. (Own.)
use Rattle.std.specs.Prelude.{ℕ}

-- futures that are waited for together
abbrev pub most_futures : ℕ
most_futures = 65536
