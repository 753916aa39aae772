-- The lines of a text. (Own.)
use Rattle.std.specs.Prelude.{ℕ, ◌==◌, if◌then◌else◌, List, [], ◌∷◌}
use Rattle.std.specs.List.{onto_first}

-- cut at LF, the LF left out; a last piece without LF counts where it isn't empty
abbrev pub lines : List ℕ → List (List ℕ)
lines [] = []
lines (byte ∷ text) = if byte == 10 then [] ∷ lines text else onto_first byte (lines text)
