-- How far a text of a shelf was read. (Own.)
use Rattle.std.specs.Prelude.{ℕ, List, drop}
use Rattle.qtc_outside.specs.declared.shelf.Shelf.{Shelf}
use Rattle.qtc_outside.specs.Shelf.{text_at}

-- what was not given yet of the text that is read
abbrev pub left_of : Shelf → List ℕ
left_of shelf = drop shelf.given (text_at shelf.texts shelf.place)
