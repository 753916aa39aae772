use Rattle.std.proofs.Common.{◌≡◌, drop}
use Rattle.qtc_outside.specs.Shelf.{text_under}
use Rattle.qtc_outside.proofs.shelf.Shelf.find.Given as goal

abbrev pub invariant-loop-place : goal.invariant-loop-place
invariant-loop-place l = text_under (drop l.place l.self.texts) l.name ≡ text_under l.self.texts l.name
