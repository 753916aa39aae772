use Rattle.qtc_inbox.proofs.line.Line.new.Given as goal

abbrev pub ghosts-open : goal.ghosts-open
ghosts-open g a = record { key = record { counter = a._counter.now; table = g.N.Table.cells; parts = a.parts } }
