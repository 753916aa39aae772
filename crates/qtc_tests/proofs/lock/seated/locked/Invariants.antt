use Rattle.qtc_tests.proofs.lock.seated.locked.Given as goal

abbrev pub ghosts-new : goal.ghosts-new
ghosts-new g a = record { key = g.J.Names.key; named = g.J.Names.named }
