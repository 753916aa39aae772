use Rattle.qtc_kernel.proofs.board.board_lock.Given as goal

abbrev pub ghosts-new : goal.ghosts-new
ghosts-new g a = record { key = g.J.Names.key; named = g.J.Names.named }
