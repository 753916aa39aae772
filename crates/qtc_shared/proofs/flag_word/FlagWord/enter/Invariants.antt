use Rattle.qtc_shared.proofs.flag_word.FlagWord.enter.Given as goal

abbrev pub ghosts-store : goal.ghosts-store
ghosts-store g a = record { journal = a.core.now.calls }
