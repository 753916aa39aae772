use Rattle.qtc_lock.proofs.lock.KeyLock.new.Given as goal

abbrev pub ghost-named : goal.ghost-named
ghost-named g a = g.N.Names.key
