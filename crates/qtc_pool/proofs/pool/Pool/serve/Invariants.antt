use Rattle.qtc_pool.proofs.pool.Pool.serve.Given as goal

abbrev pub invariant-loop : goal.invariant-loop
invariant-loop g l = g.K.Becomes.becomes l.fn.desk l.desk
