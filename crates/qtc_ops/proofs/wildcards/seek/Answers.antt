use Rattle.qtc_ops.proofs.WildcardLemmas.{seek-empty, seek-found}
use Rattle.qtc_ops.proofs.wildcards.seek.Goals as goal

pub returns-in-empty-clause-same : goal.returns-in-empty-clause-same
returns-in-empty-clause-same c = seek-empty c.args.symbols.now c.args.bytes.now c.in-empty.len_below

pub returns-in-len1-up-clause-same : goal.returns-in-len1-up-clause-same
returns-in-len1-up-clause-same c =
    seek-found c.args.symbols.now c.args.bytes.now c.memchr.result c.unwrap_or-place.result c.in-len1-up.len_at_least c.if-symbol-ne42.true c.if-symbol-ne63.true c.memchr.ensures c.unwrap_or-place.ensures
