use Rattle.qtc_base.proofs.EscapeLemmas.{plain-two}
use Rattle.qtc_base.proofs.escaping.plain_len.Goals as goal

pub returns-clause-plain : goal.returns-clause-plain
returns-clause-plain c = plain-two c.args.raw.now _ _ c.plain_blocks-blocks.ensures.plain (rw c.split_at.ensures.back at c.plain_front.ensures.plain)
