use Rattle.qtc_job.proofs.CanonicalLaws.{canonical-read}
use Rattle.qtc_job.proofs.laws.canonical_texts_are_read_back.Goals as goal

pub returns : goal.returns
returns c = canonical-read
