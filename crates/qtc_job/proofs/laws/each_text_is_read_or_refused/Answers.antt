use Rattle.qtc_job.proofs.SearchLemmas.{read-or-refused}
use Rattle.qtc_job.proofs.laws.each_text_is_read_or_refused.Goals as goal

pub returns : goal.returns
returns c = read-or-refused
