use Rattle.qtc_job_file.specs.Keywords.{keyword_of}
use Rattle.qtc_job_file.proofs.keywords.Keyword.of.Goals as goal

pub returns : goal.returns
unfolding keyword_of
returns c = c.one_of.ensures
