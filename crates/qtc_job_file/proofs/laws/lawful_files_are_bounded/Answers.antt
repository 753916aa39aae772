use Rattle.qtc_job_file.proofs.BoundLemmas.{lawful-bounded}
use Rattle.qtc_job_file.proofs.laws.lawful_files_are_bounded.Goals as goal

pub returns : goal.returns
returns c = lawful-bounded
