use Rattle.qtc_job.proofs.LawfulLaws.{read-lawful}
use Rattle.qtc_job.proofs.laws.files_that_are_read_are_lawful.Goals as goal

pub returns : goal.returns
returns c = read-lawful
