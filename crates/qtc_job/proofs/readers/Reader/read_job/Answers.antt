use Rattle.qtc_base.specs.Words.{words_left}
use Rattle.qtc_job.proofs.readers.Reader.read_job.Goals as goal

pub returns-in-Ok : goal.returns-in-Ok
returns-in-Ok c = λ above is. c.open.ensures above c.args.self.now (c.in-Ok.ensures above c.args.number is)

pub returns-in-Err : goal.returns-in-Err
returns-in-Err c = λ above is. (c.in-Err.ensures above c.args.number is).0 (words_left c.args.words.now)
