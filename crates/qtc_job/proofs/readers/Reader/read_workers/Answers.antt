use Rattle.std.proofs.Common.{[], refl}
use Rattle.qtc_base.specs.Words.{words_left}
use Rattle.qtc_job.specs.Lines.{workers}
use Rattle.qtc_job.proofs.StepLemmas.{workers-good}
use Rattle.qtc_job.proofs.readers.Reader.read_workers.Goals as goal

pub returns-in-Ok : goal.returns-in-Ok
returns-in-Ok c = λ above is.
    let e = c.in-Ok.ensures.gives _ _ _ (c.read_number.ensures []) (c.workers_code.ensures above c.args.number (words_left c.args.words.now) is) in
    workers-good above c.args.number (words_left c.args.words.now) c.args.self.now _ c.in-Ok.count is e.0 e.1 refl refl refl

pub returns-in-Err : goal.returns-in-Err
returns-in-Err c = λ above is.
    c.refused.ensures above c.args.self.now.jobs (workers (words_left c.args.words.now)) is.draft tt (c.in-Err.ensures.gives _ _ _ (c.read_number.ensures []) (c.workers_code.ensures above c.args.number (words_left c.args.words.now) is))
