use Rattle.std.proofs.Common.{ℕ, Option, unwrap_or, ap, sym, ◌∙◌}
use Rattle.qtc_job.proofs.readers.Reader.finish.Goals as goal

pub returns-in-Ok : goal.returns-in-Ok
returns-in-Ok c = λ above line is.
    let cl = c.in-Ok.ensures above line is in
    (cl.end_bad, c.unwrap_or-workers.ensures ∙ ap (λ (w : Option ℕ). unwrap_or w 4) cl.workers, sym cl.end_jobs)

pub returns-in-Err : goal.returns-in-Err
returns-in-Err c = λ above line is. c.last_fault.ensures above line c.args.self.draft (c.in-Err.ensures above line is).1
