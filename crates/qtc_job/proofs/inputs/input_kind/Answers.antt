use Rattle.std.proofs.Common.{ap}
use Rattle.qtc_job_file.specs.declared.jobs.Input.TheVariants.{Lines, Files}
use Rattle.qtc_job.proofs.inputs.input_kind.Goals as goal

pub returns-in-Pieces : goal.returns-in-Pieces
returns-in-Pieces c = rw c.in-Pieces.is (c.read_pieces.ensures _)

pub returns-in-Ok : goal.returns-in-Ok
returns-in-Ok c = let e = c.in-Ok.ensures _ in rw c.in-Lines.is (e.0, ap Lines e.1)

pub returns-in-Err : goal.returns-in-Err
returns-in-Err c = rw c.in-Lines.is (c.in-Err.ensures _)

pub returns-in-Ok-read_texts : goal.returns-in-Ok-read_texts
returns-in-Ok-read_texts c = let e = c.in-Ok-read_texts.ensures _ in rw c.in-Files.is (e.0, ap Files e.1)

pub returns-in-Err-read_texts : goal.returns-in-Err-read_texts
returns-in-Err-read_texts c = rw c.in-Files.is (c.in-Err-read_texts.ensures _)
