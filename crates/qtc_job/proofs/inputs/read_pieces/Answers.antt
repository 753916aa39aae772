use Rattle.qtc_base.specs.Words.{words_left}
use Rattle.qtc_job.specs.Forms.{number, literal}
use Rattle.qtc_job.proofs.FormLemmas.{exactly-two}
use Rattle.qtc_job.proofs.inputs.read_pieces.Goals as goal

pub returns : goal.returns
returns c = λ names.
    rw (c.in-Some.ensures.steps, c.in-Some-next.ensures.steps, exactly-two names (number 1 67108864) literal c.in-Some.size.now c.in-Some-next.text.now (words_left c.next-2.new.self)) (c.ended.ensures _ _ (c.pieces_of-read.ensures _ _ _ _ c.read.ensures c.read-2.ensures))
