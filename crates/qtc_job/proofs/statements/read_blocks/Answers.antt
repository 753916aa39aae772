use Rattle.std.proofs.Common.{ℕ, List, map, subst, sym}
use Rattle.qtc_base.specs.Decimal.{number_of}
use Rattle.qtc_base.specs.Words.{words_left}
use Rattle.qtc_job.specs.Answers.{Gives}
use Rattle.qtc_job.specs.Forms.{number}
use Rattle.qtc_job.proofs.FormLemmas.{up_to-many}
use Rattle.qtc_job.proofs.statements.read_blocks.Goals as goal

pub returns : goal.returns
returns c = λ names.
    subst (λ (codes : List ℕ). Gives codes (map number_of (words_left c.args.words.now)) c.read_many.result) (sym (up_to-many names 16 (number 1 65536) (words_left c.args.words.now))) c.read_many.ensures
