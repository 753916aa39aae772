use Rattle.std.proofs.Common.{◌≡◌, ◌∙◌, ap, sym}
use Rattle.qtc_base.specs.Words.{Uncut, words_left}
use Rattle.qtc_job.specs.Lines.{line_of, line_of_words, silent, too_long, unknown}
use Rattle.qtc_job.proofs.StepLemmas.{line-long, line-short, is-eleven, is-unknown, reader-silent, step-silent}
use Rattle.qtc_job.proofs.readers.Reader.read_line.Goals as goal

pub returns-then-line-gt-MOST_LINE : goal.returns-then-line-gt-MOST_LINE
returns-then-line-gt-MOST_LINE c = λ above is.
    rw (line-long c.args.line.now c.if-line-gt-MOST_LINE.true) (c.refused.ensures above c.args.self.now.jobs too_long is.draft tt is-eleven)

pub returns-in-Silent : goal.returns-in-Silent
returns-in-Silent c = λ above is.
    let l : line_of c.args.line.now ≡ silent = line-short c.args.line.now c.if-line-gt-MOST_LINE.false ∙ (ap (λ (s : Uncut). line_of_words (words_left s)) (sym c.new-words.ensures) ∙ c.in-Silent.ensures.line) in
    rw l (reader-silent above c.args.number c.args.self.now is, step-silent above c.args.number c.args.self.now)

pub returns-in-Unknown : goal.returns-in-Unknown
returns-in-Unknown c = λ above is.
    let l : line_of c.args.line.now ≡ unknown = line-short c.args.line.now c.if-line-gt-MOST_LINE.false ∙ (ap (λ (s : Uncut). line_of_words (words_left s)) (sym c.new-words.ensures) ∙ c.in-Unknown.ensures.line) in
    rw l (c.refused-in-Unknown.ensures above c.args.self.now.jobs unknown is.draft tt is-unknown)
