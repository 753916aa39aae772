use Rattle.std.proofs.Common.{◌∷◌, List, subst}
use Rattle.qtc_job.specs.Lines.{Line, line_of, lines_of}
use Rattle.qtc_job.proofs.MarkLemmas.{IsMarkedTo, marks-start, marks-end, marks-says, marks-other, lines-next, seen-job, below-job}
use Rattle.qtc_job.proofs.parsing.marks_below.Goals as goal

pub loop-line-init : goal.loop-line-init
loop-line-init c = marks-start (lines_of c.args.lines) c.args.marks

pub returns-in-Job : goal.returns-in-Job
returns-in-Job c = λ own o.
    let next = lines-next c.loop-line.left c.next.new.self c.in-Some.line.now c.in-Some.ensures.steps in
    let m = subst (λ (ls : List Line). IsMarkedTo (lines_of c.args.lines) ls c.args.marks c.loop-line.marks) next c.loop-line.invariant in
    marks-end (lines_of c.args.lines) (line_of c.in-Some.line.now ∷ lines_of c.next.new.self) c.args.marks c.loop-line.marks own m (below-job (line_of c.in-Some.line.now) (lines_of c.next.new.self) (seen-job (line_of c.in-Some.line.now) c.in-Job.ensures)) o

pub loop-line-preserved-in-Says : goal.loop-line-preserved-in-Says
loop-line-preserved-in-Says c =
    let next = lines-next c.loop-line.left c.next.new.self c.in-Some.line.now c.in-Some.ensures.steps in
    let m = subst (λ (ls : List Line). IsMarkedTo (lines_of c.args.lines) ls c.args.marks c.loop-line.marks) next c.loop-line.invariant in
    marks-says (lines_of c.args.lines) (lines_of c.next.new.self) c.args.marks c.loop-line.marks c.with_line-marks.result (line_of c.in-Some.line.now) c.in-Says.keyword c.in-Says.ensures m c.with_line-marks.ensures

pub loop-line-preserved : goal.loop-line-preserved
loop-line-preserved c =
    let next = lines-next c.loop-line.left c.next.new.self c.in-Some.line.now c.in-Some.ensures.steps in
    let m = subst (λ (ls : List Line). IsMarkedTo (lines_of c.args.lines) ls c.args.marks c.loop-line.marks) next c.loop-line.invariant in
    marks-other (lines_of c.args.lines) (lines_of c.next.new.self) c.args.marks c.loop-line.marks (line_of c.in-Some.line.now) c.line_head.result c.line_head.ensures c.in_default-line_head.not-Job c.in_default-line_head.not-Says m
