use Rattle.std.proofs.Common.{◌+◌, arith}
use Rattle.qtc_job.specs.Lines.{line_of}
use Rattle.qtc_job.proofs.LawfulLaws.{ok-lawful}
use Rattle.qtc_job.proofs.ParseLemmas.{number-few, refused, ends-reads, ends-refuses}
use Rattle.qtc_job.proofs.parsing.parse.Goals as goal

pub overflow_add-number : goal.overflow_add-number
overflow_add-number c =
    let few = number-few c.args.text.now c.loop-line.lines c.loop-line.reader c.loop-line.number c.loop-line.invariant in
    omega (arith, c.requires)

pub returns-in-Err-clause-refuses : goal.returns-in-Err-clause-refuses
returns-in-Err-clause-refuses c =
    let r = c.loop-line.invariant in
    refused c.args.text.now c.loop-line.lines c.next.new.self c.in-Some.line.now c.loop-line.reader c.loop-line.number c.settle.result r c.in-Some.ensures.steps (c.settle.ensures r.above (line_of c.in-Some.line.now) c.loop-line.reader.draft (c.in-Err.ensures r.above r.is))

pub returns-clause-reads : goal.returns-clause-reads
returns-clause-reads c =
    let r = c.loop-line.invariant in
    ends-reads c.args.text.now c.loop-line.lines c.loop-line.reader c.loop-line.number c.finish.result r c.in_default.ensures.steps.0 (c.finish.ensures r.above (c.loop-line.number + 1) r.is)

pub returns-clause-refuses : goal.returns-clause-refuses
returns-clause-refuses c =
    let r = c.loop-line.invariant in
    ends-refuses c.args.text.now c.loop-line.lines c.loop-line.reader c.loop-line.number c.finish.result r c.in_default.ensures.steps.0 (c.finish.ensures r.above (c.loop-line.number + 1) r.is)

pub returns-clause-lawful : goal.returns-clause-lawful
returns-clause-lawful c = ok-lawful c.args.text.now c.finish.result (returns-clause-reads c)
