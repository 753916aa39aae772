use Rattle.std.proofs.Common.{refl, arith}
use Rattle.std.proofs.lemmas.Bool.{false≢true}
use Rattle.qtc_cli.proofs.Workers.{no-number, some-workers}
use Rattle.qtc_cli.proofs.command_forms.workers_of.Goals as goal

pub returns-in_default-clause-spelled : goal.returns-in_default-clause-spelled
returns-in_default-clause-spelled c = no-number c.args.word.now (λ n. false≢true (c.in_default.ensures.exactly.1 n))

pub returns-clause-spelled : goal.returns-clause-spelled
returns-clause-spelled c =
    let some = c.if-number-eq0.false in
    some-workers c.args.word.now c.in-Some.number (c.in-Some.ensures.exactly.0 refl) c.in-Some.ensures.value (omega arith) c.if-number-gt-MOST_WORKERS.false
