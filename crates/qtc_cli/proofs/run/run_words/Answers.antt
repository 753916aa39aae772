use Rattle.std.proofs.Common.{ap, ◌∙◌, Some, refl}
use Rattle.std.specs.Prelude.{map, string_bytes}
use Rattle.qtc_cli.specs.Commands.{form_said}
use Rattle.qtc_cli.proofs.Runs.{run-call-of, check-is-call, usage-call-of}
use Rattle.qtc_cli.proofs.run.run_words.Goals as goal

pub returns-in_default : goal.returns-in_default
returns-in_default g c =
    usage-call-of (map string_bytes c.args.words.now) (g.T.Texts.source c.args.texts.now) _ (g.S.Sink.intake c.args.out.now) _ _ _ _ _ c.in_default.ensures.says c.refused.ensures.told refl refl c.refused.ensures.no_report

pub returns-in-Check : goal.returns-in-Check
returns-in-Check g c =
    check-is-call (map string_bytes c.args.words.now) _ _ _ _ _ _ _ _ _ (c.in-Some.ensures.says ∙ ap (λ t. Some (form_said t c.in-Some.command.job.now)) c.in-Check.is) c.check_named.ensures refl

pub returns-in-Run : goal.returns-in-Run
returns-in-Run g c =
    run-call-of c.files_that_are_read_are_lawful.ensures c.good_runs_finish.ensures (map string_bytes c.args.words.now) _ _ _ _ _ _ _ _ _ _ (c.in-Some.ensures.says ∙ ap (λ t. Some (form_said t c.in-Some.command.job.now)) c.in-Run.is) c.run_named.ensures
