use Rattle.std.proofs.Common.{ap, ◌∙◌, Some}
use Rattle.qtc_cli.specs.Commands.{form_said}
use Rattle.qtc_cli.proofs.Checks.{check-call-of}
use Rattle.qtc_cli.proofs.check.check_words.Goals as goal

pub returns-in-Check : goal.returns-in-Check
returns-in-Check g c = check-call-of _ _ _ _ _ _ _ _ _ (c.in-Some.ensures.says ∙ ap (λ t. Some (form_said t c.in-Some.command.job.now)) c.in-Check.is) c.check_named.ensures
