use Rattle.std.proofs.Common.{refl}
use Rattle.std.specs.Prelude.{map, string_bytes}
use Rattle.qtc_outside.specs.SureSink.{sure_intake}
use Rattle.qtc_outside.specs.SureTexts.{sure_source}
use Rattle.qtc_cli.specs.Seen.{seen}
use Rattle.qtc_cli.proofs.Sure.{sure-call}
use Rattle.qtc_cli.proofs.run.tests.run_surely.Goals as goal

pub returns : goal.returns
returns g c =
    sure-call
    (seen (map string_bytes c.args.words.now) (sure_source c.args.texts.now) (sure_source c.run_words.new.texts) (sure_intake c.args.out.now) (sure_intake c.run_words.new.out) (sure_intake c.args.err.now) (sure_intake c.run_words.new.err) c.run_words.result.status)
    c.run_words.result.report c.run_words.ensures refl refl refl refl
