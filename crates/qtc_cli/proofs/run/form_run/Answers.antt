use Rattle.std.proofs.Common.{sym, ◌∙◌}
use Rattle.qtc_cli.proofs.Runs.{run-stops}
use Rattle.qtc_cli.proofs.run.form_run.Goals as goal

pub returns-in-Err-clause-err : goal.returns-in-Err-clause-err
returns-in-Err-clause-err g c =
    rw c.from.ensures (run-stops c.args.name.now _ _ _ c.in_ok-file.file c.in_ok-loaded.loaded c.in-Err.fault c.in_ok-file.ensures.ok (sym c.is_runnable.ensures ∙ c.if-not-is_runnable.false) c.in_ok-loaded.ensures.ok c.in-Err.ensures.too_large)
