use Rattle.std.proofs.Common.{ap, sym, ◌∙◌}
use Rattle.qtc_future.specs.Future.{journal_of}
use Rattle.qtc_future.proofs.OneMore.{entries-read}
use Rattle.qtc_future.proofs.future_core.FutureCore.journal.Goals as goal

pub returns-clause-journal : goal.returns-clause-journal
returns-clause-journal g c =
    let inside = c.self.inside in
    c.journal.ensures ∙ sym (entries-read inside.store.batches inside.failure inside.book.journal) ∙ ap journal_of c.self.view_is
