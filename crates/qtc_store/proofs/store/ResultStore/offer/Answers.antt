use Rattle.std.proofs.Common.{Err, unwrap_or, ap, sym, ◌∙◌}
use Rattle.qtc_store.proofs.Offers.{offered-refused}
use Rattle.qtc_store.proofs.store.ResultStore.offer.Goals as goal

pub returns-in-Err-Taken-clause-ok : goal.returns-in-Err-Taken-clause-ok
returns-in-Err-Taken-clause-ok g c =
    let begin = c.unwrap_or-begin.ensures ∙ ap (unwrap_or c.args.addition.begin) c.insert_index.ensures.index in
    let taken = (c.add_batch.ensures.taken c.in-Err-Taken.field-0-0).0 (c.in-Err-Taken.is ∙ ap Err c.in-Err-Taken.field-0-is) in
    c.in-Err-Taken.ensures.unchanged ∙ sym (offered-refused c.args.self.now c.args.addition c.unwrap_or-begin.result c.in-Err-Taken.field-0-0 begin taken)
