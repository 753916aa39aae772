use Rattle.std.proofs.Common.{sym, arith}
use Rattle.qtc_store.specs.Inside.{waiting_in}
use Rattle.qtc_store.proofs.PendingLemmas.{split_at, none_split, covered_in_split, covered_in_none, end_in_split}
use Rattle.qtc_store.proofs.pending.Pending.covers.Goals as goal

pub overflow_add-result : goal.overflow_add-result
overflow_add-result g c =
    let s = split_at c.args.index (waiting_in c.args.self.now) c.in-Some.batch.now c.requires.apart (sym c.in-Some.ensures) in
    let bounded = c.requires.bounded in
    omega (arith, bounded, end_in_split c.args.index (waiting_in c.args.self.now) c.in-Some.batch.now s)

pub returns-in-Some : goal.returns-in-Some
returns-in-Some g c =
    let s = split_at c.args.index (waiting_in c.args.self.now) c.in-Some.batch.now c.requires.apart (sym c.in-Some.ensures) in
    sym (covered_in_split c.args.index (waiting_in c.args.self.now) c.in-Some.batch.now s c.requires.apart)

pub returns-in-None : goal.returns-in-None
returns-in-None g c =
    sym (covered_in_none c.args.index (waiting_in c.args.self.now) (none_split c.args.index (waiting_in c.args.self.now) c.requires.apart (sym c.in-None.ensures)))
