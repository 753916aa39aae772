use Rattle.std.proofs.Common.{option_copied, ap, sym, ◌∙◌, arith}
use Rattle.qtc_store.specs.Inside.{waiting_in}
use Rattle.qtc_store.proofs.PendingLemmas.{least_within, least_past, least_none}
use Rattle.qtc_store.proofs.pending.Pending.first_covered.Goals as goal

pub returns-in-Some : goal.returns-in-Some
returns-in-Some g c =
    sym (least_within (waiting_in c.args.self.now) c.args.begin c.args.total c.requires.apart (sym c.covers.ensures ∙ c.if-covers.false) c.in-Some.batch.now (sym c.in-Some.ensures) (omega arith))

pub returns-in_default : goal.returns-in_default
returns-in_default g c =
    sym (least_past (waiting_in c.args.self.now) c.args.begin c.args.total c.requires.apart (sym c.covers.ensures ∙ c.if-covers.false) c.in-Some.batch.now (sym c.in-Some.ensures) (omega arith))

pub returns-in_default-2 : goal.returns-in_default-2
returns-in_default-2 g c =
    sym (least_none (waiting_in c.args.self.now) c.args.begin c.args.total c.requires.apart (sym c.covers.ensures ∙ c.if-covers.false) (sym c.first_after.ensures ∙ ap option_copied c.in_default.is))
