-- What an inbox's pass ends as, where a `&mut` to its pass of the future is lent. (Own.)
use Rattle.std.specs.Borrow.{Lends, Fml, MutBor, RattleType}
use Rattle.qtc_shared.specs.Passes.{PassState}
use Rattle.qtc_shared.specs.contracts.pass.Pass as pass_type
use Rattle.qtc_inbox.specs.Inboxes.{InboxPassState}
use Rattle.qtc_inbox.specs.contracts.inbox_pass.InboxPass.{the_row}

module _ (V : RattleType) (own : MutBor (InboxPassState V.Denot)) where
  -- once the borrow ends, the pass is what it shows last
  abbrev pub lends_pass : MutBor (PassState V.Denot) → Fml
  lends_pass lent = Lends (the_row V) (pass_type.the_row V) own lent (λ pass. record own.now { pass = pass })
