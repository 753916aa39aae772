use Rattle.std.proofs.Common.{◌≡◌, ◌++◌, ◌∷◌, [], List, ℕ, append_assoc, codes}
use Rattle.qtc_base.specs.Decimal.{decimal_text}
use Rattle.qtc_events.proofs.events.append_ready.Goals as goal

grouped : (old event word begin space end line_feed : List ℕ) → ((((old ++ (event ++ word)) ++ begin) ++ space) ++ end) ++ line_feed ≡ old ++ ((event ++ (((word ++ begin) ++ space) ++ end)) ++ line_feed)
grouped old event word begin space end line_feed = simp append_assoc

pub returns-clause-ok : goal.returns-clause-ok
returns-clause-ok c =
    let begin : c.from.result ≡ c.args.begin = c.from.ensures in
    let end : c.from-2.result ≡ c.args.end = c.from-2.ensures in
    rw (c.in_ok-append-3.ensures.ok, c.in_ok-decimal-2.ensures.ok, c.in_ok-append-2.ensures.ok, c.in_ok-decimal.ensures.ok, c.in_ok-append.ensures.ok, begin, end) (grouped c.args.into.now (codes "event ") (codes "ready ") (decimal_text c.args.begin) (codes " ") (decimal_text c.args.end) (10 ∷ []))
