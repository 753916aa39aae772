use Rattle.std.proofs.Common.{◌≡◌, ◌∷◌, ◌++◌, [], ap, sym, subst, Contains}
use Rattle.std.proofs.lemmas.List.Elements.{Contains-push}
use Rattle.qtc_tests.proofs.claim.receipts.claim_one.Goals as goal

pub settle-requires-clause-claimed : goal.settle-requires-clause-claimed
settle-requires-clause-claimed c =
    let is = c.in-Some.ensures.piece in
    let addition = c.in-Some.piece.addition in
    let receipt : c.gather-receipt.result.addition ≡ addition = ap (λ r. r.addition) c.gather-receipt.ensures.receipt in
    let claims : c.claim.new.seat.worker.claims ≡ c.args.seat.now.worker.claims ++ addition ∷ [] = ap (λ w. w.claims) is.adds.grown in
    subst (Contains c.claim.new.seat.worker.claims) (sym receipt) (subst (λ them. Contains them addition) (sym claims) (Contains-push c.args.seat.now.worker.claims addition))
