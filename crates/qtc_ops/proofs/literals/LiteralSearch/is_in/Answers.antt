use Rattle.std.proofs.Common.{◌≡◌, ◌+◌, ◌-◌, ◌≤◌, ◌∙◌, leb, length, take, ap, arith}
use Rattle.std.proofs.lemmas.Grind.{common_steps}
use Rattle.qtc_ops.proofs.PredicateLemmas.{found-test, front-found, front-nowhere}
use Rattle.qtc_ops.proofs.literals.LiteralSearch.is_in.Goals as goal

pub returns-then-item-room : goal.returns-then-item-room
returns-then-item-room c =
    c.is_some.ensures ∙ found-test c.args.item.now c.args.self.now c.find.result (rw c.self.view_is at c.find.ensures)

pub returns-in-Some : goal.returns-in-Some
returns-in-Some c =
    let len : length c.needle-len.result.now ≡ length c.args.self.now = ap length (c.needle-len.ensures ∙ c.self.view_is) in
    let front : take (length c.args.item.now) (take (length c.needle-len.result.now + 32 - 1) c.padded.result) ≡ c.args.item.now = grind (arith, common_steps) in
    let within : length c.args.item.now ≤ length (take (length c.needle-len.result.now + 32 - 1) c.padded.result) = grind (arith, common_steps) in
    ap (λ n. leb (c.in-Some.place + n) (length c.args.item.now)) len
    ∙ front-found _ c.args.item.now c.args.self.now front within c.in-Some.place (rw (c.in-Some.is, c.self.view_is) at c.find-2.ensures)

pub returns-in-None : goal.returns-in-None
returns-in-None c =
    let front : take (length c.args.item.now) (take (length c.needle-len.result.now + 32 - 1) c.padded.result) ≡ c.args.item.now = grind (arith, common_steps) in
    let within : length c.args.item.now ≤ length (take (length c.needle-len.result.now + 32 - 1) c.padded.result) = grind (arith, common_steps) in
    front-nowhere _ c.args.item.now c.args.self.now front within (rw (c.in-None.is, c.self.view_is) at c.find-2.ensures)
