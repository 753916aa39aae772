use Rattle.std.proofs.Common.{◌≡◌, ◌≤◌, ◌+◌, ◌<◌, ◌^◌, ◌++◌, ◌∷◌, [], arith, ap, subst}
use Rattle.qtc_claim.specs.Claims.{IsWithinLimits, Worker, addition_at, added}
use Rattle.qtc_claim.specs.Inside.{worker_of}
use Rattle.qtc_claim.proofs.Seats.{in_word, past_within, worker_is, claim_gives}
use Rattle.qtc_claim.proofs.counter.Counter.claim.Goals as goal

pub overflow_add-seat-then-begin-n : goal.overflow_add-seat-then-begin-n
overflow_add-seat-then-begin-n c =
    let worker = worker_of c.seat.inside.seat.me.0 in
    let a = addition_at c.add-begin.result c.args.size in
    let looked = worker_is _ _ _ c.look.new.seat c.look.ensures.worker in
    let within = past_within c.seat.inside.seat.me.0.n worker.claims a in
    let same : added ((worker_of c.look.new.seat.me.0).claims ++ a ∷ []) ≡ added (worker.claims ++ a ∷ []) = ap (λ (w : Worker). added (w.claims ++ a ∷ [])) looked in
    let all : added ((worker_of c.look.new.seat.me.0).claims ++ a ∷ []) ≤ c.add-begin.result + c.args.size = c.add-begin.ensures.sees.added in
    let limits = subst (λ l. IsWithinLimits l.n l.workers) c.self.view_is c.self.invariant.limits in
    let fits : c.add-begin.result + c.args.size < 2 ^ 64 = in_word _ _ _ limits.indexes limits.few c.add-begin.ensures.sees.bound in
    let blank = c.seat.invariant.blank in
    omega arith

pub returns-clause-piece : goal.returns-clause-piece
returns-clause-piece c =
    claim_gives c.args.self.now c.args.size c.add-begin.result c.look.result c.args.seat.now.worker (worker_of c.seat.inside.seat.me.0) (worker_of c.look.new.seat.me.0)
    (worker_of c.add-begin.new.seat.me.0) (worker_of c.cut.new.seat.me.0) c.cut.result
    (ap (λ l. l.worker) c.seat.view_is)
    (worker_is _ _ _ c.look.new.seat c.look.ensures.worker)
    (worker_is _ _ _ c.add-begin.new.seat c.add-begin.ensures.worker)
    (worker_is _ _ _ c.cut.new.seat c.cut.ensures.worker)
    c.cut.ensures.piece
    c.look.ensures.sees.later
    c.add-begin.ensures.later
    (subst (λ l. c.add-begin.result < l.n) c.self.view_is c.if-begin-n.false)
