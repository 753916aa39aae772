-- The law of calls, and what a worker's loop needs.
use Rattle.std.proofs.Common.{◌≡◌, ℕ, ◌+◌, ◌<◌, ◌≤◌, ◌==◌, cond, nat_lt, nat_le, List, [], ◌∷◌, ◌++◌, map, sym, ap, ◌∙◌, subst, arith, inl, inr, All, length, get_or, append-nil, Option, Result, Some, Ok, IfSome, IfOk, option_to_list}
use Rattle.std.proofs.lemmas.Bool.Decides.{nat_tests}
use Rattle.std.proofs.lemmas.List.Sums.{sum_by-append, sum_by_push}
use Rattle.std.proofs.lemmas.List.{map-append}
use Rattle.std.proofs.lemmas.List.Elements.{All-pop}
use Rattle.std.proofs.lemmas.List.Concat.{flat_map-append}
use native.Mathlib.Decide.{dec_lt}
use Rattle.qtc_base.specs.Ranges.{in_range, times_covered, Tiles, times_called}
use Rattle.qtc_claim.specs.Claims.{Addition, added, Worker, new_worker, claims_of, clipped}
use Rattle.qtc_claim.specs.Counter.{CounterId, PieceState, TallyState, ClaimsPiece, ClaimsNone, HasAll, IsEnd, KnowsClaims, added_by}
use Rattle.qtc_claim.specs.Laws.{AreCalls, EachOnce, CallsComeTogether, NoneMissing, added_for}

pub calls_together : (n : ℕ) (claims more : List Addition) (calls further : List ℕ) → AreCalls n claims calls → AreCalls n more further → AreCalls n (claims ++ more) (calls ++ further)
calls_together n claims more calls further are are' index =
    let one = are index in
    let other = are' index in
    let called : times_called (calls ++ further) index ≡ times_called calls index + times_called further index = sum_by-append (λ call. cond (call == index) 1 0) calls further in
    let covered : times_covered (map (clipped n) claims ++ map (clipped n) more) index ≡ times_covered (map (clipped n) claims) index + times_covered (map (clipped n) more) index =
    sum_by-append (λ (range : ℕ × ℕ). cond (in_range index range) 1 0) (map (clipped n) claims) (map (clipped n) more)
    in
    let joined : times_covered (map (clipped n) (claims ++ more)) index ≡ times_covered (map (clipped n) claims ++ map (clipped n) more) index =
    ap (λ ranges. times_covered ranges index) (map-append (clipped n) claims more)
    in
    omega arith

pub calls_once : (n : ℕ) (claims : List Addition) (calls : List ℕ) → Tiles (map (clipped n) claims) n → AreCalls n claims calls → EachOnce n calls
calls_once n claims calls tiles are index = by (dec_lt index n)
  where
    by : Dec (index < n) → times_called calls index ≡ cond (nat_lt index n) 1 0
    by (yes below) = are index ∙ tiles.once index below ∙ grind (arith, nat_tests)
    by (no past) = are index ∙ tiles.none index (omega arith) ∙ grind (arith, nat_tests)

pub calls_law : CallsComeTogether
calls_law = record {
  together = calls_together;
  at_most_once = λ n claims calls apart are index. let below = apart.once_below index in let is = are index in omega arith;
  each_once = calls_once;
}

-- one call more
pub listed_next : (calls : List ℕ) (begin index k before : ℕ) → begin ≤ index → times_called calls k ≡ before + cond (in_range k (begin, index)) 1 0
    → times_called (calls ++ index ∷ []) k ≡ before + cond (in_range k (begin, index + 1)) 1 0
listed_next calls begin index k before begun so_far = sum_by_push (λ call. cond (call == k) 1 0) calls index ∙ (let more = in_next k begin index begun in omega arith)
  where
    in_next : (k begin index : ℕ) → begin ≤ index → cond {A = ℕ} (in_range k (begin, index)) 1 0 + cond (index == k) 1 0 ≡ cond (in_range k (begin, index + 1)) 1 0
    in_next k begin index begun = grind (arith, nat_tests)

pub listed_none : (k begin : ℕ) → cond {A = ℕ} (in_range k (begin, begin)) 1 0 ≡ 0
listed_none k begin = grind (arith, nat_tests)

-- the calls of one claim more
pub called_next : (n : ℕ) (claims : List Addition) (calls calls' : List ℕ) (addition : Addition) → AreCalls n claims calls
    → ((index : ℕ) → times_called calls' index ≡ times_called calls index + cond (in_range index (clipped n addition)) 1 0) → AreCalls n (claims ++ addition ∷ []) calls'
called_next n claims calls calls' addition are more index =
    let one = are index in
    let next = more index in
    let joined : times_covered (map (clipped n) (claims ++ addition ∷ [])) index ≡ times_covered (map (clipped n) claims ++ clipped n addition ∷ []) index =
    ap (λ ranges. times_covered ranges index) (map-append (clipped n) claims (addition ∷ []))
    in
    let pushed = sum_by_push (λ (range : ℕ × ℕ). cond (in_range index range) 1 0) (map (clipped n) claims) (clipped n addition) in
    omega arith

-- a claim that gave no piece gives no call
pub called_none : (n : ℕ) (claims : List Addition) (calls : List ℕ) (addition : Addition) → n ≤ addition.begin → AreCalls n claims calls → AreCalls n (claims ++ addition ∷ []) calls
called_none n claims calls addition past are = called_next n claims calls calls addition are (λ index. let none = nothing index in omega arith)
  where
    nothing : (index : ℕ) → cond {A = ℕ} (in_range index (clipped n addition)) 1 0 ≡ 0
    nothing index = grind (arith, nat_tests)

-- what a claim and the calls on its piece make of the calls
pub called_piece : (counter : CounterId) (size : ℕ) (before after : Worker) (piece : PieceState) (calls calls' : List ℕ) (range : ℕ × ℕ) → ClaimsPiece counter size before after piece
    → range ≡ clipped piece.of.n piece.addition → AreCalls counter.n before.claims calls
    → ((index : ℕ) → times_called calls' index ≡ times_called calls index + cond (in_range index range) 1 0)
    → AreCalls counter.n after.claims calls'
called_piece counter size before after piece calls calls' range claim cut are more =
    let range_is : range ≡ clipped counter.n piece.addition = cut ∙ ap (λ (c : CounterId). clipped c.n piece.addition) claim.of in
    let listed = called_next counter.n before.claims calls calls' piece.addition are (λ index. more index ∙ ap (λ r. times_called calls index + cond (in_range index r) 1 0) range_is) in
    subst (λ (w : Worker). AreCalls counter.n w.claims calls') (sym claim.adds.grown) listed

pub called_no_piece : (counter : CounterId) (size : ℕ) (before after : Worker) (calls : List ℕ) → ClaimsNone counter.n size before after → AreCalls counter.n before.claims calls → AreCalls counter.n after.claims calls
called_no_piece counter size before after calls none are = elim none [
  | inl past ↦ subst (λ (w : Worker). AreCalls counter.n w.claims calls) (sym past.1) are
  | inr added ↦ subst (λ (w : Worker). AreCalls counter.n w.claims calls) (sym added.2.grown) (called_none counter.n before.claims calls added.0 added.1 are)
]

-- one worker more
pub claims_next : (workers : List Worker) (worker : Worker) → claims_of (workers ++ worker ∷ []) ≡ claims_of workers ++ worker.claims
claims_next workers worker = flat_map-append (λ (it : Worker). it.claims) workers (worker ∷ []) ∙ ap (λ l. claims_of workers ++ l) (append-nil worker.claims)

pub called_worker : (n : ℕ) (workers workers' : List Worker) (worker : Worker) (calls calls' further : List ℕ) → workers' ≡ workers ++ worker ∷ [] → calls' ≡ calls ++ further
    → AreCalls n (claims_of workers) calls → AreCalls n worker.claims further → AreCalls n (claims_of workers') calls'
called_worker n workers workers' worker calls calls' further workers_are calls_are are are' =
    let both = calls_together n (claims_of workers) worker.claims calls further are are' in
    let claims_are : claims_of workers' ≡ claims_of workers ++ worker.claims = ap claims_of workers_are ∙ claims_next workers worker in
    subst (λ cs. AreCalls n cs calls') (sym claims_are) (subst (AreCalls n (claims_of workers ++ worker.claims)) (sym calls_are) both)

-- where all seats are gathered and a worker saw the end, the calls of all have each index once
pub called_all : (tally : TallyState) (calls : List ℕ) → HasAll tally → 1 ≤ length tally.workers → All (λ (worker : Worker). tally.of.n ≤ worker.seen) tally.workers
    → (HasAll tally → KnowsClaims tally) → AreCalls tally.of.n (claims_of tally.workers) calls → EachOnce tally.of.n calls
called_all tally calls all some_worker past told are =
    let knows = told all in
    let nobody : Worker = new_worker 0 in
    let seen : (get_or tally.workers 0 nobody).seen ≤ added_by tally.workers = knows.seen 0 nobody (omega arith) in
    let far : tally.of.n ≤ (get_or tally.workers 0 nobody).seen = past 0 nobody (omega arith) in
    calls_once tally.of.n (claims_of tally.workers) calls (knows.tiles (omega arith)) are

-- what is known of each is known of the one that was taken from the end, and of those that are left
pub popped_ok : {X E : Type 0} (Q : X → Type 0) (xs ys : List (Result X E)) (taken : Option (Result X E)) (x : X) → xs ≡ ys ++ option_to_list taken → All (λ told. IfOk told Q) xs → taken ≡ Some (Ok x) → Q x
popped_ok {X} {E} Q xs ys taken x is all taken_is = subst (λ (r : Option (Result X E)). IfSome r (λ told. IfOk told Q)) taken_is (All-pop (λ told. IfOk told Q) xs ys taken is all).1

pub popped_left : {X E : Type 0} (Q : X → Type 0) (xs ys : List (Result X E)) (taken : Option (Result X E)) → xs ≡ ys ++ option_to_list taken → All (λ told. IfOk told Q) xs → All (λ told. IfOk told Q) ys
popped_left Q xs ys taken is all = (All-pop (λ told. IfOk told Q) xs ys taken is all).0

-- what is told of a tally that gathered all, for a counter of n indexes
pub called_by_all : (n workers : ℕ) (counter : CounterId) (tally : TallyState) (calls : List ℕ) → counter.n ≡ n → counter.workers ≡ workers → 1 ≤ workers → tally.of ≡ counter → length tally.workers ≡ workers
    → All (λ (worker : Worker). counter.n ≤ worker.seen) tally.workers → (HasAll tally → KnowsClaims tally) → AreCalls counter.n (claims_of tally.workers) calls → EachOnce n calls
called_by_all n workers counter tally calls n_is workers_is some_worker of_is long past told are =
    let whose : tally.of.n ≡ counter.n = ap (λ (c : CounterId). c.n) of_is in
    let all : HasAll tally = long ∙ sym workers_is ∙ sym (ap (λ (c : CounterId). c.workers) of_is) in
    let past' : All (λ (worker : Worker). tally.of.n ≤ worker.seen) tally.workers = subst (λ k. All (λ (worker : Worker). k ≤ worker.seen) tally.workers) (sym whose) past in
    let are' : AreCalls tally.of.n (claims_of tally.workers) calls = subst (λ k. AreCalls k (claims_of tally.workers) calls) (sym whose) are in
    subst (λ k. EachOnce k calls) (whose ∙ n_is) (called_all tally calls all (omega arith) past' told are')

-- no piece is missing: after a claim, and of one worker more
pub missing_piece : (counter : CounterId) (size : ℕ) (before after : Worker) (piece : PieceState) (pieces pieces' : List PieceState) → ClaimsPiece counter size before after piece
    → pieces' ≡ pieces ++ piece ∷ [] → NoneMissing counter.n before.claims (added_for pieces) → NoneMissing counter.n after.claims (added_for pieces')
missing_piece counter size before after piece pieces pieces' claim pieces_are none =
    let a = piece.addition in
    let n = counter.n in
    let claims_are : after.claims ≡ before.claims ++ a ∷ [] = ap (λ (w : Worker). w.claims) claim.adds.grown in
    let all = sum_by_push (λ (it : Addition). it.size) before.claims a in
    let past = sum_by_push (λ (it : Addition). cond (nat_le n it.begin) it.size 0) before.claims a in
    let not_past : cond (nat_le n a.begin) a.size 0 ≡ 0 = let below = claim.below in grind (arith, nat_tests) in
    let pushed = sum_by_push (λ (it : PieceState). it.addition.size) pieces piece in
    let mine : NoneMissing n (before.claims ++ a ∷ []) (added_for (pieces ++ piece ∷ [])) = omega arith in
    subst (λ cs. NoneMissing n cs (added_for pieces')) (sym claims_are) (subst (λ ps. NoneMissing n (before.claims ++ a ∷ []) (added_for ps)) (sym pieces_are) mine)

pub missing_no_piece : (counter : CounterId) (size : ℕ) (before after : Worker) (pieces : ℕ) → ClaimsNone counter.n size before after → NoneMissing counter.n before.claims pieces → NoneMissing counter.n after.claims pieces
missing_no_piece counter size before after pieces claim none = elim claim [
  | inl past ↦ subst (λ (w : Worker). NoneMissing counter.n w.claims pieces) (sym past.1) none
  | inr added ↦ subst (λ (w : Worker). NoneMissing counter.n w.claims pieces) (sym added.2.grown) (more added.0 added.1)
]
  where
    more : (a : Addition) → counter.n ≤ a.begin → NoneMissing counter.n (before.claims ++ a ∷ []) pieces
    more a far =
        let all = sum_by_push (λ (it : Addition). it.size) before.claims a in
        let past = sum_by_push (λ (it : Addition). cond (nat_le counter.n it.begin) it.size 0) before.claims a in
        let is_past : cond (nat_le counter.n a.begin) a.size 0 ≡ a.size = grind (arith, nat_tests) in
        omega arith

pub missing_worker : (n : ℕ) (workers workers' : List Worker) (worker : Worker) (pieces more pieces' : ℕ) → workers' ≡ workers ++ worker ∷ [] → pieces' ≡ pieces + more
    → NoneMissing n (claims_of workers) pieces → NoneMissing n worker.claims more → NoneMissing n (claims_of workers') pieces'
missing_worker n workers workers' worker pieces more pieces' workers_are pieces_are none none' =
    let claims_are : claims_of workers' ≡ claims_of workers ++ worker.claims = ap claims_of workers_are ∙ claims_next workers worker in
    let all = sum_by-append (λ (it : Addition). it.size) (claims_of workers) worker.claims in
    let past = sum_by-append (λ (it : Addition). cond (nat_le n it.begin) it.size 0) (claims_of workers) worker.claims in
    subst (λ cs. NoneMissing n cs pieces') (sym claims_are) (omega arith)

-- the pieces that are left to gather, after the last one was taken
pub popped_pieces : (gathered : List Addition) (pieces left : List PieceState) (taken : Option PieceState) (piece : PieceState) (gathered' : List Addition) (all : ℕ) → pieces ≡ left ++ option_to_list taken → taken ≡ Some piece
    → gathered' ≡ gathered ++ piece.addition ∷ [] → added gathered + added_for pieces ≡ all → added gathered' + added_for left ≡ all
popped_pieces gathered pieces left taken piece gathered' all pieces_are taken_is gathered_is sum =
    let parts : added_for pieces ≡ added_for left + added_for (piece ∷ []) =
    ap added_for (pieces_are ∙ ap (λ r. left ++ option_to_list r) taken_is) ∙ sum_by-append (λ (it : PieceState). it.addition.size) left (piece ∷ [])
    in
    let more : added gathered' ≡ added gathered + piece.addition.size = ap added gathered_is ∙ sum_by_push (λ (it : Addition). it.size) gathered piece.addition in
    omega arith

-- where nothing is missing and a worker saw the end, the counter is at its end
pub ended_all : (tally : TallyState) → HasAll tally → 1 ≤ length tally.workers → All (λ (worker : Worker). tally.of.n ≤ worker.seen) tally.workers
    → (HasAll tally → KnowsClaims tally) → NoneMissing tally.of.n (claims_of tally.workers) (added tally.pieces) → IsEnd tally
ended_all tally all some_worker past told none =
    let knows = told all in
    let nobody : Worker = new_worker 0 in
    let seen : (get_or tally.workers 0 nobody).seen ≤ added_by tally.workers = knows.seen 0 nobody (omega arith) in
    let far : tally.of.n ≤ (get_or tally.workers 0 nobody).seen = past 0 nobody (omega arith) in
    record { all = all; nothing_out = none; past = omega arith }

pub ended_by_all : (n workers : ℕ) (counter : CounterId) (tally : TallyState) → counter.workers ≡ workers → 1 ≤ workers → tally.of ≡ counter → length tally.workers ≡ workers
    → All (λ (worker : Worker). counter.n ≤ worker.seen) tally.workers → (HasAll tally → KnowsClaims tally) → NoneMissing counter.n (claims_of tally.workers) (added tally.pieces) → IsEnd tally
ended_by_all n workers counter tally workers_is some_worker of_is long past told none =
    let whose : tally.of.n ≡ counter.n = ap (λ (c : CounterId). c.n) of_is in
    let all : HasAll tally = long ∙ sym workers_is ∙ sym (ap (λ (c : CounterId). c.workers) of_is) in
    let past' : All (λ (worker : Worker). tally.of.n ≤ worker.seen) tally.workers = subst (λ k. All (λ (worker : Worker). k ≤ worker.seen) tally.workers) (sym whose) past in
    let none' : NoneMissing tally.of.n (claims_of tally.workers) (added tally.pieces) = subst (λ k. NoneMissing k (claims_of tally.workers) (added tally.pieces)) (sym whose) none in
    ended_all tally all (omega arith) past' told none'
