-- What stays true of a desk of an engine.
use Rattle.std.proofs.Common.{◌≡◌, ℕ, ◌+◌, ◌-◌, ◌<◌, ◌≤◌, ◌%◌, Bool, true, false, List, [], ◌∷◌, ◌++◌, All, map, length, inl, inr, refl, ap, sym, ◌∙◌, subst, arith, append-nil}
use Rattle.std.specs.Prelude.{slice_index_or}
use Rattle.std.specs.List.{remove}
use Rattle.std.proofs.lemmas.Bool.Decides.{nat_tests}
use Rattle.std.proofs.lemmas.List.{map-append}
use Rattle.std.proofs.lemmas.List.Elements.{All-cons, All-nil, All-weaker}
use Rattle.qtc_base.specs.Ranges.{times_covered}
use Rattle.qtc_events.specs.declared.calls.Call.TheVariants.{Cancel, Fail}
use Rattle.qtc_future.specs.Future.{Logged}
use Rattle.qtc_claim.specs.Claims.{Addition, clipped, gave}
use Rattle.qtc_claim.specs.Counter.{PieceState}
use Rattle.qtc_ops.specs.ItemValue.{ItemValue}
use Rattle.qtc_shared.specs.Journals.{calls_by}
use Rattle.qtc_shared.specs.Passes.{PassState}
use Rattle.qtc_shared.proofs.Prefixes.{begins_further}
use Rattle.qtc_kernel.specs.EngineParts.{AreHandedIn, AreOwnCalls, AreWorkedOn, EngineParts, DeskState, IsDesk, IsFailedCall, IsLeft, IsOwnCall, IsSeated, given_at, reporter, work_of}
use Rattle.qtc_shared.specs.Parts.{Terms}
use Rattle.qtc_kernel.specs.OwnPasses.{desk_makes, opening}
use Rattle.qtc_kernel.specs.declared.kinds.Kind.{Kind}
use Rattle.qtc_kernel.specs.Driving.{in_turn}
use Rattle.qtc_kernel.specs.Endings.{IsMet}
use Rattle.qtc_kernel.specs.Runs.{times_called}
use Rattle.qtc_kernel.specs.Turns.{GoesOn}
use Rattle.qtc_kernel.specs.Working.{HasLooked, IsLeaving}
use Rattle.qtc_kernel.specs.Workload.{Workload, indexes_of}
use Rattle.qtc_kernel.proofs.Counting.{calls-append, calls-range, covers, times-append, times-one}
use Rattle.qtc_kernel.proofs.Passing.{handed_on, knows_met, left_on, looked_on, looked_own, looked_same}

-- what was its own call is, where more was called and memory was wanted
pub own_more : (kind : Kind) (terms : Terms) (work : Workload) (wants_memory wants_memory' : Bool) (calls calls' : List ℕ) (logged : Logged (List ℕ)) → (wants_memory ≡ true → wants_memory' ≡ true) → ((index : ℕ) → times_called calls index ≤ times_called calls' index)
    → IsOwnCall kind terms work wants_memory calls logged → IsOwnCall kind terms work wants_memory' calls' logged
own_more kind terms work wants_memory wants_memory' calls calls' logged wants more is = record {
  own = is.own;
  fails = λ index call. let failed = is.fails index call in let some = failed.called in let all = more index in record { failing = failed.failing; called = omega arith };
  cancels = λ call. wants (is.cancels call);
}

pub own_cancel : (kind : Kind) (terms : Terms) (work : Workload) (calls : List ℕ) (logged : Logged (List ℕ)) → logged.entry.call ≡ Cancel → IsOwnCall kind terms work true calls logged
own_cancel kind terms work calls logged is = record {
  own = ap (desk_makes kind terms) is;
  fails = λ index fails. absurd (not_fail index (sym is ∙ fails));
  cancels = λ call. refl;
}
  where
    not_fail : (index : ℕ) → Cancel ≡ Fail index → ⊥
    not_fail index e = absurd (cc)

pub own_fail : (kind : Kind) (terms : Terms) (work : Workload) (wants_memory : Bool) (calls : List ℕ) (index : ℕ) (item : List ℕ) (logged : Logged (List ℕ)) → IsFailedCall work calls (record { index = index; item = item }) → logged.entry.call ≡ Fail index → logged.item ≡ item → IsOwnCall kind terms work wants_memory calls logged
own_fail kind terms work wants_memory calls index item logged failed call_is item_is = record {
  own = ap (desk_makes kind terms) call_is;
  fails = λ other fails.
      subst (λ i. IsFailedCall work calls (record { index = i; item = logged.item })) (same_index index other (sym call_is ∙ fails))
      (subst (λ it. IsFailedCall work calls (record { index = index; item = it })) (sym item_is) failed);
  cancels = λ cancels. absurd (not_cancel index (sym call_is ∙ cancels));
}
  where
    same_index : (a b : ℕ) → Fail a ≡ Fail b → a ≡ b
    same_index a b e = cc

    not_cancel : (index : ℕ) → Fail index ≡ Cancel → ⊥
    not_cancel index e = absurd (cc)

module _ {F : Type 0} (value : F → List ℕ → ItemValue) (called : F → List ℕ) (parts : EngineParts F) where
  -- what its pass knows grew, and its function does what it did
  pub record Follows (old new : DeskState F) : Type 0 where
    pub of : new.seat.of ≡ old.seat.of
    pub badge : new.badge.of ≡ old.badge.of
    pub number : new.seat.worker.number ≡ old.seat.worker.number
    pub given : given_at parts.counter.n new ≡ given_at parts.counter.n old
    pub on : GoesOn old.pass new.pass
    pub same_value : value new.function ≡ value old.function
    pub next_size : new.next_size ≡ old.next_size

  pub seated_on : (old new : DeskState F) → IsSeated value parts old → Follows old new → IsSeated value parts new
  seated_on old new seated follows = record {
    counter = follows.of ∙ seated.counter;
    future = follows.on.of ∙ seated.future;
    badge = follows.badge ∙ seated.badge;
    childless = follows.on.children ∙ seated.childless;
    numbered = follows.on.number ∙ seated.numbered ∙ sym follows.number;
    below = subst (λ k. k < parts.counter.workers) (sym follows.number) seated.below;
    valued = follows.same_value ∙ seated.valued;
    opened = begins_further opening old.pass.known new.pass.known seated.opened follows.on.known;
    next_size = follows.next_size ∙ seated.next_size ∙ ap (λ given. length given % length parts.sizes) (sym follows.given);
    sizes = subst (λ (given : List Addition). map (λ claim. claim.size) given ≡ in_turn parts.sizes (length given)) (sym follows.given) seated.sizes;
  }

  -- its own calls are those that they were, and its function called more at most
  pub own_on : (old new : DeskState F) → AreOwnCalls value called parts old → calls_by new.pass.number new.pass.known ≡ calls_by old.pass.number old.pass.known → new.wants_memory ≡ old.wants_memory
      → ((index : ℕ) → times_called (called old.function) index ≤ times_called (called new.function) index) → AreOwnCalls value called parts new
  own_on old new own same wants_memory more =
      subst (All (IsOwnCall parts.kind parts.future.terms (work_of value parts) new.wants_memory (called new.function))) (sym same)
      (All-weaker (IsOwnCall parts.kind parts.future.terms (work_of value parts) old.wants_memory (called old.function)) (IsOwnCall parts.kind parts.future.terms (work_of value parts) new.wants_memory (called new.function))
      (λ logged. own_more parts.kind parts.future.terms (work_of value parts) old.wants_memory new.wants_memory (called old.function) (called new.function) logged (λ is. wants_memory ∙ is) more) (calls_by old.pass.number old.pass.known) own)

  -- a desk that called nothing more
  pub desk_on : (old new : DeskState F) → IsDesk value called parts old → Follows old new
      → calls_by new.pass.number new.pass.known ≡ calls_by old.pass.number old.pass.known → new.wants_memory ≡ old.wants_memory → called new.function ≡ called old.function
      → IsDesk value called parts new
  desk_on old new desk follows own wants_memory calls = record {
    seated = seated_on old new desk.seated follows;
    own = own_on old new desk.own own wants_memory (λ index. let is : times_called (called new.function) index ≡ times_called (called old.function) index = ap (λ list. times_called list index) calls in omega (arith, is));
    left = desk.left;
    one = desk.one;
    worked =
        subst (λ given. AreWorkedOn parts.counter.n given desk.left (called new.function)) (sym follows.given)
        (subst (AreWorkedOn parts.counter.n (given_at parts.counter.n old) desk.left) (sym calls) desk.worked);
    board = record {
      left_are = All-weaker (IsLeft parts.counter.n (reporter parts) old.pass) (IsLeft parts.counter.n (reporter parts) new.pass) (left_on parts.counter.n (reporter parts) old.pass new.pass follows.on) desk.left desk.board.left_are;
      handed = subst (λ given. AreHandedIn parts.counter.n (reporter parts) given new.pass) (sym follows.given)
          (handed_on parts.counter.n (reporter parts) (given_at parts.counter.n old) old.pass new.pass follows.on desk.board.handed);
    };
  }

  -- it has looked, and is in or out
  pub desk_looked : (old new : DeskState F) → IsDesk value called parts old
      → new.seat.of ≡ old.seat.of → new.seat.worker.number ≡ old.seat.worker.number → new.seat.worker.claims ≡ old.seat.worker.claims
      → HasLooked old.pass new.pass → new.badge.of ≡ old.badge.of → new.function ≡ old.function → new.next_size ≡ old.next_size → new.wants_memory ≡ old.wants_memory
      → IsDesk value called parts new
  desk_looked old new desk of number claims looked badge function turn wants_memory =
      desk_on old new desk (record { of = of; badge = badge; number = number; given = ap (gave parts.counter.n) claims; on = looked_on old.pass new.pass looked; same_value = ap value function; next_size = turn })
      (looked_own old.pass new.pass looked) wants_memory (ap called function)

  -- its worker is out
  pub desk_left : (old new : DeskState F) → IsDesk value called parts old → new ≡ record old { badge = record old.badge { is_in = false } } → IsDesk value called parts new
  desk_left old new desk is =
      subst (IsDesk value called parts) (sym is)
      (desk_looked old (record old { badge = record old.badge { is_in = false } }) desk refl refl refl (looked_same old.pass old.pass refl) refl refl refl refl)

  -- a piece is left, where an end stands
  pub desk_leaves : (old new : DeskState F) (piece : PieceState) → IsLeaving value called parts old piece → Follows old new → AreOwnCalls value called parts new
      → called new.function ≡ called old.function → IsLeft parts.counter.n (reporter parts) new.pass piece.addition
      → IsDesk value called parts new
  desk_leaves old new piece leaving follows own calls left = record {
    seated = seated_on old new leaving.seated follows;
    own = own;
    left = piece.addition ∷ [];
    one = omega arith;
    worked =
        subst (λ given. AreWorkedOn parts.counter.n given (piece.addition ∷ []) (called new.function)) (sym follows.given)
        (subst (AreWorkedOn parts.counter.n (given_at parts.counter.n old) (piece.addition ∷ [])) (sym calls) leaving.part);
    board = record {
      left_are = All-cons (IsLeft parts.counter.n (reporter parts) new.pass) piece.addition [] left (All-nil (IsLeft parts.counter.n (reporter parts) new.pass));
      handed = inr (inl (knows_met new.pass left.ended));
    };
  }

-- ---- what was called

covers_part : (index begin at end : ℕ) → begin ≤ at → at ≤ end → covers index (begin, begin + (at - begin)) ≤ covers index (begin, end)
covers_part index begin at end low high = grind (arith, nat_tests)

covers_all : (index begin end : ℕ) → begin ≤ end → covers index (begin, begin + (end - begin)) ≡ covers index (begin, end)
covers_all index begin end low = ap (λ e. covers index (begin, e)) (omega arith)

module _ (n : ℕ) (claims : List Addition) (claim : Addition) (calls calls' : List ℕ) (worked : AreWorkedOn n claims [] calls) where
  whole_is : worked.whole ≡ claims
  whole_is = sym (append-nil worked.whole) ∙ sym worked.parts

  one_more : (index : ℕ) → times_covered (map (clipped n) (claims ++ claim ∷ [])) index ≡ times_covered (map (clipped n) claims) index + covers index (clipped n claim)
  one_more index =
      ap (λ ranges. times_covered ranges index) (map-append (clipped n) claims (claim ∷ []))
      ∙ times-append index (map (clipped n) claims) (clipped n claim ∷ []) ∙ ap (λ k. times_covered (map (clipped n) claims) index + k) (times-one index (clipped n claim))

  called_more : (index begin at : ℕ) → calls' ≡ calls ++ indexes_of (begin, at) → times_called calls' index ≡ times_called calls index + covers index (begin, begin + (at - begin))
  called_more index begin at is =
      ap (λ list. times_called list index) is ∙ calls-append index calls (indexes_of (begin, at)) ∙ ap (λ k. times_called calls index + k) (calls-range index begin (at - begin))

  least_is : (index : ℕ) → times_covered (map (clipped n) claims) index ≤ times_called calls index
  least_is index = subst (λ list. times_covered (map (clipped n) list) index ≤ times_called calls index) whole_is (worked.least index)

  -- a front of the range was called
  pub part_called : (at : ℕ) → (clipped n claim).0 ≤ at → at ≤ (clipped n claim).1 → calls' ≡ calls ++ indexes_of ((clipped n claim).0, at) → AreWorkedOn n (claims ++ claim ∷ []) (claim ∷ []) calls'
  part_called at low high is = record {
    whole = claims;
    parts = refl;
    least = λ index. let least = least_is index in let more = called_more index (clipped n claim).0 at is in omega arith;
    most = λ index.
        let most = worked.most index in
        let more = called_more index (clipped n claim).0 at is in
        let part = covers_part index (clipped n claim).0 at (clipped n claim).1 low high in
        let one = one_more index in
        omega arith;
  }

  -- all of it was
  pub whole_called : (clipped n claim).0 ≤ (clipped n claim).1 → calls' ≡ calls ++ indexes_of (clipped n claim) → AreWorkedOn n (claims ++ claim ∷ []) [] calls'
  whole_called low is = record {
    whole = claims ++ claim ∷ [];
    parts = sym (append-nil (claims ++ claim ∷ []));
    least = λ index.
        let least = least_is index in
        let more = called_more index (clipped n claim).0 (clipped n claim).1 is in
        let part = covers_all index (clipped n claim).0 (clipped n claim).1 low in
        let one = one_more index in
        omega arith;
    most = λ index.
        let most = worked.most index in
        let more = called_more index (clipped n claim).0 (clipped n claim).1 is in
        let part = covers_all index (clipped n claim).0 (clipped n claim).1 low in
        let one = one_more index in
        omega arith;
  }

-- the other pass knows more
pub met_further : {F : Type 0} (desk : DeskState F) (old new : PassState (List ℕ)) → GoesOn old new → IsMet old.known desk → IsMet new.known desk
met_further desk old new on met = record { known = begins_further desk.pass.known old.known new.known met.known on.known; unseen = met.unseen }

-- the first of a list was taken
pub taken_first : {X : Type 0} (xs rest : List X) (x : X) → 0 < length xs → x ≡ slice_index_or xs 0 x → rest ≡ remove xs 0 → xs ≡ x ∷ rest
taken_first [] rest x some is left = absurd (omega arith)
taken_first (y ∷ ys) rest x some is left = λ i. sym is i ∷ sym left i

pub nothing_left : {X : Type 0} (xs : List X) → length xs ≡ 0 → xs ≡ []
nothing_left [] none = refl
nothing_left (x ∷ xs) none = absurd (omega arith)
