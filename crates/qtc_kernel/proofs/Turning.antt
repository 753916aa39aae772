-- What a worker's turn makes of its desk.
use Rattle.std.proofs.Common.{◌≡◌, ℕ, ◌+◌, ◌<◌, ◌≤◌, ◌%◌, Bool, true, false, nat_lt, cond, List, [], ◌∷◌, ◌++◌, All, map, length, inl, inr, refl, ap, sym, ◌∙◌, subst, arith, append-nil, append_assoc, length-append}
use Rattle.std.specs.Prelude.{◌⊎◌, Contains, slice_index}
use Rattle.std.proofs.lemmas.Bool.{false≢true}
use Rattle.std.proofs.lemmas.Bool.Decides.{nat_tests}
use Rattle.std.proofs.Math.Nat.{mod-lt}
use Rattle.std.proofs.lemmas.List.{map-append}
use Rattle.std.proofs.lemmas.List.Elements.{All-get_or, All-head, Contains-get_or, filter-append}
use Rattle.std.proofs.lemmas.List.FromFn.{map-range_with_len_more}
use Rattle.qtc_claim.specs.Claims.{Addition, Worker, gave}
use Rattle.qtc_claim.specs.Counter.{ClaimsNone, ClaimsPiece, LoadsAndAdds, PieceState, SeatState}
use Rattle.qtc_future.specs.declared.requests.Request.TheVariants.{Cancel, Fail}
use Rattle.qtc_ops.specs.ItemValue.{ItemValue}
use Rattle.qtc_shared.specs.Passes.{PassState}
use Rattle.qtc_shared.proofs.Prefixes.{begins_further}
use Rattle.qtc_kernel.specs.Workload.{first_bad, indexes_of, item_at}
use Rattle.qtc_kernel.specs.EngineParts.{AreOwnCalls, AreWorkedOn, EngineParts, DeskState, HasMetEnd, FitTogether, IsDesk, IsLeft, IsSeated, given_at, reporter, work_of}
use Rattle.qtc_kernel.specs.Driving.{in_turn}
use Rattle.qtc_kernel.specs.OwnPasses.{opening}
use Rattle.qtc_kernel.specs.Runs.{times_called}
use Rattle.qtc_kernel.specs.Turns.{Calls, ClaimsRange, GoesOn, IsLastTurn, LooksFree, IsTurn, goes_on, wants_after}
use Rattle.qtc_kernel.specs.WorkedOut.{Continues}
use Rattle.qtc_kernel.specs.Working.{HasLooked, IsAtWork, IsReported, IsWorked, range_in}
use Rattle.qtc_kernel.specs.declared.turn.Turn.{Turn}
use Rattle.qtc_kernel.specs.declared.turn.Turn.TheVariants.{Did, Exhausted, SawCanceled, Failed, Memory}
use Rattle.qtc_kernel.proofs.AtDesks.{desk_on, own_on}
use Rattle.qtc_kernel.proofs.Passing.{handed_on, knows_met, looked_on, looked_own, made_since}
use Rattle.qtc_kernel.proofs.Turns.{next_turn}

-- ---- claims that gave a piece

gave_one : (n : ℕ) (claim : Addition) → claim.begin < n → gave n (claim ∷ []) ≡ claim ∷ []
gave_one n claim below = let is : nat_lt claim.begin n ≡ true = grind (arith, nat_tests) in rw is refl

gave_not : (n : ℕ) (claim : Addition) → n ≤ claim.begin → gave n (claim ∷ []) ≡ []
gave_not n claim past = let is : nat_lt claim.begin n ≡ false = grind (arith, nat_tests) in rw is refl

pub gave_more : (n : ℕ) (claims : List Addition) (claim : Addition) → claim.begin < n → gave n (claims ++ claim ∷ []) ≡ gave n claims ++ claim ∷ []
gave_more n claims claim below =
    filter-append (λ (it : Addition). nat_lt it.begin n) claims (claim ∷ []) ∙ ap (λ more. gave n claims ++ more) (gave_one n claim below)

pub gave_same : (n : ℕ) (claims : List Addition) (claim : Addition) → n ≤ claim.begin → gave n (claims ++ claim ∷ []) ≡ gave n claims
gave_same n claims claim past =
    filter-append (λ (it : Addition). nat_lt it.begin n) claims (claim ∷ []) ∙ ap (λ more. gave n claims ++ more) (gave_not n claim past) ∙ append-nil (gave n claims)

-- ---- sizes in turn

turn_less : (turn count len : ℕ) → 1 ≤ len → turn ≡ count % len → turn < len
turn_less turn count len some is = let less = mod-lt count some in omega arith

more_sizes : (sizes : List ℕ) (given : List Addition) (claim : Addition) → map (λ (it : Addition). it.size) given ≡ in_turn sizes (length given) → claim.size ≡ slice_index sizes (length given % length sizes)
    → map (λ (it : Addition). it.size) (given ++ claim ∷ []) ≡ in_turn sizes (length (given ++ claim ∷ []))
more_sizes sizes given claim are is =
    let count = length given in
    map-append (λ (it : Addition). it.size) given (claim ∷ [])
    ∙ ap (λ xs. xs ++ claim.size ∷ []) are
    ∙ ap (λ size. in_turn sizes count ++ size ∷ []) is
    ∙ sym (map-range_with_len_more (λ turn. slice_index sizes (turn % length sizes)) 0 count count (omega arith))
    ∙ ap (in_turn sizes) (sym (length-append given (claim ∷ [])))

module _ {F : Type 0} (value : F → List ℕ → ItemValue) (called : F → List ℕ) (parts : EngineParts F) (fits : FitTogether value parts) where
  pub turn_within : (desk : DeskState F) → IsSeated value parts desk → desk.next_size < length parts.sizes
  turn_within desk seated = turn_less desk.next_size (length (given_at parts.counter.n desk)) (length parts.sizes) fits.sizes.some seated.next_size

  pub size_least : (turn : ℕ) → turn < length parts.sizes → 1 ≤ slice_index parts.sizes turn
  size_least turn within = All-get_or (λ size. 1 ≤ size) parts.sizes turn 0 within fits.sizes.least

  module _ (old : DeskState F) (desk : IsDesk value called parts old) (mid : DeskState F) (looked : HasLooked old.pass mid.pass) (of : mid.seat.of ≡ parts.counter)
      (badge : mid.badge.of ≡ old.badge.of) (function : mid.function ≡ old.function) (wants_memory : mid.wants_memory ≡ old.wants_memory) where
    own : AreOwnCalls value called parts mid
    own = own_on value called parts old mid desk.own (looked_own old.pass mid.pass looked) wants_memory
        (λ index. let is : times_called (called mid.function) index ≡ times_called (called old.function) index = ap (λ f. times_called (called f) index) function in omega (arith, is))

    -- a claim that gave no piece
    pub found_nothing : (size : ℕ) → ClaimsNone parts.counter.n size old.seat.worker mid.seat.worker → mid.next_size ≡ old.next_size → IsDesk value called parts mid
    found_nothing size none turn =
        desk_on value called parts old mid desk
        (record { of = of ∙ sym desk.seated.counter; badge = badge; number = number; given = given; on = looked_on old.pass mid.pass looked; same_value = ap value function; next_size = turn })
        (looked_own old.pass mid.pass looked) wants_memory (ap called function)
      where
        number : mid.seat.worker.number ≡ old.seat.worker.number
        number = elim none [
          | inl loaded ↦ ap (λ (w : Worker). w.number) loaded.1
          | inr added ↦ ap (λ (w : Worker). w.number) added.2.grown
        ]

        given : given_at parts.counter.n mid ≡ given_at parts.counter.n old
        given = elim none [
          | inl loaded ↦ ap (λ (w : Worker). gave parts.counter.n w.claims) loaded.1
          | inr added ↦ ap (λ (w : Worker). gave parts.counter.n w.claims) added.2.grown ∙ gave_same parts.counter.n old.seat.worker.claims added.0 added.1
        ]

    module _ (piece : PieceState) (claim : ClaimsPiece parts.counter (slice_index parts.sizes old.next_size) old.seat.worker mid.seat.worker piece) (none_met : HasMetEnd old.pass → ⊥)
        (turn : mid.next_size ≡ cond (nat_lt (old.next_size + 1) (length parts.sizes)) (old.next_size + 1) 0) where
      given_more : given_at parts.counter.n mid ≡ given_at parts.counter.n old ++ piece.addition ∷ []
      given_more = ap (λ (w : Worker). gave parts.counter.n w.claims) claim.adds.grown ∙ gave_more parts.counter.n old.seat.worker.claims piece.addition claim.below

      none_left : desk.left ≡ []
      none_left = by desk.left desk.board.left_are
        where
          Left : Addition → Type 0
          Left = IsLeft parts.counter.n (reporter parts) old.pass

          by : (left : List Addition) → All Left left → left ≡ []
          by [] all = refl
          by (claim ∷ claims) all = absurd (none_met (knows_met old.pass (All-head Left claim claims all).ended))

      size_is : piece.addition.size ≡ slice_index parts.sizes (length (given_at parts.counter.n old) % length parts.sizes)
      size_is = claim.adds.sized ∙ ap (slice_index parts.sizes) desk.seated.next_size

      within : old.next_size < length parts.sizes
      within = turn_within old desk.seated

      seated : IsSeated value parts mid
      seated =
          let number : mid.seat.worker.number ≡ old.seat.worker.number = ap (λ (w : Worker). w.number) claim.adds.grown in
          let on = looked_on old.pass mid.pass looked in
          let count = length (given_at parts.counter.n old) in
          record {
            counter = of;
            future = on.of ∙ desk.seated.future;
            badge = badge ∙ desk.seated.badge;
            childless = on.children ∙ desk.seated.childless;
            numbered = on.number ∙ desk.seated.numbered ∙ sym number;
            below = subst (λ k. k < parts.counter.workers) (sym number) desk.seated.below;
            valued = ap value function ∙ desk.seated.valued;
            opened = begins_further opening old.pass.known mid.pass.known desk.seated.opened on.known;
            next_size = turn ∙ next_turn count (length parts.sizes) old.next_size within desk.seated.next_size
                ∙ ap (λ k. k % length parts.sizes) (sym (length-append (given_at parts.counter.n old) (piece.addition ∷ [])) ∙ sym (ap length given_more));
            sizes = subst (λ (given : List Addition). map (λ it. it.size) given ≡ in_turn parts.sizes (length given)) (sym given_more) (more_sizes parts.sizes (given_at parts.counter.n old) piece.addition desk.seated.sizes size_is);
          }

      pub at_work : IsAtWork value called parts mid piece
      at_work = record {
        seated = seated;
        claims = given_at parts.counter.n old;
        last = given_more;
        own = own;
        worked = subst (AreWorkedOn parts.counter.n (given_at parts.counter.n old) []) (sym (ap called function))
            (subst (λ left. AreWorkedOn parts.counter.n (given_at parts.counter.n old) left (called old.function)) none_left desk.worked);
        handed = handed_on parts.counter.n (reporter parts) (given_at parts.counter.n old) old.pass mid.pass (looked_on old.pass mid.pass looked) desk.board.handed;
        piece_is = record {
          of = claim.of;
          below = claim.below;
          some = subst (λ size. 1 ≤ size) (sym claim.adds.sized) (size_least old.next_size within);
          listed = subst (Contains parts.sizes) (sym claim.adds.sized) (Contains-get_or parts.sizes old.next_size 0 within);
        };
      }

      -- what became of the piece is what the turn says
      pub turn_told : (new : DeskState F) (told : Turn) → LooksFree old.pass mid.pass → new.pass.looks ≡ mid.pass.looks → new.seat ≡ mid.seat → IsWorked value called parts mid new (range_in parts piece) told → IsTurn value called parts old new told
      turn_told new told free looks seat = by told
        where
          free_new : LooksFree old.pass new.pass
          free_new = record { looks = free.looks; last = free.last; grown = looks ∙ free.grown; going = free.going; resumed = free.resumed }

          claims : (range : ℕ × ℕ) → range ≡ range_in parts piece → ClaimsRange value called parts old new range
          claims range is = record {
            claim = piece.addition;
            added = subst (LoadsAndAdds (slice_index parts.sizes old.next_size) old.seat.worker piece.addition) (sym (ap (λ (s : SeatState). s.worker) seat)) claim.adds;
            below = claim.below;
            range_is = is;
          }

          calls : (range range' : ℕ × ℕ) → range' ≡ range → Calls value called parts mid new range → Calls value called parts old new range'
          calls range range' is made = subst (λ f. called new.function ≡ called f ++ indexes_of range') function (subst (Calls value called parts mid new) (sym is) made)

          by : (told : Turn) → IsWorked value called parts mid new (range_in parts piece) told → IsTurn value called parts old new told
          by (Did range) worked = record {
            looked = free_new;
            claims = claims (range.begin, range.end) worked.0;
            calls = calls (range_in parts piece) (range.begin, range.end) worked.0 worked.1;
            good = ap (first_bad (work_of value parts)) worked.0 ∙ worked.2;
            reported = subst (IsReported (reporter parts) new.pass.known) (sym worked.0) worked.3;
          }
          by Exhausted worked = absurd worked
          by SawCanceled worked = record {
            met = knows_met new.pass worked.2;
            when = inr (record {
              looked = free_new;
              range = range_in parts piece;
              claims = claims (range_in parts piece) refl;
              calls = calls (range_in parts piece) (range_in parts piece) refl worked.0;
              good = worked.1;
              ended = worked.2;
            });
          }
          by (Failed index) worked = record {
            looked = free_new;
            range = range_in parts piece;
            claims = claims (range_in parts piece) refl;
            first = worked.1;
            calls = calls ((range_in parts piece).0, index + 1) ((range_in parts piece).0, index + 1) refl worked.0;
            fails = made_since old.pass mid.pass new.pass (Fail index (item_at (work_of value parts) index)) (looked_on old.pass mid.pass looked) worked.2;
            met = worked.3;
          }
          by Memory worked = record {
            looked = free_new;
            range = range_in parts piece;
            claims = claims (range_in parts piece) refl;
            at = worked.at;
            front = worked.front;
            calls = calls ((range_in parts piece).0, worked.at) ((range_in parts piece).0, worked.at) refl worked.calls;
            cancels = made_since old.pass mid.pass new.pass Cancel (looked_on old.pass mid.pass looked) worked.cancels;
            met = worked.met;
          }

-- ---- what was called

-- each turn calls more at most
pub turn_calls : {F : Type 0} (value : F → List ℕ → ItemValue) (called : F → List ℕ) (parts : EngineParts F) (old new : DeskState F) (turn : Turn) → IsTurn value called parts old new turn
    → (later : List ℕ) × (called new.function ≡ called old.function ++ later)
turn_calls value called parts old new (Did range) told = (indexes_of (range.begin, range.end), told.calls)
turn_calls value called parts old new Exhausted told = ([], told.calls ∙ sym (append-nil (called old.function)))
turn_calls value called parts old new SawCanceled told = elim told.when [
  | inl same ↦ ([], same.calls ∙ sym (append-nil (called old.function)))
  | inr claimed ↦ (indexes_of claimed.range, claimed.calls)
]
turn_calls value called parts old new (Failed index) told = (indexes_of (told.range.0, index + 1), told.calls)
turn_calls value called parts old new Memory told = (indexes_of (told.range.0, told.at), told.calls)

-- where it isn't the last one
pub continues_by : {F : Type 0} (value : F → List ℕ → ItemValue) (called : F → List ℕ) (parts : EngineParts F) (first old new : DeskState F) (turn : Turn) → IsDesk value called parts first → IsDesk value called parts new
    → Continues value called first.function old.function → IsTurn value called parts old new turn → Continues value called first.function new.function
continues_by value called parts first old new turn was is before told =
    let more = turn_calls value called parts old new turn told in
    record {
      same = is.seated.valued ∙ sym was.seated.valued;
      later = before.later ++ more.0;
      calls = more.1 ∙ ap (λ calls. calls ++ more.0) before.calls ∙ append_assoc (called first.function) before.later more.0;
    }

pub continues_same : {F : Type 0} (value : F → List ℕ → ItemValue) (called : F → List ℕ) (function : F) → Continues value called function function
continues_same value called function = record { same = refl; later = []; calls = sym (append-nil (called function)) }

-- where it is the last one, the counter was seen at its end, or an end was met
turn_over : {F : Type 0} (value : F → List ℕ → ItemValue) (called : F → List ℕ) (parts : EngineParts F) (old new : DeskState F) (turn : Turn) → IsTurn value called parts old new turn → goes_on turn ≡ false
    → (parts.counter.n ≤ new.seat.worker.seen) ⊎ HasMetEnd new.pass
turn_over value called parts old new (Did range) told over = absurd (false≢true (sym over))
turn_over value called parts old new Exhausted told over = inl (elim told.claims [
  | inl loaded ↦ loaded.0
  | inr added ↦
      let claim = added.0 in
      let past = added.1 in
      let seen : new.seat.worker.seen ≡ claim.begin + claim.size = ap (λ (w : Worker). w.seen) added.2.grown in
      omega (arith, past, seen)
])
turn_over value called parts old new SawCanceled told over = inr told.met
turn_over value called parts old new (Failed index) told over = inr told.met
turn_over value called parts old new Memory told over = inr told.met

pub last_over : {F : Type 0} (value : F → List ℕ → ItemValue) (called : F → List ℕ) (parts : EngineParts F) (old new : DeskState F) (turn : Turn) → IsLastTurn value called parts old new turn → (pass : PassState (List ℕ)) → GoesOn new.pass pass
    → (parts.counter.n ≤ new.seat.worker.seen) ⊎ HasMetEnd pass
last_over value called parts old new turn last pass on = elim (turn_over value called parts last.before new turn last.turn_is last.over) [
  | inl past ↦ inl past
  | inr met ↦ inr (on.ends met)
]

-- a block that was done leaves what was wanted
pub wants_did : (wants_memory : Bool) (turn : Turn) → goes_on turn ≡ true → wants_after wants_memory turn ≡ wants_memory
wants_did wants_memory (Did range) did = refl
wants_did wants_memory Exhausted did = absurd (false≢true did)
wants_did wants_memory SawCanceled did = absurd (false≢true did)
wants_did wants_memory (Failed index) did = absurd (false≢true did)
wants_did wants_memory Memory did = absurd (false≢true did)

-- whoever wanted memory before a turn wants it after
pub wanted_none : (wants_memory : Bool) (turn : Turn) → wants_after wants_memory turn ≡ false → wants_memory ≡ false
wanted_none wants_memory (Did range) none = none
wanted_none wants_memory Exhausted none = none
wanted_none wants_memory SawCanceled none = none
wanted_none wants_memory (Failed index) none = none
wanted_none wants_memory Memory none = absurd (false≢true (sym none))
