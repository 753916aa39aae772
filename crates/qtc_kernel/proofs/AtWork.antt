-- What becomes of a desk whose worker has a piece in hand.
use Rattle.std.proofs.Common.{◌≡◌, ℕ, ◌+◌, ◌-◌, ◌<◌, ◌≤◌, Bool, true, false, List, [], ◌∷◌, ◌++◌, Some, inl, inr, refl, ap, sym, ◌∙◌, subst, arith}
use Rattle.std.specs.Prelude.{Contains}
use Rattle.std.proofs.lemmas.Bool.Decides.{nat_tests}
use Rattle.std.proofs.lemmas.List.Elements.{All-nil, All-push}
use Rattle.qtc_active.specs.Count.{BadgeState}
use Rattle.qtc_claim.specs.Claims.{Addition, clipped, gave}
use Rattle.qtc_claim.specs.Counter.{PieceState, SeatState}
use Rattle.qtc_future.specs.declared.requests.Request.TheVariants.{Cancel, Fail}
use Rattle.qtc_ops.specs.ItemValue.{ItemValue, kept, dropped, bad}
use Rattle.qtc_shared.specs.Journals.{calls_by}
use Rattle.qtc_kernel.specs.EngineParts.{AreHandedIn, AreOwnCalls, AreWorkedOn, EngineParts, DeskState, IsDesk, IsLeft, IsSeated, given_at, ranges_by, reporter, work_of}
use Rattle.qtc_kernel.specs.Laws.{IsFailing}
use Rattle.qtc_kernel.specs.Runs.{times_called}
use Rattle.qtc_kernel.specs.Turns.{GoesOn}
use Rattle.qtc_kernel.specs.Working.{FailsOrWants, HasGivenUp, IsAtWork, IsHandedIn, IsLeaving, IsWorked, range_in}
use Rattle.qtc_kernel.specs.declared.turn.Turn.{Turn}
use Rattle.qtc_kernel.specs.Workload.{Workload, first_bad, indexes_of, is_bad, item_at, size_of}
use Rattle.qtc_kernel.proofs.AtDesks.{own_on, part_called, seated_on, whole_called}
use Rattle.qtc_kernel.proofs.Counting.{calls-append, calls-range, covers}
use Rattle.qtc_kernel.proofs.Finding.{found_within}
use Rattle.qtc_kernel.proofs.Passing.{handed_on, knows_met, made_since}

-- ---- the first bad item

bad_from : (value : ItemValue) → is_bad value ≡ true → value ≡ bad
bad_from (kept text) e = absurd (cc)
bad_from dropped e = absurd (cc)
bad_from bad e = refl

-- it lies in the range, and fails
pub record IsBadIn (work : Workload) (range : ℕ × ℕ) (index : ℕ) : Type 0 where
  pub low : range.0 ≤ index
  pub high : index < range.1
  pub failing : IsFailing work (record { index = index; item = item_at work index })

pub bad_in : (work : Workload) (range : ℕ × ℕ) (index : ℕ) → range.0 ≤ range.1 → range.1 ≤ size_of work → first_bad work range ≡ Some index → IsBadIn work range index
bad_in work range index whole within e =
    let found = found_within (λ i. is_bad (work.value (item_at work i))) range.0 (range.1 - range.0) index e in
    let high = found.1 in
    record {
      low = found.0;
      high = omega arith;
      failing = record { within = omega arith; bad_value = bad_from (work.value (item_at work index)) found.2; item_is = refl };
    }

pub range_whole : (n : ℕ) (claim : Addition) → ((clipped n claim).0 ≤ (clipped n claim).1) × ((clipped n claim).1 ≤ n)
range_whole n claim = (omega arith, omega arith)

-- more was called
pub calls_more : (calls calls' later : List ℕ) → calls' ≡ calls ++ later → (index : ℕ) → times_called calls index ≤ times_called calls' index
calls_more calls calls' later is index =
    let all : times_called calls' index ≡ times_called calls index + times_called later index = ap (λ list. times_called list index) is ∙ calls-append index calls later in
    omega (arith, all)

module _ {F : Type 0} (value : F → List ℕ → ItemValue) (called : F → List ℕ) (parts : EngineParts F) (old : DeskState F) (piece : PieceState) (h : IsAtWork value called parts old piece)
    (new : DeskState F) (seat : new.seat ≡ old.seat) (badge : new.badge ≡ old.badge) (on : GoesOn old.pass new.pass) (own : calls_by new.pass.number new.pass.known ≡ calls_by old.pass.number old.pass.known)
    (same_value : value new.function ≡ value old.function) (turn : new.next_size ≡ old.next_size) (wants_memory : new.wants_memory ≡ old.wants_memory) where
  given : given_at parts.counter.n new ≡ h.claims ++ piece.addition ∷ []
  given = ap (λ (s : SeatState). gave parts.counter.n s.worker.claims) seat ∙ h.last

  seated : IsSeated value parts new
  seated =
      seated_on value called parts old new h.seated
      (record {
        of = ap (λ (s : SeatState). s.of) seat;
        badge = ap (λ (b : BadgeState). b.of) badge;
        number = ap (λ (s : SeatState). s.worker.number) seat;
        given = ap (λ (s : SeatState). gave parts.counter.n s.worker.claims) seat;
        on = on;
        same_value = same_value;
        next_size = turn;
      })

  own_more_called : (later : List ℕ) → called new.function ≡ called old.function ++ later → AreOwnCalls value called parts new
  own_more_called later calls = own_on value called parts old new h.own own wants_memory (calls_more (called old.function) (called new.function) later calls)

  -- a front of the indexes was called
  pub leaving : (at : ℕ) → (range_in parts piece).0 ≤ at → at ≤ (range_in parts piece).1 → called new.function ≡ called old.function ++ indexes_of ((range_in parts piece).0, at) → IsLeaving value called parts new piece
  leaving at low high calls = record {
    seated = seated;
    own = own_more_called (indexes_of ((range_in parts piece).0, at)) calls;
    part = subst (λ claims. AreWorkedOn parts.counter.n claims (piece.addition ∷ []) (called new.function)) (sym given)
        (part_called parts.counter.n h.claims piece.addition (called old.function) (called new.function) h.worked at low high calls);
    piece_is = h.piece_is;
  }

  handed_more : (handed_in : Bool) → IsHandedIn (reporter parts) new.pass.known (range_in parts piece) handed_in → AreHandedIn parts.counter.n (reporter parts) (h.claims ++ piece.addition ∷ []) new.pass
  handed_more true is =
      elim (handed_on parts.counter.n (reporter parts) h.claims old.pass new.pass on h.handed) [
        | inl reported ↦ elim is [
          | inl there ↦ inl (All-push (λ claim. Contains (ranges_by (reporter parts) new.pass.known) (clipped parts.counter.n claim)) h.claims piece.addition reported there)
          | inr strange ↦ inr (inr strange)
        ]
        | inr other ↦ inr other
      ]
  handed_more false is = inr (inl (knows_met new.pass is))

  -- all of them were, and what was kept was handed in
  pub worked_on : (handed_in : Bool) → called new.function ≡ called old.function ++ indexes_of (range_in parts piece) → IsHandedIn (reporter parts) new.pass.known (range_in parts piece) handed_in
      → IsDesk value called parts new
  worked_on handed_in calls is = record {
    seated = seated;
    own = own_more_called (indexes_of (range_in parts piece)) calls;
    left = [];
    one = omega arith;
    worked = subst (λ claims. AreWorkedOn parts.counter.n claims [] (called new.function)) (sym given)
        (whole_called parts.counter.n h.claims piece.addition (called old.function) (called new.function) h.worked (range_whole parts.counter.n piece.addition).0 calls);
    board = record {
      left_are = All-nil (IsLeft parts.counter.n (reporter parts) new.pass);
      handed = subst (λ claims. AreHandedIn parts.counter.n (reporter parts) claims new.pass) (sym given) (handed_more handed_in is);
    };
  }

-- ---- what becomes of the piece

-- the last of the indexes was called
pub last_called : (calls calls' : List ℕ) (low index : ℕ) → calls' ≡ calls ++ indexes_of (low, index + 1) → low ≤ index → 1 ≤ times_called calls' index
last_called calls calls' low index is less =
    let all : times_called calls' index ≡ times_called calls index + times_called (indexes_of (low, index + 1)) index = ap (λ list. times_called list index) is ∙ calls-append index calls (indexes_of (low, index + 1)) in
    let some = calls-range index low (index + 1 - low) in
    let here : covers index (low, low + (index + 1 - low)) ≡ 1 = inside index low less in
    omega (arith, all, some, here)
  where
    inside : (index low : ℕ) → low ≤ index → covers index (low, low + (index + 1 - low)) ≡ 1
    inside index low less = grind (arith, nat_tests)

module _ {F : Type 0} (value : F → List ℕ → ItemValue) (called : F → List ℕ) (parts : EngineParts F) (old mid new : DeskState F) (range : ℕ × ℕ) (on : GoesOn old.pass mid.pass) where
  -- memory was wanted
  pub wants_told : (turn : Turn) → HasGivenUp mid new turn → (at : ℕ) → range.0 ≤ at → at ≤ range.1 → called mid.function ≡ called old.function ++ indexes_of (range.0, at) → IsWorked value called parts old new range turn
  wants_told turn gave at low high calls =
      subst (IsWorked value called parts old new range) (sym gave.turn_is)
      (record {
        at = at;
        front = (low, high);
        calls = ap called gave.stays.function ∙ calls;
        cancels = made_since old.pass mid.pass new.pass Cancel on gave.cancels;
        met = gave.met;
      })

  -- the future was told to fail, or memory was wanted
  pub fails_told : (turn : Turn) (index : ℕ) → FailsOrWants mid new index (item_at (work_of value parts) index) turn → range.0 ≤ index → index < range.1 → first_bad (work_of value parts) range ≡ Some index
      → called mid.function ≡ called old.function ++ indexes_of (range.0, index + 1) → IsWorked value called parts old new range turn
  fails_told turn index (inl failed) low high first calls =
      subst (IsWorked value called parts old new range) (sym failed.turn_is)
      (ap called failed.stays.function ∙ calls, first, made_since old.pass mid.pass new.pass (Fail index (item_at (work_of value parts) index)) on failed.fails, failed.met)
  fails_told turn index (inr gave) low high first calls = wants_told turn gave (index + 1) (omega arith) (omega arith) calls
