-- The calls on what was claimed. (Own.)
use Rattle.std.specs.Prelude.{◌≡◌, ℕ, ◌+◌, ◌≤◌, ◌==◌, cond, if◌then◌else◌, nat_lt, List, ◌++◌, All, Result, IfOk, map, sum_by, count_by}
use Rattle.qtc_base.specs.Ranges.{in_range, times_called, times_covered, Tiles}
use Rattle.qtc_claim.specs.Claims.{Addition, clipped, added, added_past, MeetNowhere}
use Rattle.qtc_claim.specs.Counter.{PieceState}

-- the list has each index as often as the claims cover it, cut at n
abbrev pub AreCalls : ℕ → List Addition → List ℕ → Type 0
AreCalls n claims calls = (index : ℕ) → times_called calls index ≡ times_covered (map (clipped n) claims) index

-- each index of the range was called once more
abbrev pub CallsRange : (before : List ℕ) → ℕ × ℕ → (after : List ℕ) → Type 0
CallsRange before range after =
    (index : ℕ) → times_called after index ≡ times_called before index + cond (in_range index range) 1 0

-- what the pieces added, and the additions that gave none, is all that was claimed: no piece is missing
abbrev pub NoneMissing : ℕ → List Addition → (pieces : ℕ) → Type 0
NoneMissing n claims pieces = pieces + added_past n claims ≡ added claims

-- what the additions of the pieces added
abbrev pub added_for : List PieceState → ℕ
added_for pieces = sum_by (λ piece. piece.addition.size) pieces

-- what holds of each answer that isn't a want of memory
abbrev pub AllOk : {X E : Type 0} → (X → Type 0) → List (Result X E) → Type 0
AllOk holds answers = All (λ answer. IfOk answer holds) answers

-- each index below n once, and no other
abbrev pub EachOnce : ℕ → List ℕ → Type 0
EachOnce n calls = (index : ℕ) → times_called calls index ≡ (if nat_lt index n then 1 else 0)

-- the calls of two workers, one list after the other, are the calls of both; where claims meet nowhere no index was
-- called twice, and where they tile 0 to n each was called once
pub record CallsComeTogether : Type 0 where
  pub together : (n : ℕ) (claims more : List Addition) (calls further : List ℕ)
      → AreCalls n claims calls → AreCalls n more further → AreCalls n (claims ++ more) (calls ++ further)
  pub at_most_once : (n : ℕ) (claims : List Addition) (calls : List ℕ)
      → MeetNowhere n claims → AreCalls n claims calls → (index : ℕ) → times_called calls index ≤ 1
  pub each_once : (n : ℕ) (claims : List Addition) (calls : List ℕ)
      → Tiles (map (clipped n) claims) n → AreCalls n claims calls → EachOnce n calls
