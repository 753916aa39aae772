-- Where what was claimed meets what was reported. (Own.)
use Rattle.std.specs.Prelude.{◌≡◌, ℕ, ◌<◌, ◌≤◌, List, All, Contains, map}
use Rattle.qtc_base.specs.Ranges.{Tiles, times_covered}
use Rattle.qtc_claim.specs.Claims.{Worker, claims_of, clipped, gave}
use Rattle.qtc_claim.specs.Counter.{TallyState, HasAll, IsEnd, IsGathered, KnowsClaims}
use Rattle.qtc_future.specs.Future.{Logged}
use Rattle.qtc_kernel.specs.EngineParts.{AreReported}

-- all workers are gathered, and one of them saw n or more
pub record IsClaimed (tally : TallyState) : Type 0 where
  pub all : HasAll tally
  pub saw : (worker : Worker) × Contains tally.workers worker × (tally.of.n ≤ worker.seen)

-- the indexes of the gathered pieces
abbrev pub gathered_ranges : TallyState → List (ℕ × ℕ)
gathered_ranges tally = map (clipped tally.of.n) tally.pieces

-- the indexes of each claim that gave a piece were reported, and each report is of those of a gathered piece
pub record AreOfPieces (tally : TallyState) (reported : List (ℕ × ℕ)) : Type 0 where
  pub claims : All (λ claim. Contains reported (clipped tally.of.n claim)) (gave tally.of.n (claims_of tally.workers))
  pub pieces : All (Contains (gathered_ranges tally)) reported

-- no piece is missing: the gathered ones tile 0 to n, the counter is at its end, and each index below n was reported,
-- and no other
pub record NoneIsMissing (tally : TallyState) (reported : List (ℕ × ℕ)) : Type 0 where
  pub tiles : Tiles (gathered_ranges tally) tally.of.n
  pub end : IsEnd tally
  pub covered : (index : ℕ) → index < tally.of.n → 1 ≤ times_covered reported index
  pub within : (index : ℕ) → tally.of.n ≤ index → times_covered reported index ≡ 0

-- the work of an engine is at its end: all seats are gathered, what the gathered pieces and the additions without a
-- piece added meets the counter, which is at n or past it, and each gathered piece was reported by this number
pub record HasEnded (tally : TallyState) (number : ℕ) (journal : List (Logged (List ℕ))) : Type 0 where
  pub end : IsEnd tally
  pub reported : AreReported tally.of.n number tally.pieces journal

abbrev pub ReportsMeetClaims : Type 0
ReportsMeetClaims = (tally : TallyState) (reported : List (ℕ × ℕ)) →
    IsGathered tally.of tally → KnowsClaims tally → IsClaimed tally → AreOfPieces tally reported →
    NoneIsMissing tally reported
