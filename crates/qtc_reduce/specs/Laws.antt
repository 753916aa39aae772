-- What lists of calls on a reduction come to. (After ReduceKernel of Qt Concurrent; own.)
use Rattle.std.specs.Prelude.{◌≡◌, ◌<◌, ◌++◌, ℕ, Bool, true, false, ⊤, if◌then◌else◌, List, [], ◌∷◌, map, fold, flat_map, Option, Some, None, is_some, IsSome, IfSome, option_map, Result, Ok, Err}
use Rattle.std.specs.List.{FoldsTo}
use Rattle.std.specs.Option.{option_or}
use Rattle.qtc_base.specs.Ranges.{Tiles, bounds_of}
use Rattle.qtc_base.specs.declared.memory.NoMemory.{NoMemory}
use Rattle.qtc_base.specs.declared.ranges.Range.{Range}
use Rattle.qtc_reduce.specs.declared.answers.Offer.{Offer}
use Rattle.qtc_reduce.specs.declared.answers.Offer.TheVariants.{Stored, Yours, Closed}
use Rattle.qtc_reduce.specs.declared.answers.Next.{Next}
use Rattle.qtc_reduce.specs.declared.answers.Next.TheVariants.{Done, More}
use Rattle.qtc_reduce.specs.declared.blocks.Block.{Block}
use Rattle.qtc_reduce.specs.Blocks.{bounds, texts_of}
use Rattle.qtc_reduce.specs.Core.{Core, listed, new_core}
use Rattle.qtc_reduce.specs.Steps.{IsGivenBack, IsOffered}

-- a call on a reduction, with what it was answered
pub data Told (A : Type 0) : Type 0 where
  offer : (block : Block) → (answer : Result (Offer A) NoMemory) → Told A
  give_back : (acc : A) → (whole : Bool) → (answer : Next A) → Told A

-- what is known of the calls so far: what is handed out and not yet back, and the blocks that were given back whole, in order
pub record Track (A : Type 0) : Type 0 where
  pub out : Option (A × Block)
  pub blocks : List Block

-- each range begins where the one before ended, from a number up to another
abbrev pub FollowOn : ℕ → List Range → ℕ → Type 0
FollowOn from [] to = from ≡ to
FollowOn from (range ∷ ranges) to = (range.begin ≡ from) × FollowOn range.end ranges to

module _ {A : Type 0} where
  abbrev pub Does : Core A → Told A → Core A → Type 0
  Does old (offer block answer) new = IsOffered block old new answer
  Does old (give_back acc whole answer) new = IsSome old.hand × IsGivenBack acc whole old new answer

  abbrev pub offered_out : Result (Offer A) NoMemory → Option (A × Block)
  offered_out (Ok (Yours acc block)) = Some (acc, block)
  offered_out (Ok (Stored many)) = None
  offered_out (Ok Closed) = None
  offered_out (Err error) = None

  abbrev pub next_out : Next A → Option (A × Block)
  next_out Done = None
  next_out (More acc block) = Some (acc, block)

  abbrev pub block_of : Option (A × Block) → List Block
  block_of None = []
  block_of (Some out) = out.1 ∷ []

  abbrev pub nothing_out : Track A
  nothing_out = record { out = None; blocks = [] }

  abbrev pub tracked : Track A → Told A → Track A
  tracked track (offer block answer) = record track { out = option_or (offered_out answer) track.out }
  tracked track (give_back acc whole answer) =
      record { out = next_out answer; blocks = track.blocks ++ (if whole then block_of track.out else []) }

  -- who gives back a whole accumulator has folded into it, from what was handed out, the block's texts in their order
  abbrev pub IsWhole : (A → List ℕ → A) → Track A → Told A → Type 0
  IsWhole next track (offer block answer) = ⊤
  IsWhole next track (give_back acc false answer) = ⊤
  IsWhole next track (give_back acc true answer) = IfSome track.out (λ out. acc ≡ fold next out.0 (texts_of out.1))

  abbrev pub AreWhole : (A → List ℕ → A) → Track A → List (Told A) → Type 0
  AreWhole next track [] = ⊤
  AreWhole next track (call ∷ calls) = IsWhole next track call × AreWhole next (tracked track call) calls

  -- the fold of all texts of the blocks
  abbrev pub reduced : (A → List ℕ → A) → A → List Block → A
  reduced next first blocks = fold next first (flat_map texts_of blocks)

  -- the listed ranges are those of the blocks that were given back whole, and the accumulator, home or out, is the fold of
  -- their texts in that order; in an ordered reduction each of them begins where the one before ended
  pub record IsReduced (next : A → List ℕ → A) (first : A) (core : Core A) (track : Track A) : Type 0 where
    pub ranges : core.folded ≡ map (λ block. block.range) track.blocks
    pub home : core.closed ≡ false → IfSome core.home (λ acc. acc ≡ reduced next first track.blocks)
    pub out : IfSome track.out (λ out. out.0 ≡ reduced next first track.blocks)
    pub in_hand : core.hand ≡ option_map (λ out. out.1.range) track.out
    pub one : is_some core.home ≡ true → core.hand ≡ None
    pub in_order : core.closed ≡ false → core.ordered ≡ true → FollowOn 0 (core.folded ++ listed core.hand) core.progress

-- so it is whatever is called, in whatever order
abbrev pub FoldsAreTold : Type 0 → Type 0
FoldsAreTold A =
    (next : A → List ℕ → A) (first : A) (ordered : Bool) (workers : ℕ) (calls : List (Told A)) (last : Core A)
    → FoldsTo Does (new_core ordered workers first) calls last → AreWhole next nothing_out calls
    → IsReduced next first last (fold tracked nothing_out calls)

-- ---- what was offered

module _ {A : Type 0} where
  -- the range of an offered block that was taken, in hand or to wait
  abbrev pub taken_by : Told A → List (ℕ × ℕ)
  taken_by (offer block (Ok (Yours acc back))) = bounds block ∷ []
  taken_by (offer block (Ok (Stored many))) = bounds block ∷ []
  taken_by (offer block (Ok Closed)) = []
  taken_by (offer block (Err error)) = []
  taken_by (give_back acc whole answer) = []

  -- no offered block is empty
  abbrev pub AreSome : List (Told A) → Type 0
  AreSome [] = ⊤
  AreSome (offer block answer ∷ calls) = (block.range.begin < block.range.end) × AreSome calls
  AreSome (give_back acc whole answer ∷ calls) = AreSome calls

-- where what was offered and taken has each index below n once, the accumulator is home, and nothing was given back
-- unfinished, no block waits, and the listed ranges have each index below n once
abbrev pub AllIsFolded : Type 0 → Type 0
AllIsFolded A =
    (first : A) (ordered : Bool) (workers : ℕ) (calls : List (Told A)) (last : Core A) (n : ℕ)
    → FoldsTo Does (new_core ordered workers first) calls last → AreSome calls
    → Tiles (flat_map taken_by calls) n → last.closed ≡ false → is_some last.home ≡ true
    → (last.stored ≡ []) × Tiles (map bounds_of last.folded) n
