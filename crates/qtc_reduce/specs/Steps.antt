-- What each call does to a reduction, and what it answers. (After ReduceKernel of Qt Concurrent; own.)
use Rattle.std.specs.Prelude.{◌≡◌, ◌*◌, ◌++◌, ℕ, Bool, true, false, nat_lt, IsTrue, [], ◌∷◌, length, Option, Some, None, Result, OnErr, IfOk, IsOk, IsSome, All, remove, slice_index_or}
use Rattle.std.specs.Bool.{OnTrue, OnFalse}
use Rattle.qtc_base.specs.declared.memory.NoMemory.{NoMemory}
use Rattle.qtc_reduce.specs.declared.answers.Offer.{Offer}
use Rattle.qtc_reduce.specs.declared.answers.Offer.TheVariants.{Stored, Yours, Closed}
use Rattle.qtc_reduce.specs.declared.answers.Next.{Next}
use Rattle.qtc_reduce.specs.declared.answers.Next.TheVariants.{Done, More}
use Rattle.qtc_reduce.specs.declared.answers.Folded.{Folded}
use Rattle.qtc_reduce.specs.declared.blocks.Block.{Block}
use Rattle.qtc_reduce.specs.Blocks.{IsNextAt}
use Rattle.qtc_reduce.specs.Core.{Core, goes_out, is_next, listed}

-- so many blocks may wait for each worker
abbrev pub most_stored : ℕ
most_stored = 30

module _ {A : Type 0} where
  -- the block is in hand, with the accumulator
  abbrev pub handed_out : Block → Core A → Core A
  handed_out block core = record core { hand = Some block.range; progress = block.range.end; home = None }

  -- the block waits behind the others
  abbrev pub stored_with : Block → Core A → Core A
  stored_with block core = record core { stored = core.stored ++ block ∷ [] }

  -- closed exactly where a block was given back unfinished; else the caller's exactly where the accumulator is home and the
  -- block is next; else stored, and told whether more wait than should
  abbrev pub Answers : Block → Core A → Core A → Offer A → Type 0
  Answers block old new Closed = (old.closed ≡ true) × (new ≡ old)
  Answers block old new (Yours acc back) =
      (old.closed ≡ false) × IsTrue (goes_out old block) × (old.home ≡ Some acc) × (back ≡ block) × (new ≡ handed_out block old)
  Answers block old new (Stored many) =
      (old.closed ≡ false) × (goes_out old block ≡ false) × (new ≡ stored_with block old)
      × (many ≡ nat_lt (most_stored * old.workers) (length new.stored))

  -- a block is offered; for want of memory it is dropped and nothing changes, and Closed wants none
  pub record IsOffered (block : Block) (old new : Core A) (result : Result (Offer A) NoMemory) : Type 0 where
    pub answer : IfOk result (Answers block old new)
    pub err : OnErr result (new ≡ old)
    pub closed : old.closed ≡ true → IsOk result

  -- the accumulator is home with the block in hand folded
  abbrev pub back_home : A → Core A → Core A
  back_home acc core = record core { folded = core.folded ++ listed core.hand; hand = None; home = Some acc }

  -- the accumulator stays out with the block that waited at a place
  abbrev pub gone_on : ℕ → Block → Core A → Core A
  gone_on place block core = record core {
    folded = core.folded ++ listed core.hand;
    stored = remove core.stored place;
    hand = Some block.range;
    progress = block.range.end;
  }

  -- the accumulator is home, and no more is folded
  abbrev pub closed_with : A → Core A → Core A
  closed_with acc core = record core { hand = None; closed = true; home = Some acc }

  -- the block in hand is folded: more exactly where a block that waits may be next
  abbrev pub GoesOn : A → Core A → Core A → Next A → Type 0
  GoesOn acc old new Done = All (λ other. is_next old other ≡ false) old.stored × (new ≡ back_home acc old)
  GoesOn acc old new (More back block) =
      (back ≡ acc) × ((place : ℕ) × IsNextAt old.ordered old.progress old.stored place
      × (slice_index_or old.stored place block ≡ block) × (new ≡ gone_on place block old))

  -- the accumulator is given back, with the block in hand folded into it or not
  pub record IsGivenBack (acc : A) (whole : Bool) (old new : Core A) (result : Next A) : Type 0 where
    pub goes_on : OnTrue whole (GoesOn acc old new result)
    pub unfinished : OnFalse whole ((result ≡ Done) × (new ≡ closed_with acc old))

  -- the accumulator is home with all that was offered folded into it
  abbrev pub EndsAs : Core A → Folded A → Type 0
  EndsAs core folded =
      (core.closed ≡ false) × (core.stored ≡ []) × (core.home ≡ Some folded.acc) × (folded.ranges ≡ core.folded)

  -- none exactly where the accumulator is out, a block waits, or it is closed
  abbrev pub IsFinish : Core A → Option (Folded A) → Type 0
  IsFinish core None = ((core.closed ≡ false) × (core.stored ≡ []) × IsSome core.home) → ⊥
  IsFinish core (Some folded) = EndsAs core folded
