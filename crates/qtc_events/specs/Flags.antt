-- The flags of a future. (After the states of QFutureInterface; which there are, and their bits, is own.)
use Rattle.std.specs.Prelude.{ℕ, ◌+◌, Bool, true, false, ◌==◌, if◌then◌else◌, List, fold}
use Rattle.std.specs.Int.{bit_at}

pub data Flag : Type 0 where
  Running : Flag
  Started : Flag
  Finished : Flag
  Canceled : Flag
  Suspending : Flag
  Suspended : Flag
  Throttled : Flag
  Pending : Flag

-- which of them stand
pub record Standing : Type 0 where
  pub running : Bool
  pub started : Bool
  pub finished : Bool
  pub canceled : Bool
  pub suspending : Bool
  pub suspended : Bool
  pub throttled : Bool
  pub pending : Bool

abbrev pub no_flags : Standing
no_flags = record {
  running = false;
  started = false;
  finished = false;
  canceled = false;
  suspending = false;
  suspended = false;
  throttled = false;
  pending = false;
}

-- what a new future has
abbrev pub new_flags : Standing
new_flags = record no_flags { pending = true }

abbrev pub stands : Standing → Flag → Bool
stands s Running = s.running
stands s Started = s.started
stands s Finished = s.finished
stands s Canceled = s.canceled
stands s Suspending = s.suspending
stands s Suspended = s.suspended
stands s Throttled = s.throttled
stands s Pending = s.pending

-- with one flag set, or cleared
abbrev pub put : Bool → Standing → Flag → Standing
put b s Running = record s { running = b }
put b s Started = record s { started = b }
put b s Finished = record s { finished = b }
put b s Canceled = record s { canceled = b }
put b s Suspending = record s { suspending = b }
put b s Suspended = record s { suspended = b }
put b s Throttled = record s { throttled = b }
put b s Pending = record s { pending = b }

abbrev pub put_all : Bool → Standing → List Flag → Standing
put_all b s flags = fold (put b) s flags

-- this flag and no other
abbrev pub just : Flag → Standing
just flag = put true no_flags flag

-- the bit of a place stands in a word
abbrev pub has_bit : ℕ → ℕ → Bool
has_bit word place = bit_at word place == 1

-- the flags that a word shows: bits 1, 2, 4, 8, 16, 32, 64 and 128
abbrev pub flags_in : ℕ → Standing
flags_in word = record {
  running = has_bit word 0;
  started = has_bit word 1;
  finished = has_bit word 2;
  canceled = has_bit word 3;
  suspending = has_bit word 4;
  suspended = has_bit word 5;
  throttled = has_bit word 6;
  pending = has_bit word 7;
}

-- what a flag adds to the word
abbrev pub weighed : Bool → ℕ → ℕ
weighed b weight = if b then weight else 0

-- the word that shows these flags
abbrev pub word_of : Standing → ℕ
word_of s =
    weighed s.running 1 + weighed s.started 2 + weighed s.finished 4 + weighed s.canceled 8
    + weighed s.suspending 16 + weighed s.suspended 32 + weighed s.throttled 64 + weighed s.pending 128

-- how many words there are
abbrev pub word_count : ℕ
word_count = 256

-- with those of `clears` cleared, and then those of `sets` set
abbrev pub turned : Bool → Bool → Bool → Bool
turned stood clears sets = if sets then true else if clears then false else stood

abbrev pub changed : Standing → Standing → Standing → Standing
changed s clears sets = record {
  running = turned s.running clears.running sets.running;
  started = turned s.started clears.started sets.started;
  finished = turned s.finished clears.finished sets.finished;
  canceled = turned s.canceled clears.canceled sets.canceled;
  suspending = turned s.suspending clears.suspending sets.suspending;
  suspended = turned s.suspended clears.suspended sets.suspended;
  throttled = turned s.throttled clears.throttled sets.throttled;
  pending = turned s.pending clears.pending sets.pending;
}
