-- What a sink in memory tells. (Own.)
use Rattle.std.specs.Prelude.{◌≡◌, ℕ, List, [], length, min, Some, Contains}
use Rattle.qtc_outside.specs.Counts.{risen}
use Rattle.qtc_outside.specs.Intake.{Intake}
use Rattle.qtc_outside.specs.declared.mem_sink.MemSink.{MemSink}

abbrev pub sink_intake : MemSink → Intake
sink_intake sink = record { got = Some sink.text; faults = sink.plan.faults }

-- nothing was asked of the sink yet
pub record IsFreshSink (most : ℕ) (plan : List ℕ) (sink : MemSink) : Type 0 where
  pub got : sink.text ≡ []
  pub at_most : sink.most ≡ most
  pub fails : sink.plan.fails ≡ plan
  pub calls : sink.plan.calls ≡ 0
  pub faults : sink.plan.faults ≡ 0

-- a write whose number is planned fails
abbrev pub IsPlanned : MemSink → Type 0
IsPlanned sink = Contains sink.plan.fails sink.plan.calls

-- how many bytes a write takes where it doesn't fail
abbrev pub take_len : MemSink → List ℕ → ℕ
take_len sink piece = min (length piece) sink.most

-- one write was counted, with so many faults then, and what was set at the start stays
pub record IsWriteAfter (old : MemSink) (count : ℕ) (new : MemSink) : Type 0 where
  pub calls : new.plan.calls ≡ risen old.plan.calls 1
  pub faults : new.plan.faults ≡ count
  pub fails : new.plan.fails ≡ old.plan.fails
  pub most : new.most ≡ old.most
