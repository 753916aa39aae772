-- What is seen of a call of the program. (Own.)
use Rattle.std.specs.Prelude.{ℕ, List}
use Rattle.qtc_outside.specs.Source.{Source}
use Rattle.qtc_outside.specs.Intake.{Intake}

-- its words, the source and the sinks before and after it, and the status that it ended with
pub record Seen : Type 0 where
  pub words : List (List ℕ)
  pub texts : Source
  pub texts_after : Source
  pub out : Intake
  pub out_after : Intake
  pub err : Intake
  pub err_after : Intake
  pub status : ℕ

abbrev pub seen : List (List ℕ) → Source → Source → Intake → Intake → Intake → Intake → ℕ → Seen
seen words texts texts_after out out_after err err_after status = record {
  words = words;
  texts = texts;
  texts_after = texts_after;
  out = out;
  out_after = out_after;
  err = err;
  err_after = err_after;
  status = status;
}
