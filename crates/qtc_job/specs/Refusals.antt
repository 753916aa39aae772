-- What a refusal of a job file says. (Own.)
use Rattle.std.specs.Prelude.{ℕ, List}
use Rattle.qtc_job.specs.declared.faults.ParseFault.{ParseFault}
use Rattle.qtc_job.specs.declared.faults.ParseFault.TheVariants.{Bad, Memory}
use Rattle.qtc_job.specs.Grammar.{IsLeastBad}
use Rattle.qtc_job.specs.Lines.{lines_of}

-- the pair is the bad one of least line and then least code; want of memory says nothing
abbrev pub Refuses : List ℕ → ParseFault → Type 0
Refuses text (Bad bad) = IsLeastBad (lines_of text) bad.line bad.code
Refuses text Memory = Unit {0}
