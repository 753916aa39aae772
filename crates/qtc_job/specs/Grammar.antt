-- Which pairs of a line and a code are bad, and which file the lines without bad pairs are read as. (Own.)
use Rattle.std.specs.Prelude.{◌≡◌, ◌⊎◌, ℕ, ◌-◌, ◌≤◌, ◌<◌, List, length, take, drop, reverse, slice_index_or, Contains}
use Rattle.qtc_job_file.specs.declared.jobs.JobFile.{JobFile}
use Rattle.qtc_job.specs.Lines.{Line, silent}
use Rattle.qtc_job.specs.Codes.{codes_on}
use Rattle.qtc_job.specs.Meaning.{file_of}

-- the codes of the line of this number, from 1
abbrev pub codes_at : List Line → ℕ → List ℕ
codes_at lines line =
    codes_on (reverse (take (line - 1) lines)) (slice_index_or lines (line - 1) silent) (drop line lines)

pub record IsBad (lines : List Line) (line code : ℕ) : Type 0 where
  pub some : 1 ≤ line
  pub within : line ≤ length lines
  pub holds : Contains (codes_at lines line) code

-- of least line, then of least code
pub record IsLeastBad (lines : List Line) (line code : ℕ) : Type 0 where
  pub bad : IsBad lines line code
  pub least : (m k : ℕ) → IsBad lines m k → (line < m) ⊎ ((line ≡ m) × (code ≤ k))

-- no pair is bad, and the lines say the file
pub record Reads (lines : List Line) (file : JobFile) : Type 0 where
  pub good : (line code : ℕ) → ¬ IsBad lines line code
  pub says : file ≡ file_of lines
