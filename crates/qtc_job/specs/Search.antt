-- Where the first bad pair is found. (Own.)
use Rattle.std.specs.Prelude.{ℕ, ◌+◌, ◌&&◌, ◌||◌, nat_lt, List, [], ◌∷◌, Option, Some, None, if◌then◌else◌}
use Rattle.qtc_job.specs.Answers.{least}
use Rattle.qtc_job.specs.Codes.{codes_on}
use Rattle.qtc_job.specs.Lines.{Line}

-- the pair of the line and the code, where there is a code, or else what comes later
abbrev pub found : ℕ → ℕ → Option (ℕ × ℕ) → Option (ℕ × ℕ)
found code line later = if nat_lt code 100 then Some (line, code) else later

-- the first bad pair from the line of this number on, where these lines stand above, nearest first
abbrev pub first_bad : List Line → ℕ → List Line → Option (ℕ × ℕ)
first_bad above line [] = None
first_bad above line (l ∷ below) = found (least (codes_on above l below)) line (first_bad (l ∷ above) (line + 1) below)

-- the pair of a job line, where it stands before the other one
abbrev pub settled : ℕ → ℕ → ℕ → ℕ → Option (ℕ × ℕ)
settled job_code job_line code line =
    if nat_lt job_code 100 && (nat_lt job_line line || nat_lt job_code code) then Some (job_line, job_code) else Some (line, code)
