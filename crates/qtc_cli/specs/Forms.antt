-- The forms of the words that the program takes. (Own.)
use Rattle.std.specs.Prelude.{ℕ, ◌≤◌, Bool, ◌&&◌, List, [], ◌∷◌, Option, Some, None, codes, if◌then◌else◌}
use Rattle.std.specs.Str.{bytes_eq}
use Rattle.qtc_base.specs.Decimal.{number_of}
use Rattle.qtc_base.specs.Limits.{most_workers}
use Rattle.qtc_job.specs.Literals.{is_numeral, is_within}

-- run JOB, perhaps with a number of workers; check JOB
pub data Form : Type 0 where
  run : Option ℕ → List ℕ → Form
  check : List ℕ → Form

-- as many workers as a run may have
abbrev pub IsWorkerCount : ℕ → Type 0
IsWorkerCount number = (1 ≤ number) × (number ≤ most_workers)

-- 1 to 10 digits for 1 to 32
abbrev pub is_workers : List ℕ → Bool
is_workers word = is_numeral word && is_within 1 most_workers word

abbrev pub form_of_two : List ℕ → List ℕ → Option Form
form_of_two command job =
    if bytes_eq command (codes "run") then Some (run None job)
    else (if bytes_eq command (codes "check") then Some (check job) else None)

abbrev pub form_of_four : List ℕ → List ℕ → List ℕ → List ℕ → Option Form
form_of_four command option number job =
    if bytes_eq command (codes "run") && (bytes_eq option (codes "--workers") && is_workers number)
    then Some (run (Some (number_of number)) job) else None

-- run JOB, check JOB or run --workers N JOB
abbrev pub form : List (List ℕ) → Option Form
form (command ∷ job ∷ []) = form_of_two command job
form (command ∷ option ∷ number ∷ job ∷ []) = form_of_four command option number job
form _ = None
