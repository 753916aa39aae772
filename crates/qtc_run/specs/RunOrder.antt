-- In which order the jobs of a file are run and finish: round by round, and in each in the order of the file. (Own.)
use Rattle.std.specs.Prelude.{ℕ, ◌+◌, ◌==◌, Bool, max, List, [], ◌∷◌, ◌++◌, length, map, fold, filter, find, slice_index, Option}
use Rattle.std.specs.List.{flat_map, list_any, range_with_len}
use Rattle.qtc_job_file.specs.declared.jobs.Input.{Input}
use Rattle.qtc_job_file.specs.declared.jobs.Input.TheVariants as input
use Rattle.qtc_job_file.specs.declared.jobs.Job.{Job}

-- the greatest of these numbers, 0 where there is none
abbrev pub greatest : List ℕ → ℕ
greatest numbers = fold max 0 numbers

-- the round of a job that reads this, where the jobs above it have these rounds: 0 for texts, else one more than the
-- greatest round of the jobs that it names
abbrev pub round_after : List ℕ → Input → ℕ
round_after rounds (input.Lines name) = 0
round_after rounds (input.Files names) = 0
round_after rounds (input.Pieces size name) = 0
round_after rounds (input.Job place) = slice_index rounds place + 1
round_after rounds (input.All places) = greatest (map (slice_index rounds) places) + 1
round_after rounds (input.Any places) = greatest (map (slice_index rounds) places) + 1

-- the rounds of jobs, behind those of the jobs above them
abbrev pub rounds_below : List ℕ → List Job → List ℕ
rounds_below above [] = above
rounds_below above (job ∷ jobs) = rounds_below (above ++ round_after above job.input ∷ []) jobs

-- the round of each job of a file
abbrev pub rounds_of : List Job → List ℕ
rounds_of jobs = rounds_below [] jobs

abbrev pub round_at : List Job → ℕ → ℕ
round_at jobs place = slice_index (rounds_of jobs) place

-- the places of the jobs of a round
abbrev pub places_in : List ℕ → ℕ → List ℕ
places_in rounds round = filter (λ place. slice_index rounds place == round) (range_with_len 0 (length rounds))

-- the places of all jobs, in the order in which they are run
abbrev pub run_order : List Job → List ℕ
run_order jobs = flat_map (places_in (rounds_of jobs)) (range_with_len 0 (length jobs))

abbrev pub is_among : List ℕ → ℕ → Bool
is_among places place = list_any (λ other. other == place) places

-- that one of these jobs which finishes first
abbrev pub first_finished : List Job → List ℕ → Option ℕ
first_finished jobs places = find (is_among places) (run_order jobs)
