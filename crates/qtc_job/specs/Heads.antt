-- What a line is by its first word. (Own.)
use Rattle.std.specs.Prelude.{◌≡◌, ℕ, List, Some}
use Rattle.qtc_job.specs.declared.heads.Head.{Head}
use Rattle.qtc_job.specs.declared.heads.Head.TheVariants as head
use Rattle.qtc_job_file.specs.declared.keywords.Keyword.{Keyword}
use Rattle.qtc_job.specs.Drafts.{IsOneOfJob}
use Rattle.qtc_job.specs.Lines.{Line, silent, unknown, workers, job, says, directive_line}

-- the line with this head and the words after it
abbrev pub head_line : Head → List (List ℕ) → Line
head_line head.Silent args = silent
head_line head.Unknown args = unknown
head_line head.Workers args = workers args
head_line head.Job args = job args
head_line (head.Says keyword) args = says keyword args

-- a directive other than workers and job stands in a job
abbrev pub IsOfJob : Head → Type 0
IsOfJob (head.Says keyword) = IsOneOfJob keyword
IsOfJob _ = Unit {0}

abbrev pub IsHead : Keyword → Head → Type 0
IsHead keyword named = (args : List (List ℕ)) → directive_line (Some keyword) args ≡ head_line named args

-- the head of a line, where a line that is too long is unknown
abbrev pub IsSeen : Line → Head → Type 0
IsSeen (job args) head.Job = Unit {0}
IsSeen (job args) _ = ⊥
IsSeen (says keyword args) (head.Says named) = keyword ≡ named
IsSeen (says keyword args) _ = ⊥
IsSeen _ head.Job = ⊥
IsSeen _ (head.Says named) = ⊥
IsSeen _ _ = Unit {0}
