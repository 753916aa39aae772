-- What one line of a job file is. (Own.)
use Rattle.std.specs.Prelude.{ℕ, Bool, true, false, nat_lt, List, [], ◌∷◌, length, map, Option, Some, slice_index, ◌==◌, if◌then◌else◌}
use Rattle.std.specs.Str.{bytes_eq}
use Rattle.qtc_base.specs.Lines.{lines}
use Rattle.qtc_job_file.specs.declared.keywords.Keyword.{Keyword}
use Rattle.qtc_job_file.specs.declared.keywords.Keyword.TheVariants as word
use Rattle.qtc_job_file.specs.Keywords.{keyword_of, spelling}
use Rattle.qtc_base.specs.Limits.{most_line}
use Rattle.qtc_job.specs.Words.{words}

-- too long; silent, as a comment or a line without words; with a first word that is no directive; or a directive with
-- the words after it
pub data Line : Type 0 where
  too_long : Line
  silent : Line
  unknown : Line
  workers : List (List ℕ) → Line
  job : List (List ℕ) → Line
  says : Keyword → List (List ℕ) → Line

-- the line of a directive and the words after it
abbrev pub directive_line : Option Keyword → List (List ℕ) → Line
directive_line (Some word.Workers) args = workers args
directive_line (Some word.Job) args = job args
directive_line (Some word.Input) args = says word.Input args
directive_line (Some word.Map) args = says word.Map args
directive_line (Some word.Filter) args = says word.Filter args
directive_line (Some word.Reduce) args = says word.Reduce args
directive_line (Some word.Order) args = says word.Order args
directive_line (Some word.Blocks) args = says word.Blocks args
directive_line (Some word.Priority) args = says word.Priority args
directive_line (Some word.CancelAfter) args = says word.CancelAfter args
directive_line (Some word.SuspendAfter) args = says word.SuspendAfter args
directive_line (Some word.Watch) args = says word.Watch args
directive_line (Some word.Then) args = says word.Then args
directive_line (Some word.OnFailed) args = says word.OnFailed args
directive_line (Some word.OnCanceled) args = says word.OnCanceled args
directive_line _ args = unknown

-- no words, or a first word that begins with #, say nothing
abbrev pub line_of_words : List (List ℕ) → Line
line_of_words [] = silent
line_of_words (word ∷ args) = if slice_index word 0 == 35 then silent else directive_line (keyword_of word) args

abbrev pub line_of : List ℕ → Line
line_of line = if nat_lt most_line (length line) then too_long else line_of_words (words line)

-- the lines of a text
abbrev pub lines_of : List ℕ → List Line
lines_of text = map line_of (lines text)

-- ---- a line by its first word

abbrev pub is_workers : Line → Bool
is_workers (workers args) = true
is_workers _ = false

abbrev pub is_job : Line → Bool
is_job (job args) = true
is_job _ = false

-- a line of a job that begins with this word
abbrev pub begins : Keyword → Line → Bool
begins keyword (says directive args) = bytes_eq (spelling keyword) (spelling directive)
begins keyword _ = false

-- the words after the first
abbrev pub args_in : Line → List (List ℕ)
args_in (workers args) = args
args_in (job args) = args
args_in (says directive args) = args
args_in _ = []
