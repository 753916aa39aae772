-- What the words of a line mean, where nothing is wrong with it; elsewhere it doesn't matter what these say. (Own.)
use Rattle.std.specs.Prelude.{ℕ, pos, Bool, true, false, List, [], ◌∷◌, ◌++◌, map, Option, Some, None, slice_index_or, if◌then◌else◌}
use Rattle.std.specs.List.{position_or_len}
use Rattle.std.specs.Str.{bytes_eq}
use Rattle.qtc_base.specs.Decimal.{number_of}
use Rattle.qtc_ops.specs.declared.operations.ItemOp.{ItemOp}
use Rattle.qtc_ops.specs.declared.operations.ItemOp.TheVariants as item
use Rattle.qtc_ops.specs.declared.operations.MapOp.{MapOp}
use Rattle.qtc_ops.specs.declared.operations.MapOp.TheVariants as mapped
use Rattle.qtc_ops.specs.declared.predicates.Pred.{Pred}
use Rattle.qtc_ops.specs.declared.predicates.Pred.TheVariants as kept
use Rattle.qtc_ops.specs.declared.fold_ops.FoldOp.{FoldOp}
use Rattle.qtc_ops.specs.declared.fold_ops.FoldOp.TheVariants as folded
use Rattle.qtc_ops.specs.declared.list_ops.ListOp.{ListOp}
use Rattle.qtc_ops.specs.declared.list_ops.ListOp.TheVariants as listed
use Rattle.qtc_job_file.specs.declared.jobs.Input.{Input}
use Rattle.qtc_job_file.specs.declared.jobs.Input.TheVariants as input
use Rattle.qtc_job_file.specs.declared.jobs.ChainOp.{ChainOp}
use Rattle.qtc_job_file.specs.declared.jobs.ChainOp.TheVariants as chain
use Rattle.qtc_job_file.specs.declared.jobs.Job.{Job}
use Rattle.qtc_job_file.specs.declared.jobs.JobFile.{JobFile}
use Rattle.qtc_job_file.specs.declared.keywords.Keyword.{Keyword}
use Rattle.qtc_job_file.specs.declared.keywords.Keyword.TheVariants as word
use Rattle.qtc_job_file.specs.Keywords.{keyword_of}
use Rattle.qtc_base.specs.Limits.{default_workers, default_block}
use Rattle.qtc_job.specs.Lines.{Line, workers, job, says, begins, args_in}
use Rattle.qtc_job.specs.Literals.{text_of, priority_of}
use Rattle.qtc_job.specs.Codes.{name_of, own_below, stands}

-- ---- the words of one line

abbrev pub word_at : List (List ℕ) → ℕ → List ℕ
word_at args place = slice_index_or args place []

abbrev pub number_at : List (List ℕ) → ℕ → ℕ
number_at args place = number_of (word_at args place)

abbrev pub text_at : List (List ℕ) → ℕ → List ℕ
text_at args place = text_of (word_at args place)

-- the place of a job of this name, from 0
abbrev pub place_of : List (List ℕ) → List ℕ → ℕ
place_of names name = position_or_len (bytes_eq name) names

abbrev pub by_word : {T : Type 0} → (Option Keyword → List (List ℕ) → T) → List (List ℕ) → T
by_word meant [] = meant None []
by_word meant (word ∷ args) = meant (keyword_of word) args

abbrev pub input_kind : List (List ℕ) → Option Keyword → List (List ℕ) → Input
input_kind names (Some word.Files) args = input.Files (map text_of args)
input_kind names (Some word.Pieces) args = input.Pieces (number_at args 0) (text_at args 1)
input_kind names (Some word.Job) args = input.Job (place_of names (word_at args 0))
input_kind names (Some word.All) args = input.All (map (place_of names) args)
input_kind names (Some word.Any) args = input.Any (map (place_of names) args)
input_kind names _ args = input.Lines (text_at args 0)

abbrev pub input_meant : List (List ℕ) → List (List ℕ) → Input
input_meant names args = by_word (input_kind names) args

abbrev pub map_kind : Option Keyword → List (List ℕ) → MapOp
map_kind (Some word.Length) args = mapped.Length
map_kind (Some word.Digest) args = mapped.Digest
map_kind (Some word.Field) args = mapped.Field (number_at args 0)
map_kind (Some word.Number) args = mapped.Number
map_kind _ args = mapped.Same

abbrev pub map_meant : List (List ℕ) → ItemOp
map_meant args = item.Map (by_word map_kind args)

abbrev pub predicate_kind : Option Keyword → List (List ℕ) → Pred
predicate_kind (Some word.Wildcard) args = kept.Wildcard (text_at args 0)
predicate_kind (Some word.Longer) args = kept.Longer (number_at args 0)
predicate_kind _ args = kept.Contains (text_at args 0)

abbrev pub filter_kind : Option Keyword → List (List ℕ) → ItemOp
filter_kind (Some word.Not) args = item.Keep true (by_word predicate_kind args)
filter_kind other args = item.Keep false (predicate_kind other args)

abbrev pub filter_meant : List (List ℕ) → ItemOp
filter_meant args = by_word filter_kind args

abbrev pub fold_kind : Option Keyword → List (List ℕ) → FoldOp
fold_kind (Some word.Bytes) args = folded.Size
fold_kind (Some word.Sum) args = folded.Sum
fold_kind (Some word.Join) args = folded.Join (text_at args 0)
fold_kind (Some word.Chain) args = folded.Chain
fold_kind (Some word.Greatest) args = folded.Greatest
fold_kind (Some word.Tally) args = folded.Tally
fold_kind _ args = folded.Count

abbrev pub fold_meant : List (List ℕ) → FoldOp
fold_meant args = by_word fold_kind args

abbrev pub order_kind : Option Keyword → List (List ℕ) → Bool
order_kind (Some word.Ordered) args = true
order_kind _ args = false

abbrev pub order_meant : List (List ℕ) → Bool
order_meant args = by_word order_kind args

abbrev pub list_kind : Option Keyword → List (List ℕ) → ListOp
list_kind (Some word.First) args = listed.First (number_at args 0)
list_kind (Some word.Concat) args = listed.Concat
list_kind _ args = listed.Sorted

abbrev pub list_meant : List (List ℕ) → ListOp
list_meant args = by_word list_kind args

-- the steps of the chain that a line says: one or none
abbrev pub chain_meant : Line → List ChainOp
chain_meant (says word.Then args) = chain.Then (list_meant args) ∷ []
chain_meant (says word.OnFailed args) = chain.OnFailed (text_at args 0) ∷ []
chain_meant (says word.OnCanceled args) = chain.OnCanceled (text_at args 0) ∷ []
chain_meant _ = []

-- ---- the lines of one job

-- the words after this one, on the line of the job that begins with it
abbrev pub args_of : Keyword → List Line → List (List ℕ)
args_of keyword [] = []
args_of keyword (line ∷ own) = if begins keyword line then args_in line else args_of keyword own

abbrev pub chain_of : List Line → List ChainOp
chain_of [] = []
chain_of (line ∷ own) = chain_meant line ++ chain_of own

-- the job of a name that its own lines say, where these are the names of the jobs above it
abbrev pub job_of : List (List ℕ) → List ℕ → List Line → Job
job_of names named own = record {
  name = named;
  input = input_meant names (args_of word.Input own);
  op = if stands word.Map own then map_meant (args_of word.Map own) else filter_meant (args_of word.Filter own);
  fold = if stands word.Reduce own then Some (fold_meant (args_of word.Reduce own)) else None;
  ordered = if stands word.Order own then order_meant (args_of word.Order own) else false;
  blocks = if stands word.Blocks own then map number_of (args_of word.Blocks own) else default_block ∷ [];
  priority = if stands word.Priority own then priority_of (word_at (args_of word.Priority own) 0) else pos 0;
  cancel_after = if stands word.CancelAfter own then number_at (args_of word.CancelAfter own) 0 else 0;
  suspend_after = if stands word.SuspendAfter own then number_at (args_of word.SuspendAfter own) 0 else 0;
  watch = stands word.Watch own;
  chain = chain_of own;
}

-- ---- the lines of a file

-- the jobs that lines say, below job lines with these names
abbrev pub jobs_of : List (List ℕ) → List Line → List Job
jobs_of names [] = []
jobs_of names (job args ∷ below) = job_of names (name_of args) (own_below below) ∷ jobs_of (names ++ name_of args ∷ []) below
jobs_of names (_ ∷ below) = jobs_of names below

abbrev pub workers_of : List Line → ℕ
workers_of [] = default_workers
workers_of (workers args ∷ below) = number_at args 0
workers_of (_ ∷ below) = workers_of below

abbrev pub file_of : List Line → JobFile
file_of lines = record { workers = workers_of lines; jobs = jobs_of [] lines }
