-- The canonical text of a job file. (Own.)
use Rattle.std.specs.Prelude.{ℕ, suc, ℤ, pos, negsuc, Bool, true, false, not, ◌&&◌, ◌==◌, nat_lt, List, [], ◌∷◌, ◌++◌, map, Option, Some, None, slice_index_or, if◌then◌else◌}
use Rattle.std.specs.List.{flat_map, join_with_byte}
use Rattle.qtc_base.specs.Decimal.{decimal_text}
use Rattle.qtc_base.specs.Escape.{hex_escape}
use Rattle.qtc_ops.specs.declared.operations.ItemOp.{ItemOp}
use Rattle.qtc_ops.specs.declared.operations.ItemOp.TheVariants as item
use Rattle.qtc_ops.specs.declared.operations.MapOp.{MapOp}
use Rattle.qtc_ops.specs.declared.operations.MapOp.TheVariants as mapped
use Rattle.qtc_ops.specs.declared.predicates.Pred.{Pred}
use Rattle.qtc_ops.specs.declared.predicates.Pred.TheVariants as kept
use Rattle.qtc_ops.specs.declared.fold_ops.FoldOp.{FoldOp}
use Rattle.qtc_ops.specs.declared.fold_ops.FoldOp.TheVariants as folded
use Rattle.qtc_ops.specs.declared.list_ops.ListOp.{ListOp}
use Rattle.qtc_ops.specs.declared.list_ops.ListOp.TheVariants as listed
use Rattle.qtc_job_file.specs.declared.jobs.Input.{Input}
use Rattle.qtc_job_file.specs.declared.jobs.Input.TheVariants as input
use Rattle.qtc_job_file.specs.declared.jobs.ChainOp.{ChainOp}
use Rattle.qtc_job_file.specs.declared.jobs.ChainOp.TheVariants as chain
use Rattle.qtc_job_file.specs.declared.jobs.Job.{Job}
use Rattle.qtc_job_file.specs.declared.jobs.JobFile.{JobFile}
use Rattle.qtc_job_file.specs.declared.keywords.Keyword.TheVariants as word
use Rattle.qtc_job_file.specs.Keywords.{spelling}

-- ---- one word

-- above 0x20, but no 0x7f and no backslash
abbrev pub is_plain : ℕ → Bool
is_plain byte = nat_lt 32 byte && (not (byte == 127) && not (byte == 92))

abbrev pub written_byte : ℕ → List ℕ
written_byte byte = if is_plain byte then byte ∷ [] else hex_escape byte

-- the word of a literal or name of a text: every other byte is written \xHH
abbrev pub written : List ℕ → List ℕ
written text = flat_map written_byte text

abbrev pub priority_text : ℤ → List ℕ
priority_text (pos n) = decimal_text n
priority_text (negsuc n) = 45 ∷ decimal_text (suc n)

abbrev pub name_at : List (List ℕ) → ℕ → List ℕ
name_at names place = slice_index_or names place []

-- ---- the words of one line

abbrev pub input_words : List (List ℕ) → Input → List (List ℕ)
input_words names (input.Lines text) = spelling word.Lines ∷ written text ∷ []
input_words names (input.Files texts) = spelling word.Files ∷ map written texts
input_words names (input.Pieces size text) = spelling word.Pieces ∷ decimal_text size ∷ written text ∷ []
input_words names (input.Job place) = spelling word.Job ∷ name_at names place ∷ []
input_words names (input.All places) = spelling word.All ∷ map (name_at names) places
input_words names (input.Any places) = spelling word.Any ∷ map (name_at names) places

abbrev pub map_words : MapOp → List (List ℕ)
map_words mapped.Same = spelling word.Same ∷ []
map_words mapped.Length = spelling word.Length ∷ []
map_words mapped.Digest = spelling word.Digest ∷ []
map_words (mapped.Field number) = spelling word.Field ∷ decimal_text number ∷ []
map_words mapped.Number = spelling word.Number ∷ []

abbrev pub predicate_words : Pred → List (List ℕ)
predicate_words (kept.Contains text) = spelling word.Contains ∷ written text ∷ []
predicate_words (kept.Wildcard text) = spelling word.Wildcard ∷ written text ∷ []
predicate_words (kept.Longer bound) = spelling word.Longer ∷ decimal_text bound ∷ []

abbrev pub op_words : ItemOp → List (List ℕ)
op_words (item.Map op) = spelling word.Map ∷ map_words op
op_words (item.Keep negated pred) = spelling word.Filter ∷ (if negated then spelling word.Not ∷ predicate_words pred else predicate_words pred)

abbrev pub fold_words : FoldOp → List (List ℕ)
fold_words folded.Count = spelling word.Count ∷ []
fold_words folded.Size = spelling word.Bytes ∷ []
fold_words folded.Sum = spelling word.Sum ∷ []
fold_words (folded.Join separator) = spelling word.Join ∷ written separator ∷ []
fold_words folded.Chain = spelling word.Chain ∷ []
fold_words folded.Greatest = spelling word.Greatest ∷ []
fold_words folded.Tally = spelling word.Tally ∷ []

abbrev pub list_words : ListOp → List (List ℕ)
list_words (listed.First count) = spelling word.First ∷ decimal_text count ∷ []
list_words listed.Sorted = spelling word.Sorted ∷ []
list_words listed.Concat = spelling word.Concat ∷ []

abbrev pub chain_words : ChainOp → List (List ℕ)
chain_words (chain.Then op) = spelling word.Then ∷ list_words op
chain_words (chain.OnFailed text) = spelling word.OnFailed ∷ written text ∷ []
chain_words (chain.OnCanceled text) = spelling word.OnCanceled ∷ written text ∷ []

-- ---- the words of the lines of a job, and of a file

abbrev pub order_words : Bool → List (List ℕ)
order_words true = spelling word.Order ∷ spelling word.Ordered ∷ []
order_words false = spelling word.Order ∷ spelling word.Unordered ∷ []

-- the fold and its order
abbrev pub fold_lines : Option FoldOp → Bool → List (List (List ℕ))
fold_lines None ordered = []
fold_lines (Some fold) ordered = (spelling word.Reduce ∷ fold_words fold) ∷ order_words ordered ∷ []

-- a number of items after which something is done; 0 for never
abbrev pub after_lines : List ℕ → ℕ → List (List (List ℕ))
after_lines spelled count = if count == 0 then [] else (spelled ∷ decimal_text count ∷ []) ∷ []

abbrev pub watch_lines : Bool → List (List (List ℕ))
watch_lines watched = if watched then (spelling word.Watch ∷ []) ∷ [] else []

-- the lines after the job line
abbrev pub own_lines : List (List ℕ) → Job → List (List (List ℕ))
own_lines names job =
    (spelling word.Input ∷ input_words names job.input) ∷ op_words job.op ∷ (fold_lines job.fold job.ordered
    ++ ((spelling word.Blocks ∷ map decimal_text job.blocks) ∷ (spelling word.Priority ∷ priority_text job.priority ∷ [])
    ∷ (after_lines (spelling word.CancelAfter) job.cancel_after ++ (after_lines (spelling word.SuspendAfter) job.suspend_after
    ++ (watch_lines job.watch ++ map chain_words job.chain)))))

abbrev pub job_lines : List (List ℕ) → Job → List (List (List ℕ))
job_lines names job = (spelling word.Job ∷ job.name ∷ []) ∷ own_lines names job

abbrev pub names_of : List Job → List (List ℕ)
names_of jobs = map (λ job. job.name) jobs

abbrev pub file_lines : JobFile → List (List (List ℕ))
file_lines file = (spelling word.Workers ∷ decimal_text file.workers ∷ []) ∷ flat_map (job_lines (names_of file.jobs)) file.jobs

-- ---- the text

-- the words parted by one space
abbrev pub line_text : List (List ℕ) → List ℕ
line_text words = join_with_byte 32 words

-- each line ended by LF
abbrev pub ended_line : List (List ℕ) → List ℕ
ended_line words = line_text words ++ 10 ∷ []

abbrev pub canonical : JobFile → List ℕ
canonical file = flat_map ended_line (file_lines file)
