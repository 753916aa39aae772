-- Which job files are lawful: those that a job file can say. (Own.)
use Rattle.std.specs.Prelude.{◌≡◌, ℕ, ◌<◌, ◌≤◌, ℤ, pos, neg_ℤ, ◌≤ℤ◌, IsTrue, List, length, IsSome, IfSome, All, slice_index_or}
use Rattle.std.specs.List.{AllPairs}
use Rattle.qtc_ops.specs.declared.operations.ItemOp.{ItemOp}
use Rattle.qtc_ops.specs.declared.operations.ItemOp.TheVariants as item
use Rattle.qtc_ops.specs.declared.operations.MapOp.{MapOp}
use Rattle.qtc_ops.specs.declared.operations.MapOp.TheVariants as mapped
use Rattle.qtc_ops.specs.declared.predicates.Pred.{Pred}
use Rattle.qtc_ops.specs.declared.predicates.Pred.TheVariants as kept
use Rattle.qtc_ops.specs.declared.fold_ops.FoldOp.{FoldOp}
use Rattle.qtc_ops.specs.declared.fold_ops.FoldOp.TheVariants as folded
use Rattle.qtc_ops.specs.declared.list_ops.ListOp.TheVariants as listed
use Rattle.qtc_job_file.specs.declared.jobs.Input.{Input}
use Rattle.qtc_job_file.specs.declared.jobs.Input.TheVariants as input
use Rattle.qtc_job_file.specs.declared.jobs.ChainOp.{ChainOp}
use Rattle.qtc_job_file.specs.declared.jobs.ChainOp.TheVariants as chain
use Rattle.qtc_job_file.specs.declared.jobs.Job.{Job}
use Rattle.qtc_job_file.specs.declared.jobs.JobFile.{JobFile}
use Rattle.qtc_base.specs.Limits.{most_workers, most_jobs, most_line, most_sources, most_chain, most_blocks, most_block, most_text, most_field, most_text, most_items, most_priority, least_priority}
use Rattle.qtc_job_file.specs.Names.{is_name}
use Rattle.qtc_job_file.specs.Canonical.{file_lines, line_text, names_of}

abbrev pub IsWithin : ℕ → ℕ → ℕ → Type 0
IsWithin least most n = (least ≤ n) × (n ≤ most)

-- a literal or a name of a text has a byte at least
pub record IsText (text : List ℕ) : Type 0 where
  pub some : 1 ≤ length text
  pub bytes : All (λ byte. byte < 256) text

pub record AreTexts (texts : List (List ℕ)) : Type 0 where
  pub some : 1 ≤ length texts
  pub few : length texts ≤ most_sources
  pub each : All IsText texts

-- the places of jobs above the one with this place
pub record AreEarlier (place : ℕ) (places : List ℕ) : Type 0 where
  pub some : 1 ≤ length places
  pub few : length places ≤ most_sources
  pub each : All (λ p. p < place) places

abbrev pub IsInput : ℕ → Input → Type 0
IsInput place (input.Lines text) = IsText text
IsInput place (input.Files texts) = AreTexts texts
IsInput place (input.Pieces size text) = IsWithin 1 most_text size × IsText text
IsInput place (input.Job p) = p < place
IsInput place (input.All places) = AreEarlier place places
IsInput place (input.Any places) = AreEarlier place places

abbrev pub IsMap : MapOp → Type 0
IsMap (mapped.Field number) = IsWithin 1 most_field number
IsMap _ = Unit {0}

abbrev pub IsPredicate : Pred → Type 0
IsPredicate (kept.Contains text) = IsText text
IsPredicate (kept.Wildcard text) = IsText text
IsPredicate (kept.Longer bound) = bound ≤ most_text

abbrev pub IsOp : ItemOp → Type 0
IsOp (item.Map op) = IsMap op
IsOp (item.Keep negated pred) = IsPredicate pred

abbrev pub IsFold : FoldOp → Type 0
IsFold (folded.Join separator) = IsText separator
IsFold _ = Unit {0}

abbrev pub IsStep : ChainOp → Type 0
IsStep (chain.Then (listed.First count)) = count ≤ most_items
IsStep (chain.Then _) = Unit {0}
IsStep (chain.OnFailed text) = IsText text
IsStep (chain.OnCanceled text) = IsText text

pub record AreBlocks (blocks : List ℕ) : Type 0 where
  pub some : 1 ≤ length blocks
  pub few : length blocks ≤ most_blocks
  pub each : All (IsWithin 1 most_block) blocks

pub record IsChain (steps : List ChainOp) : Type 0 where
  pub few : length steps ≤ most_chain
  pub each : All IsStep steps

pub record IsPriority (priority : ℤ) : Type 0 where
  pub least : neg_ℤ (pos least_priority) ≤ℤ priority
  pub most : priority ≤ℤ pos most_priority

-- a job at this place of the file, from 0
pub record IsJob (place : ℕ) (job : Job) : Type 0 where
  pub name : IsTrue (is_name job.name)
  pub input : IsInput place job.input
  pub op : IsOp job.op
  pub fold : IfSome job.fold IsFold
  pub ordered : IsTrue job.ordered → IsSome job.fold
  pub blocks : AreBlocks job.blocks
  pub priority : IsPriority job.priority
  pub cancel_after : job.cancel_after ≤ most_items
  pub suspend_after : job.suspend_after ≤ most_items
  pub chain : IsChain job.chain

-- the values keep their ranges, names differ, and no line of the canonical text passes 4,096 bytes
pub record Lawful (file : JobFile) : Type 0 where
  pub workers : IsWithin 1 most_workers file.workers
  pub few : length file.jobs ≤ most_jobs
  pub distinct : AllPairs (λ a b. ¬ (a ≡ b)) (names_of file.jobs)
  pub each : (place : ℕ) (d : Job) → place < length file.jobs → IsJob place (slice_index_or file.jobs place d)
  pub short : All (λ words. length (line_text words) ≤ most_line) (file_lines file)
