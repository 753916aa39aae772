-- In which order the kept texts of a job are folded. (After ReduceKernel of Qt Concurrent; own.)
use Rattle.std.specs.Prelude.{◌≡◌, ◌<◌, ℕ, Bool, true, false, not, ◌&&◌, is_some, List, map, All, Option, None, Some}
use Rattle.std.specs.List.{flat_map}
use Rattle.qtc_base.specs.Ranges.{Tiles}
use Rattle.qtc_job_file.specs.declared.jobs.Job.{Job}
use Rattle.qtc_kernel.specs.Runs.{IsBlock}
use Rattle.qtc_kernel.specs.Workload.{Workload, kept_texts, size_of, texts_in}

-- a fold whose blocks may come in any order
abbrev pub is_unordered : Job → Bool
is_unordered job = is_some job.fold && not job.ordered

-- these are the begins of blocks of the job that tile the items, none of them empty: so sorted they begin with 0, and each
-- block ends where the next begins, or at the end. The texts are those of the blocks as they are listed
pub record AreBlockByBlock (work : Workload) (sizes : List ℕ) (begins : List ℕ) (texts : List (List ℕ)) : Type 0 where
  pub blocks : List (ℕ × ℕ)
  pub begins_are : begins ≡ map (λ block. block.0) blocks
  pub some : All (λ block. block.0 < block.1) blocks
  pub tile : Tiles blocks (size_of work)
  pub sized : All (IsBlock (size_of work) sizes) blocks
  pub texts_are : texts ≡ flat_map (texts_in work) blocks

-- by ascending index, of which nothing is told; or else block by block, whose begins are told in this order
abbrev pub AreInOrder : (unordered : Bool) → Workload → List ℕ → Option (List ℕ) → List (List ℕ) → Type 0
AreInOrder false work sizes order texts = (order ≡ None) × (texts ≡ kept_texts work)
AreInOrder true work sizes None texts = ⊥
AreInOrder true work sizes (Some begins) texts = AreBlockByBlock work sizes begins texts
