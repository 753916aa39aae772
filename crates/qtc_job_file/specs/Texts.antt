-- The texts that job files name, under their names. (Own.)
use Rattle.std.specs.Prelude.{◌≡◌, ℕ, ◌≤◌, List, [], ◌∷◌, length, All, IsSome, unwrap_or}
use Rattle.std.specs.List.{AllPairs, flat_map}
use Rattle.qtc_base.specs.Limits.{most_text}
use Rattle.qtc_outside.specs.Shelf.{text_under}
use Rattle.qtc_job_file.specs.declared.jobs.Input.{Input}
use Rattle.qtc_job_file.specs.declared.jobs.Input.TheVariants as input
use Rattle.qtc_job_file.specs.declared.jobs.Job.{Job}

-- texts by their names, each name once
abbrev pub Texts : Type 0
Texts = List (List ℕ × List ℕ)

-- the text under a name
abbrev pub text_of : Texts → List ℕ → List ℕ
text_of texts name = unwrap_or (text_under texts name) []

-- no two texts have one name, and none is longer than a text may be
pub record AreTexts (texts : Texts) : Type 0 where
  pub distinct : AllPairs (λ a b. ¬ (a.0 ≡ b.0)) texts
  pub short : All (λ text. length text.1 ≤ most_text) texts

-- there is a text under each of these names
abbrev pub HasAll : Texts → List (List ℕ) → Type 0
HasAll texts names = All (λ name. IsSome (text_under texts name)) names

-- the names of the texts that an input names
abbrev pub names_of : Input → List (List ℕ)
names_of (input.Lines name) = name ∷ []
names_of (input.Files names) = names
names_of (input.Pieces size name) = name ∷ []
names_of (input.Job place) = []
names_of (input.All places) = []
names_of (input.Any places) = []

-- and those that jobs name, in order
abbrev pub names_of_all : List Job → List (List ℕ)
names_of_all jobs = flat_map (λ (job : Job). names_of job.input) jobs
