-- The laws of the grammar. (Own.)
use Rattle.std.specs.Prelude.{◌≡◌, ◌⊎◌, ℕ, List}
use Rattle.qtc_job_file.specs.declared.jobs.JobFile.{JobFile}
use Rattle.qtc_job.specs.Grammar.{IsLeastBad, Reads}
use Rattle.qtc_job_file.specs.Canonical.{canonical}
use Rattle.qtc_job_file.specs.Lawful.{Lawful}
use Rattle.qtc_job.specs.Lines.{Line, lines_of}

-- a file that the lines are read as, or a bad pair; never both, since lines with a bad pair are read as no file
abbrev pub EachTextIsReadOrRefused : Type 0
EachTextIsReadOrRefused =
    (lines : List Line) → ((file : JobFile) × Reads lines file) ⊎ ((line : ℕ) × (code : ℕ) × IsLeastBad lines line code)

abbrev pub LinesAreReadOnce : Type 0
LinesAreReadOnce = (lines : List Line) (a b : JobFile) → Reads lines a → Reads lines b → a ≡ b

-- each file that a text is read as is lawful
abbrev pub FilesThatAreReadAreLawful : Type 0
FilesThatAreReadAreLawful = (text : List ℕ) (file : JobFile) → Reads (lines_of text) file → Lawful file

-- the canonical text of each lawful file is read as that file
abbrev pub CanonicalTextsAreReadBack : Type 0
CanonicalTextsAreReadBack = (file : JobFile) → Lawful file → Reads (lines_of (canonical file)) file
