-- Lines of which none has a code.
use Rattle.std.proofs.Common.{◌≡◌, ℕ, suc, ◌+◌, ◌-◌, ◌<◌, List, [], ◌∷◌, length, None, refl, ap, sym, subst, ◌∙◌, arith}
use Rattle.std.specs.Prelude.{Contains}
use Rattle.qtc_job_file.specs.declared.jobs.JobFile.{JobFile}
use Rattle.qtc_job.specs.Codes.{codes_on}
use Rattle.qtc_job.specs.Grammar.{Reads, codes_at}
use Rattle.qtc_job.specs.Lines.{Line}
use Rattle.qtc_job.specs.Meaning.{file_of}
use Rattle.qtc_job.specs.Search.{first_bad}
use Rattle.qtc_job.proofs.SearchLemmas.{first-none, at, at-suc, codes-at}

-- none of these lines has a code, where those above stand nearest first
abbrev pub AreGood : List Line → List Line → Type 0
AreGood above [] = Unit {0}
AreGood above (line ∷ below) = (codes_on above line below ≡ []) × AreGood (line ∷ above) below

first-good : (above ls : List Line) (n : ℕ) → AreGood above ls → first_bad above n ls ≡ None
first-good above [] n good = refl
first-good above (line ∷ below) n good =
    let none = good.0 in
    let there = first-good (line ∷ above) below (n + 1) good.1 in
    rw none there

pub good-reads : (ls : List Line) (file : JobFile) → AreGood [] ls → file ≡ file_of ls → Reads ls file
good-reads ls file good says = record { good = first-none ls (first-good [] ls 1 good); says = says }

-- ---- a file that is read has no code

none-there : (codes : List ℕ) → ((code : ℕ) → Contains codes code → ⊥) → codes ≡ []
none-there [] none = refl
none-there (c ∷ codes) none = absurd (none c (0, omega arith, refl))

good-from : (above ls : List Line) → ((i code : ℕ) → i < length ls → Contains (at above ls i) code → ⊥) → AreGood above ls
good-from above [] none = tt
good-from above (l ∷ ls) none = (
  none-there (codes_on above l ls) (λ code has. none 0 code (omega arith) has),
  good-from (l ∷ above) ls (λ i code less has. none (suc i) code (omega arith) (subst (λ (codes : List ℕ). Contains codes code) (sym (at-suc above l ls i)) has)),
)

pub reads-good : (ls : List Line) (file : JobFile) → Reads ls file → AreGood [] ls
reads-good ls file reads = good-from [] ls (λ i code less has.
    let place : suc i - 1 ≡ i = omega arith in
    let here : codes_at ls (suc i) ≡ at [] ls i = codes-at ls (suc i) (omega arith) ∙ ap (at [] ls) place in
    reads.good (suc i) code (record { some = omega arith; within = less; holds = subst (λ (codes : List ℕ). Contains codes code) (sym here) has }))
