-- Sums of the items of jobs, and what keeps them within the limits.
use Rattle.std.proofs.Common.{◌≡◌, ℕ, zero, suc, ◌+◌, ◌<◌, ◌≤◌, ◌⊎◌, List, [], ◌∷◌, ◌++◌, length, get_or, take, inl, inr, ap, sym, subst, ◌∙◌, append_assoc, append-nil, ⊎_elim, length-append, arith}
use Rattle.std.specs.Prelude.{All, IsSome}
use Rattle.std.proofs.lemmas.Bool.{cases_lt}
use Rattle.std.proofs.lemmas.Grind.{flat_map-append}
use Rattle.std.proofs.lemmas.List.{get_or_append_left, get_or-append-add}
use Rattle.std.proofs.lemmas.List.Sums.{sum_by-append}
use Rattle.qtc_base.specs.Items.{PassesLimit, total_bytes}
use Rattle.qtc_job_file.specs.declared.jobs.Job.{Job}
use Rattle.qtc_outside.specs.Shelf.{text_under}
use Rattle.qtc_job_file.specs.Lawful.{AreBlocks}
use Rattle.qtc_kernel.specs.Driving.{AreSizes}
use Rattle.qtc_run.specs.Loaded.{HasAll}
use Rattle.qtc_run.specs.Sums.{IsSizeOf}
use Rattle.qtc_run.specs.declared.sizes.Size.{Size}
use Rattle.qtc_run.proofs.ReportLemmas.{take-next}
use Rattle.qtc_run.specs.Sources.{Texts, items_of, items_of_all, names_of, names_of_all}

-- a front of items that pass no limit passes none
pub front-fits : (front rest : List (List ℕ)) → (PassesLimit (front ++ rest) → ⊥) → PassesLimit front → ⊥
front-fits front rest fits passes =
    let number = length-append front rest in
    let bytes = sum_by-append length front rest in
    fits (⊎_elim (λ many. inl (omega arith)) (λ large. inr (omega arith)) passes)

-- nor does what is behind such a front
middle-fits : (front rest : List (List ℕ)) → (PassesLimit (front ++ rest) → ⊥) → PassesLimit rest → ⊥
middle-fits front rest fits passes =
    let number = length-append front rest in
    let bytes = sum_by-append length front rest in
    fits (⊎_elim (λ many. inl (omega arith)) (λ large. inr (omega arith)) passes)

pub one-fits : (front : List (List ℕ)) (item : List ℕ) (rest whole : List (List ℕ)) → whole ≡ front ++ item ∷ rest → (PassesLimit whole → ⊥) → PassesLimit (front ++ item ∷ []) → ⊥
one-fits front item rest whole is fits =
    front-fits (front ++ item ∷ []) rest (λ passes. fits (subst PassesLimit (append_assoc front (item ∷ []) rest ∙ sym is) passes))

-- ---- the jobs one by one

all-left : {X : Type 0} (P : X → Type 0) (xs ys : List X) → All P (xs ++ ys) → All P xs
all-left P xs ys all = λ k d lt.
    let within : k < length (xs ++ ys) = let len = length-append xs ys in omega arith in
    subst P (get_or_append_left xs ys d k lt) (all k d within)

all-right : {X : Type 0} (P : X → Type 0) (xs ys : List X) → All P (xs ++ ys) → All P ys
all-right P xs ys all = λ k d lt.
    let within : length xs + k < length (xs ++ ys) = let len = length-append xs ys in omega arith in
    subst P (get_or-append-add xs ys k d) (all (length xs + k) d within)

-- the texts that one of the jobs names are there
pub named-at : (texts : Texts) (jobs : List Job) (place : ℕ) (job : Job) → HasAll texts (names_of_all jobs) → place < length jobs → job ≡ get_or jobs place job → HasAll texts (names_of job.input)
named-at texts [] place job all lt is = absurd (omega arith)
named-at texts (j ∷ jobs) zero job all lt is =
    let first = all-left (λ name. IsSome (text_under texts name)) (names_of j.input) (names_of_all jobs) all in
    subst (λ (job : Job). HasAll texts (names_of job.input)) (sym is) first
named-at texts (j ∷ jobs) (suc place) job all lt is =
    named-at texts jobs place job (all-right (λ name. IsSome (text_under texts name)) (names_of j.input) (names_of_all jobs) all) (omega arith) is

-- the items of one of the jobs pass no limit where those of all don't
pub fits-at : (texts : Texts) (jobs : List Job) (place : ℕ) (job : Job) → (PassesLimit (items_of_all texts jobs) → ⊥) → place < length jobs → job ≡ get_or jobs place job → PassesLimit (items_of texts job.input) → ⊥
fits-at texts [] place job fits lt is passes = absurd (omega arith)
fits-at texts (j ∷ jobs) zero job fits lt is passes =
    front-fits (items_of texts j.input) (items_of_all texts jobs) fits (subst (λ (job : Job). PassesLimit (items_of texts job.input)) is passes)
fits-at texts (j ∷ jobs) (suc place) job fits lt is passes =
    fits-at texts jobs place job (middle-fits (items_of texts j.input) (items_of_all texts jobs) fits) (omega arith) is passes

-- blocks of lawful sizes are sizes that an engine takes
pub block-sizes : (blocks : List ℕ) → AreBlocks blocks → AreSizes blocks
block-sizes blocks are = record {
  some = are.some;
  least = λ k d within. (are.each k d within).0;
  most = λ k d within. (are.each k d within).1;
}

-- ---- the sums, one job more

more-items : (texts : Texts) (jobs : List Job) (place : ℕ) (job : Job) → place < length jobs → job ≡ get_or jobs place job → items_of_all texts (take (place + 1) jobs) ≡ items_of_all texts (take place jobs) ++ items_of texts job.input
more-items texts jobs place job within is =
    ap (items_of_all texts) (take-next jobs place job within is)
    ∙ (flat_map-append (λ (job : Job). items_of texts job.input) (take place jobs) (job ∷ [])
    ∙ ap (λ rest. items_of_all texts (take place jobs) ++ rest) (append-nil (items_of texts job.input)))

pub counted : (texts : Texts) (jobs : List Job) (place : ℕ) (job : Job) (size : Size) (items bytes : ℕ) → place < length jobs → job ≡ get_or jobs place job → items ≡ length (items_of_all texts (take place jobs)) → bytes ≡ total_bytes (items_of_all texts (take place jobs)) → IsSizeOf (items_of texts job.input) size
    → (items + size.items ≡ length (items_of_all texts (take (place + 1) jobs))) × (bytes + size.bytes ≡ total_bytes (items_of_all texts (take (place + 1) jobs)))
counted texts jobs place job size items bytes within is number total size_is =
    let front : List (List ℕ) = items_of_all texts (take place jobs) in
    let all = more-items texts jobs place job within is in
    let longer = ap length all ∙ length-append front (items_of texts job.input) in
    let larger = ap total_bytes all ∙ sum_by-append length front (items_of texts job.input) in
    let has_number = size_is.number in
    let has_bytes = size_is.bytes in
    (omega (arith, number, longer, has_number), omega (arith, total, larger, has_bytes))

-- no job so far passes a limit
pub first-more : (texts : Texts) (jobs : List Job) (place items bytes : ℕ) → ((earlier : ℕ) → earlier < place → PassesLimit (items_of_all texts (take (earlier + 1) jobs)) → ⊥) → items ≡ length (items_of_all texts (take (place + 1) jobs)) → bytes ≡ total_bytes (items_of_all texts (take (place + 1) jobs))
    → items ≤ 8388608 → bytes ≤ 536870912 → (earlier : ℕ) → earlier < place + 1 → PassesLimit (items_of_all texts (take (earlier + 1) jobs)) → ⊥
first-more texts jobs place items bytes before number total few small earlier lower =
    ⊎_elim
    (λ (less : earlier < place). before earlier less)
    (λ (most : place ≤ earlier).
    let same : place ≡ earlier = omega arith in
    subst (λ earlier. PassesLimit (items_of_all texts (take (earlier + 1) jobs)) → ⊥) same
    (⊎_elim
    (λ (many : 8388608 < length (items_of_all texts (take (place + 1) jobs))). omega (arith, many, number, few))
    (λ (large : 536870912 < total_bytes (items_of_all texts (take (place + 1) jobs))). omega (arith, large, total, small))))
    (cases_lt earlier place)

-- the sums pass a limit where they are those of these items
pub over-limit : (all : List (List ℕ)) (items bytes : ℕ) → items ≡ length all → bytes ≡ total_bytes all → (8388608 < items) ⊎ ((items ≤ 8388608) × (536870912 < bytes)) → PassesLimit all
over-limit all items bytes number total over =
    elim over [
      | inl many ↦ inl (omega (arith, many, number))
      | inr large ↦ inr (omega (arith, large.1, total))
    ]
