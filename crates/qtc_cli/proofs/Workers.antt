-- The number of workers that a word spells.
use Rattle.std.proofs.Common.{◌≡◌, ℕ, ◌<◌, ◌≤◌, List, true, false, cond, Some, None, refl, ap, ⊎_elim, arith}
use Rattle.std.proofs.lemmas.Bool.{cases_Bool, and_from, and_parts, le-leb, leb-true}
use Rattle.qtc_base.specs.Decimal.{IsNumber, number_of}
use Rattle.qtc_job.proofs.LiteralLemmas.{numeral-decides}
use Rattle.qtc_cli.specs.Forms.{is_workers}

answer-no : (word : List ℕ) → is_workers word ≡ false → None ≡ cond (is_workers word) (Some (number_of word)) None
answer-no word e = rw e refl

pub no-number : (word : List ℕ) → (IsNumber 10 word → ⊥) → None ≡ cond (is_workers word) (Some (number_of word)) None
no-number word not =
    ⊎_elim
    (λ (holds : is_workers word ≡ true). absurd (not ((numeral-decides word).0 (and_parts _ _ holds).0)))
    (λ (away : is_workers word ≡ false). answer-no word away)
    (cases_Bool (is_workers word))

within-parts : (word : List ℕ) → is_workers word ≡ true → (1 ≤ number_of word) × (number_of word ≤ 32)
within-parts word holds =
    let parts = and_parts _ _ (and_parts _ _ holds).1 in
    (leb-true 1 (number_of word) parts.0, leb-true (number_of word) 32 parts.1)

pub no-worker : (word : List ℕ) (n : ℕ) → n ≡ number_of word → n ≡ 0 → None ≡ cond (is_workers word) (Some (number_of word)) None
no-worker word n is zero =
    ⊎_elim
    (λ (holds : is_workers word ≡ true). let some = (within-parts word holds).0 in absurd (omega arith))
    (λ (away : is_workers word ≡ false). answer-no word away)
    (cases_Bool (is_workers word))

pub many-workers : (word : List ℕ) (n : ℕ) → n ≡ number_of word → 32 < n → None ≡ cond (is_workers word) (Some (number_of word)) None
many-workers word n is many =
    ⊎_elim
    (λ (holds : is_workers word ≡ true). let few = (within-parts word holds).1 in absurd (omega arith))
    (λ (away : is_workers word ≡ false). answer-no word away)
    (cases_Bool (is_workers word))

pub some-workers : (word : List ℕ) (n : ℕ) → IsNumber 10 word → n ≡ number_of word → 1 ≤ n → n ≤ 32 → Some n ≡ cond (is_workers word) (Some (number_of word)) None
some-workers word n number is some few =
    let low : 1 ≤ number_of word = omega arith in
    let high : number_of word ≤ 32 = omega arith in
    let holds : is_workers word ≡ true = and_from _ _ ((numeral-decides word).1 number) (and_from _ _ (le-leb 1 (number_of word) low) (le-leb (number_of word) 32 high)) in
    rw holds (ap Some is)
