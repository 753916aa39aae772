-- Blocks that tile, told by their begins.
use Rattle.std.proofs.Common.{◌≡◌, ℕ, zero, suc, ◌+◌, ◌<◌, ◌≤◌, Bool, cond, eqb, List, [], ◌∷◌, refl, ap, sym, subst, ◌∙◌, arith}
use Rattle.std.specs.Prelude.{All, ◌&&◌, ◌==◌, count_by, map, nat_le, nat_lt}
use Rattle.std.proofs.lemmas.Bool.Decides.{nat_tests}
use Rattle.std.proofs.lemmas.List.Elements.{All-head, All-tail}
use Rattle.std.proofs.lemmas.List.Sums.{sum_by-append}
use Rattle.qtc_base.specs.Ranges.{Tiles, in_range, times_covered}
use Rattle.qtc_kernel.specs.Runs.{times_called}
use Rattle.qtc_kernel.specs.Workload.{size_of}
use Rattle.qtc_run.specs.Laws.{BlocksGoFromBeginToBegin, GoFromBeginToBegin, is_inside}

count-first : {X : Type 0} (test : X → Bool) (x : X) (xs : List X) → count_by test (x ∷ xs) ≡ cond (test x) 1 0 + count_by test xs
count-first test x xs =
    let alone : 0 + cond (test x) 1 0 ≡ cond (test x) 1 0 = omega arith in
    sum_by-append (λ x. cond (test x) 1 0) (x ∷ []) xs ∙ ap (λ n. n + count_by test xs) alone

one-goes-on : (x y m : ℕ) → x < y → cond (nat_le x m && nat_lt m y) 1 0 + cond (eqb x (m + 1)) 1 0 ≡ cond (nat_le x (m + 1) && nat_lt (m + 1) y) 1 0 + cond (eqb y (m + 1)) 1 0
one-goes-on x y m some = grind (arith, nat_tests)

one-begins : (x y m : ℕ) → x < y → cond (eqb x m) 1 0 + cond (nat_lt x m && nat_lt m y) 1 0 ≡ cond (nat_le x m && nat_lt m y) 1 0
one-begins x y m some = grind (arith, nat_tests)

-- how many blocks begin at a number, and how many end at it
abbrev begun : List (ℕ × ℕ) → ℕ → ℕ
begun blocks number = times_called (map (λ block. block.0) blocks) number

abbrev ended : List (ℕ × ℕ) → ℕ → ℕ
ended blocks number = count_by (λ block. block.1 == number) blocks

goes-on : (blocks : List (ℕ × ℕ)) (m : ℕ) → All (λ block. block.0 < block.1) blocks → times_covered blocks m + begun blocks (m + 1) ≡ times_covered blocks (m + 1) + ended blocks (m + 1)
goes-on [] m some = refl
goes-on (block ∷ blocks) m some =
    let here = one-goes-on block.0 block.1 m (All-head (λ block. block.0 < block.1) block blocks some) in
    let there = goes-on blocks m (All-tail (λ block. block.0 < block.1) block blocks some) in
    let a = count-first (in_range m) block blocks in
    let b = count-first (λ begin. eqb begin (m + 1)) block.0 (map (λ block. block.0) blocks) in
    let c = count-first (in_range (m + 1)) block blocks in
    let d = count-first (λ block. eqb block.1 (m + 1)) block blocks in
    omega (arith, here, there, a, b, c, d)

begins : (blocks : List (ℕ × ℕ)) (m : ℕ) → All (λ block. block.0 < block.1) blocks → begun blocks m + count_by (is_inside m) blocks ≡ times_covered blocks m
begins [] m some = refl
begins (block ∷ blocks) m some =
    let here = one-begins block.0 block.1 m (All-head (λ block. block.0 < block.1) block blocks some) in
    let there = begins blocks m (All-tail (λ block. block.0 < block.1) block blocks some) in
    let a = count-first (λ begin. eqb begin m) block.0 (map (λ block. block.0) blocks) in
    let b = count-first (is_inside m) block blocks in
    let c = count-first (in_range m) block blocks in
    omega (arith, here, there, a, b, c)

none-inside : (blocks : List (ℕ × ℕ)) → count_by (is_inside 0) blocks ≡ 0
none-inside [] = refl
none-inside (block ∷ blocks) =
    let there = none-inside blocks in
    let here = count-first (is_inside 0) block blocks in
    let no : ◌≡◌ {A = ℕ} (cond (nat_lt block.0 0 && nat_lt 0 block.1) 1 0) 0 = grind (arith, nat_tests) in
    omega (arith, here, there, no)

ends-at : (n : ℕ) (blocks : List (ℕ × ℕ)) → All (λ block. block.0 < block.1) blocks → Tiles blocks n → (number : ℕ) → 1 ≤ number → number < n → ended blocks number ≡ begun blocks number
ends-at n blocks some tile zero one within = absurd (omega arith)
ends-at n blocks some tile (suc m) one within =
    let next : m + 1 ≡ suc m = omega arith in
    let before = tile.once m (omega arith) in
    let after = tile.once (m + 1) (omega arith) in
    let all = goes-on blocks m some in
    let same : ended blocks (m + 1) ≡ begun blocks (m + 1) = omega (arith, before, after, all) in
    subst (λ number. ended blocks number ≡ begun blocks number) next same

pub go-on : (n : ℕ) (blocks : List (ℕ × ℕ)) → All (λ block. block.0 < block.1) blocks → Tiles blocks n → GoFromBeginToBegin n (map (λ block. block.0) blocks) blocks
go-on n blocks some tile = record {
  each = λ number within. begins blocks number some ∙ tile.once number within;
  first = λ one. let all = begins blocks 0 some in let none = none-inside blocks in let once = tile.once 0 (omega arith) in omega (arith, all, none, once);
  below = λ number past. let all = begins blocks number some in let none = tile.none number past in omega (arith, all, none);
  ends = λ number one within. ends-at n blocks some tile number one within;
}

pub blocks-go-on : BlocksGoFromBeginToBegin
blocks-go-on work sizes begins texts is =
    subst (λ (begins : List ℕ). GoFromBeginToBegin (size_of work) begins is.blocks) (sym is.begins_are) (go-on (size_of work) is.blocks is.some is.tile)
