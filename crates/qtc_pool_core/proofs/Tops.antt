-- What the greatest rank tells of the tasks of a queue.
use Rattle.std.proofs.Common.{◌≡◌, ℕ, ℤ, zero, suc, ◌==◌, ◌<◌, ◌<ℤ◌, ◌≤ℤ◌, Bool, true, false, cond, List, [], ◌∷◌, length, slice_get, Option, Some, ap, sym, inl, inr, ◌⊎◌, arith, subst, All, Contains, get_or, lt-ltb, Less, Equal, Greater}
use lib.Signed.{lt_z}
use Rattle.std.specs.declared.cmp.Ordering.{Ordering}
use Rattle.std.proofs.lemmas.Int.{ints, by_lt_z}
use Rattle.std.proofs.lemmas.Option.{get_or_from_slice_get, slice_get_within}
use Rattle.std.proofs.lemmas.List.Elements.{All-contains, All-from_recursion, All-tail}
use Rattle.std.proofs.lemmas.List.Sorted.{All-permutation, Contains-permutation}
use Rattle.std.specs.BinaryHeap.{IsUpperBound, lt_by_cmp}
use Rattle.std.specs.List.Sorted.{IsPermutation}
use Rattle.std.specs.Ordering.{is_lt, int_cmp, nat_cmp, ordering_then}
use Rattle.std.specs.declared.cmp.Reverse.{Reverse}
use Rattle.qtc_pool_core.specs.declared.task.Task.{Task}
use Rattle.qtc_pool_core.specs.Slots.{HasTask, IsFilled, IsHeadAt, tasks_in}
use Rattle.qtc_pool_core.specs.Inside.{AreLaid, IsCurrent, rank_cmp, rank_of}
use Rattle.qtc_pool_core.proofs.Taken.{none_has}

first_current : {K : Type 0} (slots : List (Option (Task K))) (ranks : List (ℤ × Reverse ℕ)) (rank : ℤ × Reverse ℕ) → All (IsCurrent slots) ranks → slice_get ranks 0 ≡ Some rank → IsCurrent slots rank
first_current {K = K} slots ranks rank current first =
    let at = current 0 rank (slice_get_within ranks 0 rank first) in
    subst (IsCurrent slots) (get_or_from_slice_get ranks 0 rank rank first) at

pub top_within : {K : Type 0} (slots : List (Option (Task K))) (places : ℕ → Option ℕ) (ranks : List (ℤ × Reverse ℕ)) (count : ℕ) (rank : ℤ × Reverse ℕ) → AreLaid slots places ranks count → slice_get ranks 0 ≡ Some rank → rank.1.0 < length slots
top_within slots places ranks count rank laid first = (first_current slots ranks rank laid.current first).below

-- ---- a rank that is not passed
no_less : (a b : ℤ) (m n : ℕ) → is_lt (ordering_then (int_cmp a b) (nat_cmp m n)) ≡ false → b ≤ℤ a
no_less a b m n h =
    by_lt_z a b (λ less. absurd (let e : lt_z a b ≡ true = grind (arith, ints) in let P : Bool → Type 0 = λ t. is_lt (ordering_then (cond t Less (cond (lt_z b a) Greater Equal)) (nat_cmp m n)) ≡ false in let f = subst P e h in (cc))) (λ more. more)

no_less_before : (a b : ℤ) (m n : ℕ) → m < n → is_lt (ordering_then (int_cmp a b) (nat_cmp m n)) ≡ false → b <ℤ a
no_less_before a b m n before h =
    by_lt_z b a (λ less. less) (λ more.
    by_lt_z a b
    (λ less. absurd (let e : lt_z a b ≡ true = grind (arith, ints) in let P : Bool → Type 0 = λ t. is_lt (ordering_then (cond t Less (cond (lt_z b a) Greater Equal)) (nat_cmp m n)) ≡ false in let f = subst P e h in (cc)))
    (λ other.
    absurd (let e : lt_z a b ≡ false = grind (arith, ints) in let f : lt_z b a ≡ false = grind (arith, ints) in let t : nat_cmp m n ≡ Less = ap (λ b. cond b Less (cond (m == n) Equal Greater)) (lt-ltb m n before) in
    let P : Bool → Type 0 = λ t. is_lt (ordering_then (cond t Less (cond (lt_z b a) Greater Equal)) (nat_cmp m n)) ≡ false in
    let Q : Bool → Type 0 = λ t. is_lt (ordering_then (cond t Greater Equal) (nat_cmp m n)) ≡ false in
    let R : Ordering → Type 0 = λ o. is_lt o ≡ false in
    let k = subst R t (subst Q f (subst P e h)) in (cc))))

passed_by : {K : Type 0} (ranks : List (ℤ × Reverse ℕ)) (rank : ℤ × Reverse ℕ) (place : ℕ) (rival : Task K) → IsUpperBound rank_cmp rank ranks → Contains ranks (rank_of rival place) → is_lt (rank_cmp rank (rank_of rival place)) ≡ false
passed_by {K = K} ranks rank place rival bound within =
    let P : ℤ × Reverse ℕ → Type 0 = λ other. lt_by_cmp rank_cmp rank other ≡ false in
    All-contains P ranks (rank_of rival place) (All-from_recursion P ranks bound) within

-- where the greatest rank is that of a task, this is the first of greatest priority
pub top_heads : {K : Type 0} (slots : List (Option (Task K))) (places : ℕ → Option ℕ) (ranks : List (ℤ × Reverse ℕ)) (count : ℕ) (rank : ℤ × Reverse ℕ) → AreLaid slots places ranks count → slice_get ranks 0 ≡ Some rank → IsUpperBound rank_cmp rank ranks → IsFilled slots rank.1.0 → IsHeadAt slots rank.1.0
top_heads {K = K} slots places ranks count rank laid first bound filled =
    let now = (first_current slots ranks rank laid.current first).priority filled.0 filled.1 in
    record {
      task = filled.0;
      here = filled.1;
      before = λ other rival sooner h.
          let P : ℤ → Type 0 = λ p. rival.priority <ℤ p in
          subst P (sym now) (no_less_before rank.0 rival.priority other rank.1.0 sooner (passed_by ranks rank other rival bound (laid.ranked other rival h)));
      after = λ other rival h.
          let P : ℤ → Type 0 = λ p. rival.priority ≤ℤ p in
          subst P (sym now) (no_less rank.0 rival.priority other rank.1.0 (passed_by ranks rank other rival bound (laid.ranked other rival h)));
    }

-- without ranks no task waits
pub none_ranked : {K : Type 0} (slots : List (Option (Task K))) (places : ℕ → Option ℕ) (ranks : List (ℤ × Reverse ℕ)) (count : ℕ) → AreLaid slots places ranks count → ranks ≡ [] → tasks_in slots ≡ []
none_ranked {K = K} slots places ranks count laid none =
    none_has slots (λ place task h.
    let within = laid.ranked place task h in
    let P : List (ℤ × Reverse ℕ) → Type 0 = λ rs. within.0 < length rs in
    absurd (let k = subst P none within.1 in omega arith))

-- ---- the rank of a task that was taken goes
later_or_first : {X : Type 0} (y : X) (xs : List X) (x : X) → Contains (y ∷ xs) x → (y ≡ x) ⊎ Contains xs x
later_or_first {X = X} y xs x c =
    let go : (k : ℕ) → k < length (y ∷ xs) → get_or (y ∷ xs) k x ≡ x → (y ≡ x) ⊎ Contains xs x = elim [
      | zero ↦ λ h e. inl e
      | suc k ↦ λ h e. inr (k, omega (arith, h), e)
    ] in
    go c.0 c.1 c.2

pub laid-drop : {K : Type 0} (slots : List (Option (Task K))) (places : ℕ → Option ℕ) (ranks after : List (ℤ × Reverse ℕ)) (count : ℕ) (rank : ℤ × Reverse ℕ) → AreLaid slots places ranks count → IsPermutation ranks (rank ∷ after) → ((task : Task K) → HasTask slots rank.1.0 task → ⊥) → AreLaid slots places after count
laid-drop {K = K} slots places ranks after count rank laid same gone = record {
  counted = laid.counted;
  placed = laid.placed;
  once = laid.once;
  ranked = λ place task h.
      let within = Contains-permutation ranks (rank ∷ after) (rank_of task place) same (laid.ranked place task h) in
      elim (later_or_first rank after (rank_of task place) within) [
        | inl mine ↦ absurd (let P : ℤ × Reverse ℕ → Type 0 = λ r. HasTask slots r.1.0 task in gone task (subst P (sym mine) h))
        | inr later ↦ later
      ];
  current = All-tail (IsCurrent slots) rank after (All-permutation (IsCurrent slots) ranks (rank ∷ after) same laid.current);
}
