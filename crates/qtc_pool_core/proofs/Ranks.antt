-- The ranks of the tasks of a queue.
use Rattle.std.proofs.Common.{◌≡◌, ℕ, ℤ, suc, ◌+◌, ◌-◌, ◌==◌, cond, List, [], ◌∷◌, ◌++◌, length, set, Option, Some, None, refl, ap, sym, ◌∙◌, inl, inr, arith, subst, All, Contains}
use Rattle.std.proofs.lemmas.List.{length-append, length-set}
use Rattle.std.proofs.lemmas.List.Elements.{All-cons, All-weaker}
use Rattle.std.proofs.lemmas.List.Sorted.{All-permutation, Contains-permutation}
use Rattle.std.specs.List.Sorted.{IsPermutation}
use Rattle.std.specs.declared.cmp.Reverse.{Reverse}
use Rattle.qtc_pool_core.specs.declared.task.Task.{Task}
use Rattle.qtc_pool_core.specs.Slots.{HasTask, tasks_in}
use Rattle.qtc_pool_core.specs.Inside.{AreLaid, AreRanked, IsCurrent, rank_of}
use Rattle.qtc_pool_core.proofs.Places.{holders-more, none_hold, place_of-push, tasks-push}
use Rattle.qtc_pool_core.proofs.Taken.{fewer-set, has-set, has-push, has_within, holders-set, place-set}

pub ranked-set : {K : Type 0} (slots : List (Option (Task K))) (ranks : List (ℤ × Reverse ℕ)) (at : ℕ) → AreRanked slots ranks → AreRanked (set slots at None) ranks
ranked-set slots ranks at ranked place task h = ranked place task (has-set slots at place task h)

pub current-set : {K : Type 0} (slots : List (Option (Task K))) (ranks : List (ℤ × Reverse ℕ)) (at : ℕ) → All (IsCurrent slots) ranks → All (IsCurrent (set slots at None)) ranks
current-set {K = K} slots ranks at current =
    All-weaker (IsCurrent slots) (IsCurrent (set slots at None)) (λ rank now. record {
      below = omega (arith, now.below, length-set slots at None);
      priority = λ task h. now.priority task (has-set slots at rank.1.0 task h);
    }) ranks current

-- a task less
pub laid-set : {K : Type 0} (slots : List (Option (Task K))) (places after : ℕ → Option ℕ) (ranks : List (ℤ × Reverse ℕ)) (count at : ℕ) (task : Task K) (slot : Option (Task K)) → AreLaid slots places ranks count → HasTask slots at task → slot ≡ None → ((id : ℕ) → after id ≡ cond (task.id == id) None (places id)) → AreLaid (set slots at slot) after ranks (count - 1)
laid-set {K = K} slots places after ranks count at task slot laid h gone updates =
    let whole : AreLaid (set slots at None) after ranks (count - 1) = record {
      counted = omega (arith, fewer-set slots at task h, laid.counted);
      placed = λ id. updates id ∙ ap (λ o. cond (task.id == id) None o) (laid.placed id) ∙ sym (place-set id 0 slots at task h (laid.once task.id));
      once = λ id. omega (arith, holders-set id slots at task h, laid.once id);
      ranked = ranked-set slots ranks at laid.ranked;
      current = current-set slots ranks at laid.current;
    } in
    let P : Option (Task K) → Type 0 = λ o. AreLaid (set slots at o) after ranks (count - 1) in
    subst P (sym gone) whole

-- ---- a task more
Contains-first : {X : Type 0} (x : X) (xs : List X) → Contains (x ∷ xs) x
Contains-first x xs = (0, omega arith, refl)

Contains-later : {X : Type 0} (y : X) (xs : List X) (x : X) → Contains xs x → Contains (y ∷ xs) x
Contains-later y xs x c = (suc c.0, omega (arith, c.1), c.2)

ranked-push : {K : Type 0} (slots : List (Option (Task K))) (ranks after : List (ℤ × Reverse ℕ)) (task : Task K) → AreRanked slots ranks → IsPermutation (rank_of task (length slots) ∷ ranks) after → AreRanked (slots ++ Some task ∷ []) after
ranked-push {K = K} slots ranks after task ranked same place other h =
    elim (has-push slots task place other h) [
      | inl old ↦ Contains-permutation (rank_of task (length slots) ∷ ranks) after (rank_of other place) same (Contains-later (rank_of task (length slots)) ranks (rank_of other place) (ranked place other old))
      | inr last ↦
          let here = Contains-permutation (rank_of task (length slots) ∷ ranks) after (rank_of task (length slots)) same (Contains-first (rank_of task (length slots)) ranks) in
          let is : rank_of task (length slots) ≡ rank_of other place = (let p = last.0 in let t = last.1 in (cc)) in
          subst (Contains after) is here
    ]

current-push : {K : Type 0} (slots : List (Option (Task K))) (ranks after : List (ℤ × Reverse ℕ)) (task : Task K) → All (IsCurrent slots) ranks → IsPermutation (rank_of task (length slots) ∷ ranks) after → All (IsCurrent (slots ++ Some task ∷ [])) after
current-push {K = K} slots ranks after task current same =
    let longer = length-append slots (Some task ∷ []) in
    let first : IsCurrent (slots ++ Some task ∷ []) (rank_of task (length slots)) = record {
      below = omega (arith, longer);
      priority = λ other h. elim (has-push slots task (length slots) other h) [
        | inl old ↦ absurd (omega (arith, has_within slots (length slots) other old))
        | inr last ↦ ap (λ (t : Task K). t.priority) last.1
      ];
    } in
    let rest = All-weaker (IsCurrent slots) (IsCurrent (slots ++ Some task ∷ [])) (λ rank now. record {
      below = omega (arith, now.below, longer);
      priority = λ other h. elim (has-push slots task rank.1.0 other h) [
        | inl old ↦ now.priority other old
        | inr last ↦ absurd (omega (arith, now.below, last.0))
      ];
    }) ranks current in
    All-permutation (IsCurrent (slots ++ Some task ∷ [])) (rank_of task (length slots) ∷ ranks) after same (All-cons (IsCurrent (slots ++ Some task ∷ [])) (rank_of task (length slots)) ranks first rest)

pub laid-push : {K : Type 0} (slots : List (Option (Task K))) (places later : ℕ → Option ℕ) (ranks after : List (ℤ × Reverse ℕ)) (count place : ℕ) (task : Task K) → AreLaid slots places ranks count → places task.id ≡ None → place ≡ length slots → ((id : ℕ) → later id ≡ cond (task.id == id) (Some place) (places id)) → IsPermutation (rank_of task place ∷ ranks) after → AreLaid (slots ++ Some task ∷ []) later after (count + 1)
laid-push {K = K} slots places later ranks after count place task laid new end updates same =
    let free = sym (laid.placed task.id) ∙ new in
    let P : ℕ → Type 0 = λ n. IsPermutation (rank_of task n ∷ ranks) after in
    let moved = subst P end same in
    record {
      counted = omega (arith, laid.counted, ap length (tasks-push slots task), length-append (tasks_in slots) (task ∷ []));
      placed = λ id. updates id ∙ ap (λ o. cond (task.id == id) o (places id)) (ap Some end) ∙ ap (λ o. cond (task.id == id) (Some (length slots)) o) (laid.placed id) ∙ sym (place_of-push id slots task free);
      once = λ id. holders-more id slots task (laid.once id) (none_hold task.id 0 slots free);
      ranked = ranked-push slots ranks after task laid.ranked moved;
      current = current-push slots ranks after task laid.current moved;
    }
