-- A queue whose slots are all empty.
use Rattle.std.proofs.Common.{◌≡◌, ℕ, zero, suc, ◌+◌, List, [], ◌∷◌, length, Option, None, refl, ap, sym, ◌∙◌, arith, All}
use Rattle.std.proofs.lemmas.List.Elements.{All-head, All-nil, All-tail}
use Rattle.std.specs.List.{position_from}
use Rattle.qtc_pool_core.specs.declared.task.Task.{Task}
use Rattle.qtc_pool_core.specs.Slots.{HasTask, holders, is_of, tasks_in}
use Rattle.qtc_pool_core.specs.Inside.{AreLaid, IsCurrent}

abbrev pub IsEmpty : {K : Type 0} → Option (Task K) → Type 0
IsEmpty slot = slot ≡ None

pub no_tasks : {K : Type 0} (slots : List (Option (Task K))) → All IsEmpty slots → tasks_in slots ≡ []
no_tasks [] all = refl
no_tasks {K = K} (slot ∷ slots) all =
    let first = All-head (IsEmpty {K = K}) slot slots all in
    rw first (no_tasks slots (All-tail (IsEmpty {K = K}) slot slots all))

no_place : {K : Type 0} (id from : ℕ) (slots : List (Option (Task K))) → All IsEmpty slots → position_from (is_of id) from slots ≡ None
no_place id from [] all = refl
no_place {K = K} id from (slot ∷ slots) all =
    let first = All-head (IsEmpty {K = K}) slot slots all in
    rw first (no_place id (from + 1) slots (All-tail (IsEmpty {K = K}) slot slots all))

no_holders : {K : Type 0} (id : ℕ) (slots : List (Option (Task K))) → All IsEmpty slots → holders id slots ≡ 0
no_holders id [] all = refl
no_holders {K = K} id (slot ∷ slots) all =
    let first = All-head (IsEmpty {K = K}) slot slots all in
    rw first (omega (arith, no_holders id slots (All-tail (IsEmpty {K = K}) slot slots all)))

none_here : {K : Type 0} (slots : List (Option (Task K))) (place : ℕ) (task : Task K) → All IsEmpty slots → HasTask slots place task → ⊥
none_here [] place task all h = absurd (cc)
none_here {K = K} (slot ∷ slots) zero task all h =
    let first = All-head (IsEmpty {K = K}) slot slots all in absurd (cc)
none_here {K = K} (slot ∷ slots) (suc place) task all h = none_here slots place task (All-tail (IsEmpty {K = K}) slot slots all) h

pub laid-empty : {K : Type 0} (slots : List (Option (Task K))) (places : ℕ → Option ℕ) → All IsEmpty slots → ((id : ℕ) → places id ≡ None) → AreLaid slots places [] 0
laid-empty {K = K} slots places all none = record {
  counted = sym (ap length (no_tasks slots all));
  placed = λ id. none id ∙ sym (no_place id 0 slots all);
  once = λ id. omega (arith, no_holders id slots all);
  ranked = λ place task h. absurd (none_here slots place task all h);
  current = All-nil (IsCurrent slots);
}
