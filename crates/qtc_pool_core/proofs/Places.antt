-- Where the tasks of a queue stand, and what a task more or less makes of it.
use Rattle.std.proofs.Common.{◌≡◌, ℕ, zero, suc, ◌+◌, ◌<◌, ◌≤◌, ◌==◌, ◌||◌, Bool, true, false, cond, List, [], ◌∷◌, ◌++◌, length, Option, Some, None, is_some, refl, ap, sym, ◌∙◌, arith, eqb-true, eq-eqb}
use Rattle.std.proofs.lemmas.List.Elements.{filter_map-append}
use Rattle.std.specs.List.{list_any, position_from}
use Rattle.qtc_pool_core.specs.declared.task.Task.{Task}
use Rattle.qtc_pool_core.specs.Core.{tickets}
use Rattle.qtc_pool_core.specs.Slots.{HasTask, holders, is_of, place_of, tasks_in}

-- an id has a place exactly where it waits
pub known_by_place : {K : Type 0} (id from : ℕ) (slots : List (Option (Task K))) → is_some (position_from (is_of id) from slots) ≡ list_any (λ ticket. ticket.id == id) (tickets (tasks_in slots))
known_by_place id from [] = refl
known_by_place id from (None ∷ slots) = known_by_place id (from + 1) slots
known_by_place {K = K} id from (Some task ∷ slots) =
    elim (task.id == id) as (λ b. is_some (cond b (Some from) (position_from (is_of id) (from + 1) slots)) ≡ (b || list_any (λ ticket. ticket.id == id) (tickets (tasks_in slots)))) [
      | true ↦ refl
      | false ↦ known_by_place id (from + 1) slots
    ]

-- what is known of the place of an id
pub record FoundAt {K : Type 0} (id from place : ℕ) (slots : List (Option (Task K))) : Type 0 where
  pub at : ℕ
  pub is : place ≡ from + at
  pub task : Task K
  pub here : HasTask slots at task
  pub named : task.id ≡ id

found-next : {K : Type 0} (id from place : ℕ) (slot : Option (Task K)) (slots : List (Option (Task K))) → FoundAt id (from + 1) place slots → FoundAt id from place (slot ∷ slots)
found-next id from place slot slots f = record { at = suc f.at; is = omega (arith, f.is); task = f.task; here = f.here; named = f.named }

pub found : {K : Type 0} (id from place : ℕ) (slots : List (Option (Task K))) → position_from (is_of id) from slots ≡ Some place → FoundAt id from place slots
found id from place [] h = absurd (cc)
found id from place (None ∷ slots) h = found-next id from place None slots (found id (from + 1) place slots h)
found {K = K} id from place (Some task ∷ slots) h =
    let P : Bool → Type 0 = λ b. (task.id == id) ≡ b → cond b (Some from) (position_from (is_of id) (from + 1) slots) ≡ Some place → FoundAt id from place (Some task ∷ slots) in
    let go : (b : Bool) → P b = elim [
      | true ↦ λ named e. record { at = 0; is = omega (arith, (let q : from ≡ place = (cc) in q)); task = task; here = refl; named = eqb-true task.id id named }
      | false ↦ λ other e. found-next id from place (Some task) slots (found id (from + 1) place slots e)
    ] in
    go (task.id == id) refl h

-- ---- one task more
pub place-push : {K : Type 0} (id from : ℕ) (slots : List (Option (Task K))) (task : Task K) → position_from (is_of id) from slots ≡ None → position_from (is_of id) from (slots ++ Some task ∷ []) ≡ cond (task.id == id) (Some (from + length slots)) None
place-push id from [] task h = ap (λ n. cond (task.id == id) (Some n) None) (omega arith)
place-push id from (None ∷ slots) task h = place-push id (from + 1) slots task h ∙ ap (λ n. cond (task.id == id) (Some n) None) (omega arith)
place-push {K = K} id from (Some other ∷ slots) task h =
    let Q : Type 0 = position_from (is_of id) (from + 1) slots ≡ None in
    let go : (b : Bool) → cond b (Some from) (position_from (is_of id) (from + 1) slots) ≡ None → cond b (Some from) (position_from (is_of id) (from + 1) (slots ++ Some task ∷ [])) ≡ cond (task.id == id) (Some (from + length (Some other ∷ slots))) None = elim [
      | true ↦ λ e. absurd (cc)
      | false ↦ λ e. place-push id (from + 1) slots task e ∙ ap (λ n. cond (task.id == id) (Some n) None) (omega arith)
    ] in
    go (other.id == id) h

pub place-push_other : {K : Type 0} (id from place : ℕ) (slots : List (Option (Task K))) (task : Task K) → position_from (is_of id) from slots ≡ Some place → position_from (is_of id) from (slots ++ Some task ∷ []) ≡ Some place
place-push_other id from place [] task h = absurd (cc)
place-push_other id from place (None ∷ slots) task h = place-push_other id (from + 1) place slots task h
place-push_other {K = K} id from place (Some other ∷ slots) task h =
    let go : (b : Bool) → cond b (Some from) (position_from (is_of id) (from + 1) slots) ≡ Some place → cond b (Some from) (position_from (is_of id) (from + 1) (slots ++ Some task ∷ [])) ≡ Some place = elim [
      | true ↦ λ e. e
      | false ↦ λ e. place-push_other id (from + 1) place slots task e
    ] in
    go (other.id == id) h

-- where the new id does not wait, its place is the end, and each other keeps its own
pub place_of-push : {K : Type 0} (id : ℕ) (slots : List (Option (Task K))) (task : Task K) → place_of task.id slots ≡ None → place_of id (slots ++ Some task ∷ []) ≡ cond (task.id == id) (Some (length slots)) (place_of id slots)
place_of-push {K = K} id slots task new =
    let go : (o : Option ℕ) → place_of id slots ≡ o → place_of id (slots ++ Some task ∷ []) ≡ cond (task.id == id) (Some (length slots)) o = elim [
      | None ↦ λ e. place-push id 0 slots task e ∙ ap (λ n. cond (task.id == id) (Some n) None) (omega arith)
      | Some place ↦ λ e.
          let differs : (task.id == id) ≡ false = elim (task.id == id) as (λ b. (task.id == id) ≡ b → b ≡ false) [
            | true ↦ λ same. absurd (let q : task.id ≡ id = eqb-true task.id id same in let r : place_of id slots ≡ None = rw (← q) new in (let s : None ≡ Some place = sym r ∙ e in (cc)))
            | false ↦ λ other. refl
          ] refl in
          place-push_other id 0 place slots task e ∙ ap (λ b. cond b (Some (length slots)) (Some place)) (sym differs)
    ] in
    go (place_of id slots) refl

pub holders-push : {K : Type 0} (id : ℕ) (slots : List (Option (Task K))) (task : Task K) → holders id (slots ++ Some task ∷ []) ≡ holders id slots + cond (task.id == id) 1 0
holders-push id [] task = omega arith
holders-push id (slot ∷ slots) task = omega (arith, holders-push id slots task)

-- an id without a place has no holder
pub none_hold : {K : Type 0} (id from : ℕ) (slots : List (Option (Task K))) → position_from (is_of id) from slots ≡ None → holders id slots ≡ 0
none_hold id from [] h = refl
none_hold id from (None ∷ slots) h = omega (arith, none_hold id (from + 1) slots h)
none_hold {K = K} id from (Some other ∷ slots) h =
    let go : (b : Bool) → cond b (Some from) (position_from (is_of id) (from + 1) slots) ≡ None → cond b 1 0 + holders id slots ≡ 0 = elim [
      | true ↦ λ e. absurd (cc)
      | false ↦ λ e. omega (arith, none_hold id (from + 1) slots e)
    ] in
    go (other.id == id) h

-- ---- one task less
pub no_holder : {K : Type 0} (id from : ℕ) (slots : List (Option (Task K))) → holders id slots ≡ 0 → position_from (is_of id) from slots ≡ None
no_holder id from [] h = refl
no_holder id from (None ∷ slots) h = no_holder id (from + 1) slots (omega arith)
no_holder {K = K} id from (Some other ∷ slots) h =
    let go : (b : Bool) → cond b 1 0 + holders id slots ≡ 0 → cond b (Some from) (position_from (is_of id) (from + 1) slots) ≡ None = elim [
      | true ↦ λ e. absurd (omega arith)
      | false ↦ λ e. no_holder id (from + 1) slots (omega arith)
    ] in
    go (other.id == id) h

-- a slot with a task holds its id
pub holds : {K : Type 0} (slots : List (Option (Task K))) (at : ℕ) (task : Task K) → HasTask slots at task → 0 < holders task.id slots
holds [] at task h = absurd (cc)
holds (slot ∷ slots) zero task h =
    let s : slot ≡ Some task = (cc) in
    rw s (let e : (task.id == task.id) ≡ true = eq-eqb task.id task.id refl in rw e (omega arith))
holds (slot ∷ slots) (suc at) task h = let rest = holds slots at task h in omega (arith, rest)

pub tasks-push : {K : Type 0} (slots : List (Option (Task K))) (task : Task K) → tasks_in (slots ++ Some task ∷ []) ≡ tasks_in slots ++ task ∷ []
tasks-push slots task = filter_map-append (λ slot. slot) slots (Some task ∷ [])

pub holders-more : {K : Type 0} (id : ℕ) (slots : List (Option (Task K))) (task : Task K) → holders id slots ≤ 1 → holders task.id slots ≡ 0 → holders id (slots ++ Some task ∷ []) ≤ 1
holders-more {K = K} id slots task once none =
    let go : (b : Bool) → (task.id == id) ≡ b → holders id slots + cond b 1 0 ≤ 1 = elim [
      | true ↦ λ same. (let q : task.id ≡ id = eqb-true task.id id same in let z : holders id slots ≡ 0 = rw (← q) none in omega arith)
      | false ↦ λ other. omega arith
    ] in
    let h = go (task.id == id) refl in
    omega (arith, h, holders-push id slots task)

-- what is not among the tasks has no place
pub no_place : {K : Type 0} (id : ℕ) (slots : List (Option (Task K))) → list_any (λ ticket. ticket.id == id) (tickets (tasks_in slots)) ≡ false → place_of id slots ≡ None
no_place {K = K} id slots h =
    let none = known_by_place id 0 slots ∙ h in
    let go : (o : Option ℕ) → is_some o ≡ false → o ≡ None = elim [ None ↦ λ e. refl | Some place ↦ λ e. absurd (cc) ] in
    go (place_of id slots) none
