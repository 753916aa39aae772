-- What holds of a pool after any run of entries.
use Rattle.std.proofs.Common.{◌≡◌, ℕ, ℤ, ◌+◌, ◌-◌, ◌<◌, ◌≤◌, ◌==◌, ◌&&◌, ◌||◌, Bool, true, false, cond, not, nat_lt, nat_le, append_assoc, append-nil, List, [], ◌∷◌, ◌++◌, map, length, Option, Some, None, refl, ap, sym, ◌∙◌, arith, subst, leb-true, length-append, eq-eqb}
use Rattle.std.specs.List.{filter, find, list_any}
use Rattle.std.specs.Option.{option_and_then, option_map_or}
use Rattle.std.proofs.lemmas.Bool.{and_parts, not-true, or_parts, or_right, eqb-true}
use Rattle.std.proofs.lemmas.List.{map-append}
use Rattle.std.proofs.lemmas.Option.{cond_some, same_Some}
use Rattle.qtc_pool_core.specs.declared.entries.PoolEntry.{PoolEntry}
use Rattle.qtc_pool_core.specs.declared.entries.PoolEntry.TheVariants.{Started, Tried, Took, TookBack, Done, Reserved, Released, MaxSet}
use Rattle.qtc_pool_core.specs.Machine.{Pool, Ticket, empty, head_of, is_greatest, is_head, is_known, is_queued, is_running, may_run, only_if, step, with_queued, with_running, without_queued, without_running}
use Rattle.qtc_base.specs.Limits.{most_reserved, most_threads}
use Rattle.qtc_pool_core.specs.Runs.{run_of}
use Rattle.qtc_pool_core.specs.Laws.{AreAccounted, IsLawful, RunsAreLawful, TasksAreAccounted, TasksRunOnce, entries_of, is_end, is_run, is_start, is_taking, times, waiting}
use Rattle.qtc_pool_core.proofs.Replay.{few_run, no_more_run}

ids : List Ticket → List ℕ
ids queue = map (λ ticket. ticket.id) queue

-- ---- how often an id stands
times-append : (id : ℕ) (xs ys : List ℕ) → times id (xs ++ ys) ≡ times id xs + times id ys
times-append id [] ys = omega arith
times-append id (x ∷ xs) ys = omega (arith, times-append id xs ys)

none_times : (id : ℕ) (xs : List ℕ) → list_any (λ other. other == id) xs ≡ false → times id xs ≡ 0
none_times id [] h = refl
none_times id (x ∷ xs) h =
    let go : (b : Bool) → (b || list_any (λ other. other == id) xs) ≡ false → cond b 1 0 + times id xs ≡ 0 = elim [
      | true ↦ λ e. absurd (cc)
      | false ↦ λ e. omega (arith, none_times id xs e)
    ] in
    go (x == id) h

some_times : (id : ℕ) (xs : List ℕ) → list_any (λ other. other == id) xs ≡ true → 0 < times id xs
some_times id [] h = absurd (cc)
some_times id (x ∷ xs) h =
    let go : (b : Bool) → (b || list_any (λ other. other == id) xs) ≡ true → 0 < cond b 1 0 + times id xs = elim [
      | true ↦ λ e. omega arith
      | false ↦ λ e. omega (arith, some_times id xs e)
    ] in
    go (x == id) h

any_ids : (id : ℕ) (queue : List Ticket) → list_any (λ ticket. ticket.id == id) queue ≡ list_any (λ other. other == id) (map (λ ticket. ticket.id) queue)
any_ids id [] = refl
any_ids id (t ∷ queue) = ap (λ b. (t.id == id) || b) (any_ids id queue)

-- what a filter leaves of an id
left_times : (id gone : ℕ) (xs : List ℕ) → times id (filter (λ other. not (other == gone)) xs) + cond (gone == id) (times id xs) 0 ≡ times id xs
left_times id gone [] = elim (gone == id) as (λ b. 0 + cond b 0 0 ≡ 0) [ true ↦ omega arith | false ↦ omega arith ]
left_times id gone (x ∷ xs) =
    let rest = left_times id gone xs in
    let go : (b d : Bool) → (x == gone) ≡ b → (gone == id) ≡ d → times id xs ≡ times id (filter (λ other. not (other == gone)) xs) + cond d (times id xs) 0 → times id (cond (not b) (x ∷ filter (λ other. not (other == gone)) xs) (filter (λ other. not (other == gone)) xs)) + cond d (cond (x == id) 1 0 + times id xs) 0 ≡ cond (x == id) 1 0 + times id xs = elim [
      | true ↦ elim [
        | true ↦ λ e f r. omega (arith, r)
        | false ↦ λ e f r. (let same : x ≡ gone = eqb-true x gone e in let other : (x == id) ≡ false = rw same f in let P : Bool → Type 0 = λ c. times id (filter (λ o. not (o == gone)) xs) + 0 ≡ cond c 1 0 + times id xs in subst P (sym other) (omega (arith, r)))
      ]
      | false ↦ elim [
        | true ↦ λ e f r. (let same : gone ≡ id = eqb-true gone id f in let other : (x == id) ≡ false = rw (← same) e in let P : Bool → Type 0 = λ c. (cond c 1 0 + times id (filter (λ o. not (o == gone)) xs)) + (cond c 1 0 + times id xs) ≡ cond c 1 0 + times id xs in subst P (sym other) (omega (arith, r)))
        | false ↦ λ e f r. omega (arith, r)
      ]
    ] in
    go (x == gone) (gone == id) refl refl (sym rest)

ids-filter : (gone : ℕ) (queue : List Ticket) → map (λ ticket. ticket.id) (filter (λ ticket. not (ticket.id == gone)) queue) ≡ filter (λ other. not (other == gone)) (map (λ ticket. ticket.id) queue)
ids-filter gone [] = refl
ids-filter gone (t ∷ queue) =
    let rest = ids-filter gone queue in
    elim (t.id == gone) as (λ b. map (λ ticket. ticket.id) (cond (not b) (t ∷ filter (λ ticket. not (ticket.id == gone)) queue) (filter (λ ticket. not (ticket.id == gone)) queue)) ≡ cond (not b) (t.id ∷ filter (λ other. not (other == gone)) (map (λ ticket. ticket.id) queue)) (filter (λ other. not (other == gone)) (map (λ ticket. ticket.id) queue))) [
      | true ↦ rest
      | false ↦ ap (λ xs. t.id ∷ xs) rest
    ]

-- ---- the head waits
found_waits : (p : Ticket → Bool) (queue : List Ticket) (head : Ticket) → find p queue ≡ Some head → list_any (λ ticket. ticket.id == head.id) queue ≡ true
found_waits p [] head h = absurd (cc)
found_waits p (first ∷ queue) head h =
    let go : (b : Bool) → cond b (Some first) (find p queue) ≡ Some head → ((first.id == head.id) || list_any (λ ticket. ticket.id == head.id) queue) ≡ true = elim [
      | true ↦ λ e. (let is : first ≡ head = (cc) in let mine : (first.id == head.id) ≡ true = eq-eqb first.id head.id (ap (λ (t : Ticket). t.id) is) in rw mine refl)
      | false ↦ λ e. or_right (first.id == head.id) (list_any (λ ticket. ticket.id == head.id) queue) (found_waits p queue head e)
    ] in
    go (p first) h

head_waits : (id : ℕ) (pool : Pool) → is_head id pool ≡ true → is_queued id pool ≡ true
head_waits id pool h =
    let go : (o : Option Ticket) → head_of pool.queue ≡ o → option_map_or (λ (head : Ticket). head.id == id) o false ≡ true → is_queued id pool ≡ true = elim [
      | None ↦ λ e m. absurd (cc)
      | Some head ↦ λ e m. (let same : head.id ≡ id = eqb-true head.id id m in let P : ℕ → Type 0 = λ n. list_any (λ ticket. ticket.id == n) pool.queue ≡ true in subst P same (found_waits (is_greatest pool.queue) pool.queue head e))
    ] in
    go (head_of pool.queue) refl h

waits_times : (id : ℕ) (pool : Pool) → is_queued id pool ≡ true → 0 < times id (waiting pool)
waits_times id pool h = some_times id (waiting pool) (sym (any_ids id pool.queue) ∙ h)

-- ---- an entry that stands
pub stands : (may : Bool) (pool new : Pool) → only_if may pool ≡ Some new → (may ≡ true) × (pool ≡ new)
stands may pool new h = cond_some may pool new h

-- ---- what each change of a pool makes of an id
times-last : (id other : ℕ) (xs : List ℕ) → times id (xs ++ other ∷ []) ≡ times id xs + cond (other == id) 1 0
times-last id other xs = omega (arith, times-append id xs (other ∷ []))

times-queued : (id i : ℕ) (priority : ℤ) (pool : Pool) → times id (waiting (with_queued pool i priority)) ≡ times id (waiting pool) + cond (i == id) 1 0
times-queued id i priority pool = ap (times id) (map-append (λ (ticket : Ticket). ticket.id) pool.queue (record { id = i; priority = priority } ∷ [])) ∙ times-last id i (waiting pool)

times-unqueued : (id i : ℕ) (pool : Pool) → times id (waiting (without_queued pool i)) + cond (i == id) (times id (waiting pool)) 0 ≡ times id (waiting pool)
times-unqueued id i pool = ap (λ xs. times id xs + cond (i == id) (times id (waiting pool)) 0) (ids-filter i pool.queue) ∙ left_times id i (waiting pool)

unknown : (i : ℕ) (pool : Pool) → not (is_known i pool) ≡ true → (times i (waiting pool) ≡ 0) × (times i pool.running ≡ 0)
unknown i pool h =
    let parts = or_parts (is_queued i pool) (is_running i pool) (not-true (is_known i pool) h) in
    (none_times i (waiting pool) (sym (any_ids i pool.queue) ∙ parts.0), none_times i pool.running parts.1)

-- how an entry moves an id: from the queue to what runs, and on
record Flow (old new : Pool) (entry : PoolEntry) (id : ℕ) : Type 0 where
  once : times id (waiting new) + times id new.running ≤ 1
  starts : cond (is_start id entry) 1 0 + times id (waiting old) ≡ cond (is_taking id entry) 1 0 + times id (waiting new)
  runs : cond (is_run id entry) 1 0 + times id old.running ≡ cond (is_end id entry) 1 0 + times id new.running

flow : (old new : Pool) (entry : PoolEntry) (id : ℕ) → IsLawful old → step old entry ≡ Some new → Flow old new entry id
flow old new (Started i priority) id lawful h =
    let s = stands (not (is_known i old)) (with_queued old i priority) new h in
    let free = unknown i old s.0 in
    let queued = times-queued id i priority old in
    let P : Pool → Type 0 = λ p. Flow old p (Started i priority) id in
    let go : (b : Bool) → (i == id) ≡ b → times id (waiting (with_queued old i priority)) ≡ times id (waiting old) + cond b 1 0 → (times id (waiting (with_queued old i priority)) + times id old.running ≤ 1) × (cond b 1 0 + times id (waiting old) ≡ times id (waiting (with_queued old i priority))) = elim [
      | true ↦ λ e q. (let same : i ≡ id = eqb-true i id e in let w : times id (waiting old) ≡ 0 = rw (← same) free.0 in let r : times id old.running ≡ 0 = rw (← same) free.1 in (omega (arith, w, r, q), omega (arith, q)))
      | false ↦ λ e q. (omega (arith, q, lawful.once id), omega (arith, q))
    ] in
    let f = go (i == id) refl queued in
    subst P s.1 (record { once = f.0; starts = omega (arith, f.1); runs = refl })
flow old new (Tried i) id lawful h =
    let s = stands (not (is_known i old) && may_run old) (with_running old i) new h in
    let free = unknown i old (and_parts (not (is_known i old)) (may_run old) s.0).0 in
    let runs = times-last id i old.running in
    let P : Pool → Type 0 = λ p. Flow old p (Tried i) id in
    let go : (b : Bool) → (i == id) ≡ b → times id (old.running ++ i ∷ []) ≡ times id old.running + cond b 1 0 → (times id (waiting old) + times id (old.running ++ i ∷ []) ≤ 1) × (cond b 1 0 + times id old.running ≡ times id (old.running ++ i ∷ [])) = elim [
      | true ↦ λ e q. (let same : i ≡ id = eqb-true i id e in let w : times id (waiting old) ≡ 0 = rw (← same) free.0 in let r : times id old.running ≡ 0 = rw (← same) free.1 in (omega (arith, w, r, q), omega (arith, q)))
      | false ↦ λ e q. (omega (arith, q, lawful.once id), omega (arith, q))
    ] in
    let f = go (i == id) refl runs in
    subst P s.1 (record { once = f.0; starts = refl; runs = omega (arith, f.1) })
flow old new (Took i) id lawful h =
    let s = stands (is_head i old && may_run old) (with_running (without_queued old i) i) new h in
    let some = waits_times i old (head_waits i old (and_parts (is_head i old) (may_run old) s.0).0) in
    let left = times-unqueued id i old in
    let runs = times-last id i old.running in
    let P : Pool → Type 0 = λ p. Flow old p (Took i) id in
    let go : (b : Bool) → (i == id) ≡ b → times id (waiting (without_queued old i)) + cond b (times id (waiting old)) 0 ≡ times id (waiting old) → times id (old.running ++ i ∷ []) ≡ times id old.running + cond b 1 0
    → (times id (waiting (without_queued old i)) + times id (old.running ++ i ∷ []) ≤ 1) × (times id (waiting old) ≡ cond b 1 0 + times id (waiting (without_queued old i))) × (cond b 1 0 + times id old.running ≡ times id (old.running ++ i ∷ [])) = elim [
      | true ↦ λ e l q. (let same : i ≡ id = eqb-true i id e in let w : 0 < times id (waiting old) = rw (← same) some in (omega (arith, w, l, q, lawful.once id), omega (arith, w, l, lawful.once id), omega (arith, q)))
      | false ↦ λ e l q. (omega (arith, l, q, lawful.once id), omega (arith, l), omega (arith, q))
    ] in
    let f = go (i == id) refl left runs in
    subst P s.1 (record { once = f.0; starts = omega (arith, f.1); runs = omega (arith, f.2) })
flow old new (TookBack i) id lawful h =
    let s = stands (is_queued i old) (without_queued old i) new h in
    let some = waits_times i old s.0 in
    let left = times-unqueued id i old in
    let P : Pool → Type 0 = λ p. Flow old p (TookBack i) id in
    let go : (b : Bool) → (i == id) ≡ b → times id (waiting (without_queued old i)) + cond b (times id (waiting old)) 0 ≡ times id (waiting old)
    → (times id (waiting (without_queued old i)) + times id old.running ≤ 1) × (times id (waiting old) ≡ cond b 1 0 + times id (waiting (without_queued old i))) = elim [
      | true ↦ λ e l. (let same : i ≡ id = eqb-true i id e in let w : 0 < times id (waiting old) = rw (← same) some in (omega (arith, w, l, lawful.once id), omega (arith, w, l, lawful.once id)))
      | false ↦ λ e l. (omega (arith, l, lawful.once id), omega (arith, l))
    ] in
    let f = go (i == id) refl left in
    subst P s.1 (record { once = f.0; starts = omega (arith, f.1); runs = refl })
flow old new (Done i) id lawful h =
    let s = stands (is_running i old) (without_running old i) new h in
    let some = some_times i old.running s.0 in
    let left = left_times id i old.running in
    let P : Pool → Type 0 = λ p. Flow old p (Done i) id in
    let go : (b : Bool) → (i == id) ≡ b → times id (filter (λ other. not (other == i)) old.running) + cond b (times id old.running) 0 ≡ times id old.running
    → (times id (waiting old) + times id (filter (λ other. not (other == i)) old.running) ≤ 1) × (times id old.running ≡ cond b 1 0 + times id (filter (λ other. not (other == i)) old.running)) = elim [
      | true ↦ λ e l. (let same : i ≡ id = eqb-true i id e in let w : 0 < times id old.running = rw (← same) some in (omega (arith, w, l, lawful.once id), omega (arith, w, l, lawful.once id)))
      | false ↦ λ e l. (omega (arith, l, lawful.once id), omega (arith, l))
    ] in
    let f = go (i == id) refl left in
    subst P s.1 (record { once = f.0; starts = refl; runs = omega (arith, f.1) })
flow old new Reserved id lawful h =
    let s = stands (nat_lt old.reserved most_reserved) (record old { reserved = old.reserved + 1 }) new h in
    let P : Pool → Type 0 = λ p. Flow old p Reserved id in
    subst P s.1 (record { once = lawful.once id; starts = refl; runs = refl })
flow old new Released id lawful h =
    let s = stands (nat_lt 0 old.reserved) (record old { reserved = old.reserved - 1 }) new h in
    let P : Pool → Type 0 = λ p. Flow old p Released id in
    subst P s.1 (record { once = lawful.once id; starts = refl; runs = refl })
flow old new (MaxSet most) id lawful h =
    let s = stands (nat_lt 0 most && nat_le most most_threads) (record old { max = most }) new h in
    let P : Pool → Type 0 = λ p. Flow old p (MaxSet most) id in
    subst P s.1 (record { once = lawful.once id; starts = refl; runs = refl })

-- ---- how many run
record Few (pool : Pool) : Type 0 where
  few : length pool.running ≤ most_threads
  small : pool.max ≤ most_threads

few : (old new : Pool) (entry : PoolEntry) → Few old → step old entry ≡ Some new → Few new
few old new (Started i priority) f h = (let s = stands (not (is_known i old)) (with_queued old i priority) new h in subst Few s.1 (record { few = f.few; small = f.small }))
few old new (Tried i) f h =
    let s = stands (not (is_known i old) && may_run old) (with_running old i) new h in
    let may = (and_parts (not (is_known i old)) (may_run old) s.0).1 in
    subst Few s.1 (record { few = omega (arith, few_run old.queue old.running old.reserved old.max f.small may, length-append old.running (i ∷ [])); small = f.small })
few old new (Took i) f h =
    let s = stands (is_head i old && may_run old) (with_running (without_queued old i) i) new h in
    let may = (and_parts (is_head i old) (may_run old) s.0).1 in
    subst Few s.1 (record { few = omega (arith, few_run old.queue old.running old.reserved old.max f.small may, length-append old.running (i ∷ [])); small = f.small })
few old new (TookBack i) f h = (let s = stands (is_queued i old) (without_queued old i) new h in subst Few s.1 (record { few = f.few; small = f.small }))
few old new (Done i) f h =
    let s = stands (is_running i old) (without_running old i) new h in
    subst Few s.1 (record { few = omega (arith, f.few, no_more_run i old.running); small = f.small })
few old new Reserved f h = (let s = stands (nat_lt old.reserved most_reserved) (record old { reserved = old.reserved + 1 }) new h in subst Few s.1 (record { few = f.few; small = f.small }))
few old new Released f h = (let s = stands (nat_lt 0 old.reserved) (record old { reserved = old.reserved - 1 }) new h in subst Few s.1 (record { few = f.few; small = f.small }))
few old new (MaxSet most) f h =
    let s = stands (nat_lt 0 most && nat_le most most_threads) (record old { max = most }) new h in
    let small = leb-true most most_threads (and_parts (nat_lt 0 most) (nat_le most most_threads) s.0).1 in
    subst Few s.1 (record { few = f.few; small = small })

-- ---- runs
record Kept (before : List PoolEntry) (pool : Pool) : Type 0 where
  lawful : IsLawful pool
  small : pool.max ≤ most_threads
  accounted : (id : ℕ) → AreAccounted before pool id

entries_of-last : (kind : ℕ → PoolEntry → Bool) (id : ℕ) (entries : List PoolEntry) (entry : PoolEntry) → entries_of kind id (entries ++ entry ∷ []) ≡ entries_of kind id entries + cond (kind id entry) 1 0
entries_of-last kind id [] entry = omega arith
entries_of-last kind id (first ∷ entries) entry = omega (arith, entries_of-last kind id entries entry)

kept_step : (before : List PoolEntry) (old new : Pool) (entry : PoolEntry) → Kept before old → step old entry ≡ Some new → Kept (before ++ entry ∷ []) new
kept_step before old new entry k h =
    let f = few old new entry (record { few = k.lawful.few; small = k.small }) h in record {
      lawful = record { once = λ id. (flow old new entry id k.lawful h).once; few = f.few };
      small = f.small;
      accounted = λ id. (let w = flow old new entry id k.lawful h in let a = k.accounted id in record {
        starts = omega (arith, w.starts, a.starts, entries_of-last is_start id before entry, entries_of-last is_taking id before entry);
        runs = omega (arith, w.runs, a.runs, entries_of-last is_run id before entry, entries_of-last is_end id before entry);
      });
    }

kept_run : (before entries : List PoolEntry) (old new : Pool) → Kept before old → run_of old entries ≡ Some new → Kept (before ++ entries) new
kept_run before [] old new k h =
    let P : Pool → Type 0 = λ p. Kept (before ++ []) p in
    subst P (same_Some old new h) (rw append-nil k)
kept_run before (entry ∷ entries) old new k h =
    let go : (o : Option Pool) → step old entry ≡ o → option_and_then (λ next. run_of next entries) o ≡ Some new → Kept (before ++ entry ∷ entries) new = elim [
      | None ↦ λ e r. absurd (cc)
      | Some next ↦ λ e r.
          let all = kept_run (before ++ entry ∷ []) entries next new (kept_step before old next entry k e) r in
          let P : List PoolEntry → Type 0 = λ es. Kept es new in
          subst P (append_assoc before (entry ∷ []) entries) all
    ] in
    go (step old entry) refl h

kept : (most : ℕ) (entries : List PoolEntry) (pool : Pool) → most ≤ most_threads → run_of (empty most) entries ≡ Some pool → Kept entries pool
kept most entries pool small h =
    let start : Kept [] (empty most) = record {
      lawful = record { once = λ id. omega arith; few = omega arith };
      small = small;
      accounted = λ id. record { starts = refl; runs = refl };
    } in
    kept_run [] entries (empty most) pool start h

pub runs_are_lawful : RunsAreLawful
runs_are_lawful most entries pool small h = (kept most entries pool small h).lawful

pub tasks_are_accounted : TasksAreAccounted
tasks_are_accounted most entries pool id small h = (kept most entries pool small h).accounted id

-- ---- what begins to run
not_running : (id : ℕ) (pool : Pool) → times id pool.running ≡ 0 → is_running id pool ≡ false
not_running id pool none =
    let go : (b : Bool) → is_running id pool ≡ b → b ≡ false = elim [
      | true ↦ λ e. absurd (omega (arith, some_times id pool.running e, none))
      | false ↦ λ e. refl
    ] in
    go (is_running id pool) refl

pub tasks_run_once : TasksRunOnce
tasks_run_once = record {
  took = λ old id new lawful h. (
      let s = stands (is_head id old && may_run old) (with_running (without_queued old id) id) new h in
      let parts = and_parts (is_head id old) (may_run old) s.0 in
      let some = waits_times id old (head_waits id old parts.0) in
      (not_running id old (omega (arith, some, lawful.once id)), parts.1));
  tried = λ old id new h. (
      let s = stands (not (is_known id old) && may_run old) (with_running old id) new h in
      let parts = and_parts (not (is_known id old)) (may_run old) s.0 in
      (not_running id old (unknown id old parts.0).1, parts.1));
}
