-- Runs of entries, and what one entry more makes of a pool.
use Rattle.std.proofs.Common.{◌≡◌, ℕ, ◌+◌, ◌<◌, ◌≤◌, ◌==◌, ◌&&◌, ◌||◌, Bool, true, false, cond, not, List, [], ◌∷◌, ◌++◌, length, Option, Some, None, refl, ap, sym, ◌∙◌, arith, inl, inr, nat_lt, eq-eqb}
use Rattle.std.specs.List.{filter, find, list_any}
use Rattle.std.specs.Option.{option_and_then, option_map, option_map_or}
use Rattle.std.proofs.lemmas.List.{map-append}
use Rattle.std.proofs.lemmas.Bool.{and_from, or_cases, ltb-true, eqb-true}
use Rattle.qtc_pool_core.specs.declared.entries.PoolEntry.{PoolEntry}
use Rattle.qtc_pool_core.specs.declared.entries.PoolEntry.TheVariants.{Started, Tried, Took, TookBack, Done}
use Rattle.qtc_pool_core.specs.declared.task.Task.{Task}
use Rattle.qtc_pool_core.specs.Machine.{Pool, Ticket, empty, head_of, is_head, is_known, is_queued, is_running, may_run, only_if, step, with_running, without_queued, without_running}
use Rattle.qtc_base.specs.Limits.{most_threads}
use Rattle.qtc_pool_core.specs.Runs.{run_of}
use Rattle.qtc_pool_core.specs.Core.{ticket_of, tickets, without, work_of}

pub run-push : (pool : Pool) (entries : List PoolEntry) (entry : PoolEntry) → run_of pool (entries ++ entry ∷ []) ≡ option_and_then (λ next. step next entry) (run_of pool entries)
run-push pool [] entry =
    let go : (o : Option Pool) → option_and_then (λ next. Some next) o ≡ o = elim [ None ↦ refl | Some next ↦ refl ] in
    go (step pool entry)
run-push pool (first ∷ entries) entry =
    let go : (o : Option Pool) → option_and_then (λ next. run_of next (entries ++ entry ∷ [])) o ≡ option_and_then (λ next. step next entry) (option_and_then (λ next. run_of next entries) o) = elim [
      | None ↦ refl
      | Some next ↦ run-push next entries entry
    ] in
    go (step pool first)

-- a step leaves a journal that replays
pub replays-step : (first : ℕ) (old new : Pool) (journal after : List PoolEntry) (entry : PoolEntry) → run_of (empty first) journal ≡ Some old → step old entry ≡ Some new → after ≡ journal ++ entry ∷ [] → run_of (empty first) after ≡ Some new
replays-step first old new journal after entry replays steps is =
    ap (run_of (empty first)) is ∙ run-push (empty first) journal entry ∙ ap (option_and_then (λ next. step next entry)) replays ∙ steps

-- an entry that may stand
pub may_stand : (may : Bool) (pool : Pool) → may ≡ true → only_if may pool ≡ Some pool
may_stand may pool h = ap (λ b. only_if b pool) h

abbrev pub state : List Ticket → List ℕ → (reserved most : ℕ) → Pool
state queue running reserved most = record { queue = queue; running = running; reserved = reserved; max = most }

-- ---- started
pub tickets-queued : {K : Type 0} (queue : List (Task K)) (task : Task K) → tickets (queue ++ task ∷ []) ≡ tickets queue ++ ticket_of task ∷ []
tickets-queued queue task = map-append ticket_of queue (task ∷ [])

pub step-started : {K : Type 0} (queue after : List (Task K)) (running : List ℕ) (reserved most : ℕ) (task : Task K) → is_known task.id (state (tickets queue) running reserved most) ≡ false → after ≡ queue ++ task ∷ [] → step (state (tickets queue) running reserved most) (Started task.id task.priority) ≡ Some (state (tickets after) running reserved most)
step-started {K = K} queue after running reserved most task free is =
    let q : tickets queue ++ ticket_of task ∷ [] ≡ tickets after = sym (tickets-queued queue task) ∙ ap (tickets {K = K}) (sym is) in
    may_stand (not (is_known task.id (state (tickets queue) running reserved most))) (state (tickets queue ++ ticket_of task ∷ []) running reserved most) (ap not free) ∙ ap (λ ts. Some (state ts running reserved most)) q

-- ---- taken
pub tickets-without : {K : Type 0} (id : ℕ) (queue : List (Task K)) → tickets (without id queue) ≡ filter (λ ticket. not (ticket.id == id)) (tickets queue)
tickets-without id [] = refl
tickets-without {K = K} id (task ∷ queue) =
    let rest = tickets-without id queue in
    elim (task.id == id) as (λ b. tickets (cond (not b) (task ∷ without id queue) (without id queue)) ≡ cond (not b) (ticket_of task ∷ filter (λ ticket. not (ticket.id == id)) (tickets queue)) (filter (λ ticket. not (ticket.id == id)) (tickets queue))) [
      | true ↦ rest
      | false ↦ ap (λ ts. ticket_of task ∷ ts) rest
    ]

tickets-left : {K : Type 0} (id : ℕ) (queue after : List (Task K)) → after ≡ without id queue → filter (λ ticket. not (ticket.id == id)) (tickets queue) ≡ tickets after
tickets-left {K = K} id queue after is = sym (tickets-without id queue) ∙ ap (tickets {K = K}) (sym is)

pub step-took : {K : Type 0} (queue after : List (Task K)) (running now : List ℕ) (reserved most : ℕ) (task : Task K) → head_of (tickets queue) ≡ Some (ticket_of task) → may_run (state (tickets queue) running reserved most) ≡ true → after ≡ without task.id queue → now ≡ running ++ task.id ∷ [] → step (state (tickets queue) running reserved most) (Took task.id) ≡ Some (state (tickets after) now reserved most)
step-took {K = K} queue after running now reserved most task head may is runs =
    let old = state (tickets queue) running reserved most in
    let mine : is_head task.id old ≡ true = ap (λ o. option_map_or (λ (h : Ticket). h.id == task.id) o false) head ∙ eq-eqb task.id task.id refl in
    may_stand (is_head task.id old && may_run old) (with_running (without_queued old task.id) task.id) (and_from (is_head task.id old) (may_run old) mine may)
    ∙ ap (λ ts. Some (state ts (running ++ task.id ∷ []) reserved most)) (tickets-left task.id queue after is)
    ∙ ap (λ rs. Some (state (tickets after) rs reserved most)) (sym runs)

pub queued_by_work : {K : Type 0} (id : ℕ) (queue : List (Task K)) (work : K) → work_of id queue ≡ Some work → list_any (λ ticket. ticket.id == id) (tickets queue) ≡ true
queued_by_work id [] work h = absurd (cc)
queued_by_work {K = K} id (task ∷ queue) work h =
    let go : (b : Bool) → option_map (λ (t : Task K). t.work) (cond b (Some task) (find (λ t. t.id == id) queue)) ≡ Some work → (b || list_any (λ ticket. ticket.id == id) (tickets queue)) ≡ true = elim [
      | true ↦ λ e. refl
      | false ↦ λ e. queued_by_work id queue work e
    ] in
    go (task.id == id) h

pub step-took_back : {K : Type 0} (queue after : List (Task K)) (running : List ℕ) (reserved most id : ℕ) (work : K) → work_of id queue ≡ Some work → after ≡ without id queue → step (state (tickets queue) running reserved most) (TookBack id) ≡ Some (state (tickets after) running reserved most)
step-took_back {K = K} queue after running reserved most id work waits is =
    let old = state (tickets queue) running reserved most in
    may_stand (is_queued id old) (without_queued old id) (queued_by_work id queue work waits) ∙ ap (λ ts. Some (state ts running reserved most)) (tickets-left id queue after is)

-- an entry behind a journal for which room was made
pub entered : (journal wider after : List PoolEntry) (entry : PoolEntry) → after ≡ wider ++ entry ∷ [] → wider ≡ journal → after ≡ journal ++ entry ∷ []
entered journal wider after entry is same = is ∙ ap (λ entries. entries ++ entry ∷ []) same

-- ---- done
pub no_more_run : (id : ℕ) (running : List ℕ) → length (filter (λ other. not (other == id)) running) ≤ length running
no_more_run id [] = omega arith
no_more_run id (first ∷ running) =
    elim (first == id) as (λ b. length (cond (not b) (first ∷ filter (λ other. not (other == id)) running) (filter (λ other. not (other == id)) running)) ≤ length (first ∷ running)) [
      | true ↦ omega (arith, no_more_run id running)
      | false ↦ omega (arith, no_more_run id running)
    ]

pub fewer_run : (id : ℕ) (running : List ℕ) → list_any (λ other. other == id) running ≡ true → length (filter (λ other. not (other == id)) running) < length running
fewer_run id [] h = absurd (cc)
fewer_run id (first ∷ running) h =
    let go : (b : Bool) → (b || list_any (λ other. other == id) running) ≡ true → length (cond (not b) (first ∷ filter (λ other. not (other == id)) running) (filter (λ other. not (other == id)) running)) < length (first ∷ running) = elim [
      | true ↦ λ e. omega (arith, no_more_run id running)
      | false ↦ λ e. omega (arith, fewer_run id running e)
    ] in
    go (first == id) h

pub step-done : (queue : List Ticket) (running now : List ℕ) (reserved most id : ℕ) → list_any (λ other. other == id) running ≡ true → now ≡ filter (λ other. not (other == id)) running → step (state queue running reserved most) (Done id) ≡ Some (state queue now reserved most)
step-done queue running now reserved most id runs is =
    let old = state queue running reserved most in
    may_stand (is_running id old) (without_running old id) runs ∙ ap (λ rs. Some (state queue rs reserved most)) (sym is)

-- ---- tried
pub step-tried : (queue : List Ticket) (running now : List ℕ) (reserved most id : ℕ) → is_known id (state queue running reserved most) ≡ false → may_run (state queue running reserved most) ≡ true → now ≡ running ++ id ∷ [] → step (state queue running reserved most) (Tried id) ≡ Some (state queue now reserved most)
step-tried queue running now reserved most id free may is =
    let old = state queue running reserved most in
    may_stand (not (is_known id old) && may_run old) (with_running old id) (and_from (not (is_known id old)) (may_run old) (ap not free) may) ∙ ap (λ rs. Some (state queue rs reserved most)) (sym is)

-- where a task may run, one more is no more than a pool may have
pub few_run : (queue : List Ticket) (running : List ℕ) (reserved most : ℕ) → most ≤ most_threads → may_run (state queue running reserved most) ≡ true → length running + 1 ≤ most_threads
few_run queue running reserved most small may =
    elim (or_cases (nat_lt (length running + reserved) most) (length running == 0) may) [
      | inl free ↦ omega (arith, ltb-true (length running + reserved) most free)
      | inr none ↦ omega (arith, eqb-true (length running) 0 none)
    ]

-- ---- how many wait
pub no_more_wait : {K : Type 0} (id : ℕ) (queue : List (Task K)) → length (without id queue) ≤ length queue
no_more_wait id [] = omega arith
no_more_wait {K = K} id (task ∷ queue) =
    elim (task.id == id) as (λ b. length (cond (not b) (task ∷ without id queue) (without id queue)) ≤ length (task ∷ queue)) [
      | true ↦ omega (arith, no_more_wait id queue)
      | false ↦ omega (arith, no_more_wait id queue)
    ]

pub fewer_wait : {K : Type 0} (id : ℕ) (queue : List (Task K)) (work : K) → work_of id queue ≡ Some work → length (without id queue) < length queue
fewer_wait id [] work h = absurd (cc)
fewer_wait {K = K} id (task ∷ queue) work h =
    let go : (b : Bool) → option_map (λ (t : Task K). t.work) (cond b (Some task) (find (λ t. t.id == id) queue)) ≡ Some work → length (cond (not b) (task ∷ without id queue) (without id queue)) < length (task ∷ queue) = elim [
      | true ↦ λ e. omega (arith, no_more_wait id queue)
      | false ↦ λ e. omega (arith, fewer_wait id queue work e)
    ] in
    go (task.id == id) h
