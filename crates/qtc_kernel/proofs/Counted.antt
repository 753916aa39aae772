-- What is counted of an engine: its ranges and the calls of the function.
use Rattle.std.proofs.Common.{◌≡◌, ℕ, ◌+◌, ◌-◌, ◌<◌, ◌≤◌, min, nat_lt, if◌then◌else◌, Bool, true, false, not, List, [], ◌∷◌, ◌++◌, All, IsTrue, None, filter, map, is_none, refl, sym, ap, ◌∙◌, subst, arith}
use Rattle.std.specs.Prelude.{◌&&◌, ◌==◌}
use Rattle.std.specs.List.{list_any, range_with_len}
use Rattle.std.proofs.lemmas.Bool.Decides.{nat_tests}
use Rattle.std.proofs.lemmas.List.{map-append}
use Rattle.std.proofs.lemmas.List.Elements.{All-nil, All-cons, All-head, All-tail, All-append, All-filter, filter-append}
use Rattle.qtc_base.specs.Ranges.{clip, times_covered}
use Rattle.qtc_future.specs.Future.{Future}
use Rattle.qtc_future.specs.Steps.{step}
use Rattle.qtc_future.specs.declared.requests.Request.{Request}
use Rattle.qtc_future.specs.declared.requests.Request.TheVariants.{Fail}
use Rattle.qtc_kernel.specs.Laws.{NoIndexIsCalledTwice, RangesTile}
use Rattle.qtc_kernel.specs.Machine.{Engine, Event, Fate, Mode, Settled, failed, after, ask, claim, fail, fate_of, is_first_bad, is_out, is_same, is_size, is_steering, look, new_engine, report, reporting, run_from, run_of, unless_empty, with_claim, with_failure, with_report, with_settled}
use Rattle.qtc_kernel.specs.Runs.{accepted_ranges, claimed_ranges, is_taken, times_called}
use Rattle.qtc_kernel.specs.Workload.{Workload, first_bad, indexes_of, item_at, size_of}
use Rattle.qtc_kernel.proofs.Finding.{first_bad_in, none_from}
use Rattle.qtc_kernel.proofs.Counting.{below, calls-append, calls-range, covers, covers-clip, one_taken, times-append, times-one, times-unless_empty}

pub both_left : (a b : Bool) → (a && b) ≡ true → a ≡ true
both_left a b h = grind arith

pub both_right : (a b : Bool) → (a && b) ≡ true → b ≡ true
both_right a b h = grind arith

abbrev pub settled_ranges : Engine → List (ℕ × ℕ)
settled_ranges engine = map (λ settled. settled.range) engine.settled

-- some of the indexes below n
pub record IsPart (n : ℕ) (range : ℕ × ℕ) : Type 0 where
  pub some : range.0 < range.1
  pub within : range.1 ≤ n

pub record IsCounted (work : Workload) (engine : Engine) : Type 0 where
  pub parts : All (IsPart (size_of work)) engine.out
  pub tiled : (number : ℕ) → times_covered (claimed_ranges engine) number ≡ below number (min engine.next (size_of work))
  -- each call is on an index of a range that came back
  pub calls : (index : ℕ) → times_called engine.called index ≤ times_covered (settled_ranges engine) index
  pub taken : (index : ℕ) → times_covered (accepted_ranges engine) index ≤ times_called engine.called index

pub new_counted : (work : Workload) (filter : Bool) (cancel_after suspend_after : ℕ) → IsCounted work (new_engine filter cancel_after suspend_after)
new_counted work filter cancel_after suspend_after = record {
  parts = All-nil (IsPart (size_of work));
  tiled = λ number. none number (size_of work);
  calls = λ index. omega arith;
  taken = λ index. omega arith;
}
  where
    none : (number n : ℕ) → 0 ≡ below number (min 0 n)
    none number n = grind (arith, nat_tests)

-- the future alone changes
pub future_counted : (work : Workload) (engine : Engine) (future : Future (List ℕ)) → IsCounted work engine → IsCounted work (record engine { future = future })
future_counted work engine future h = record { parts = h.parts; tiled = h.tiled; calls = h.calls; taken = h.taken }

-- ---- a claim

unless_part : (n : ℕ) (range : ℕ × ℕ) → range.1 ≤ n → All (IsPart n) (unless_empty range)
unless_part n range within =
    elim (nat_lt range.0 range.1) as (λ b. nat_lt range.0 range.1 ≡ b → All (IsPart n) (if b then range ∷ [] else [])) [
      | true ↦ λ e. All-cons (IsPart n) range [] (record { some = less range.0 range.1 e; within = within }) (All-nil (IsPart n))
      | false ↦ λ e. All-nil (IsPart n)
    ] refl
  where
    less : (a b : ℕ) → nat_lt a b ≡ true → a < b
    less a b e = grind (arith, nat_tests)

pub claim_counted : (work : Workload) (engine : Engine) (size : ℕ) → IsCounted work engine → IsCounted work (with_claim work engine size)
claim_counted work engine size h =
    let n = size_of work in
    let range = clip engine.next size n in
    record {
      parts = All-append (IsPart n) engine.out (unless_empty range) h.parts (unless_part n range (omega arith));
      tiled = λ number.
          let was = h.tiled number in
          let before = times-append number engine.out (settled_ranges engine) in
          let after = times-append number (engine.out ++ unless_empty range) (settled_ranges engine) in
          let out = times-append number engine.out (unless_empty range) in
          let added = times-unless_empty number range in
          let clipped = covers-clip number engine.next size n in
          omega arith;
      calls = h.calls;
      taken = h.taken;
    }

-- ---- a range that comes back

abbrev pub settled_as : ℕ × ℕ → Fate → Settled
settled_as range fate = record { range = range; fate = fate }

pub settled-push : (engine : Engine) (settled : Settled) → map (λ (s : Settled). s.range) (engine.settled ++ settled ∷ []) ≡ settled_ranges engine ++ settled.range ∷ []
settled-push engine settled = map-append (λ (s : Settled). s.range) engine.settled (settled ∷ [])

abbrev pub taken_of : Settled → List (ℕ × ℕ)
taken_of settled = if is_taken settled.fate then settled.range ∷ [] else []

pub accepted-push : (all : List Settled) (settled : Settled) → map (λ (s : Settled). s.range) (filter (λ (s : Settled). is_taken s.fate) (all ++ settled ∷ [])) ≡ map (λ (s : Settled). s.range) (filter (λ (s : Settled). is_taken s.fate) all) ++ taken_of settled
accepted-push all settled =
    ap (map (λ (s : Settled). s.range)) (filter-append (λ (s : Settled). is_taken s.fate) all (settled ∷ []))
    ∙ map-append (λ (s : Settled). s.range) (filter (λ (s : Settled). is_taken s.fate) all) (filter (λ (s : Settled). is_taken s.fate) (settled ∷ []))
    ∙ ap (λ rs. map (λ (s : Settled). s.range) (filter (λ (s : Settled). is_taken s.fate) all) ++ rs) (one settled)
  where
    one : (settled : Settled) → map (λ (s : Settled). s.range) (filter (λ (s : Settled). is_taken s.fate) (settled ∷ [])) ≡ taken_of settled
    one settled =
        elim (is_taken settled.fate) as (λ b. map (λ (s : Settled). s.range) (if b then settled ∷ [] else []) ≡ (if b then settled.range ∷ [] else [])) [
          | true ↦ refl
          | false ↦ refl
        ]

times-taken : (index : ℕ) (settled : Settled) (called : ℕ) → (is_taken settled.fate ≡ true → covers index settled.range ≤ called) → times_covered (taken_of settled) index ≤ called
times-taken index settled called h =
    elim (is_taken settled.fate) as (λ b. is_taken settled.fate ≡ b → times_covered (if b then settled.range ∷ [] else []) index ≤ called) [
      | true ↦ λ e. let one = times-one index settled.range in let enough = h e in omega arith
      | false ↦ λ e. omega arith
    ] refl

-- a range that is the same as one of them is one of them
pub same_has : (P : ℕ × ℕ → Type 0) (range : ℕ × ℕ) (ranges : List (ℕ × ℕ)) → list_any (is_same range) ranges ≡ true → All P ranges → P range
same_has P range [] there all = absurd (cc)
same_has P range (x ∷ ranges) there all =
    elim (is_same range x) as (λ b. is_same range x ≡ b → P range) [
      | true ↦ λ e. subst P (sym (same range x e)) (All-head P x ranges all)
      | false ↦ λ e. same_has P range ranges (rw e at there) (All-tail P x ranges all)
    ] refl
  where
    equal : (a b : ℕ) → (a == b) ≡ true → a ≡ b
    equal a b e = grind (arith, nat_tests)

    same : (a b : ℕ × ℕ) → is_same a b ≡ true → a ≡ b
    same a b e =
        let begin = equal a.0 b.0 (both_left (a.0 == b.0) (a.1 == b.1) e) in
        let end = equal a.1 b.1 (both_right (a.0 == b.0) (a.1 == b.1) e) in
        ap (λ n. (n, a.1)) begin ∙ ap (λ n. (b.0, n)) end

pub out_part : (work : Workload) (engine : Engine) (range : ℕ × ℕ) → IsCounted work engine → is_out engine range ≡ true → IsPart (size_of work) range
out_part work engine range h there = same_has (IsPart (size_of work)) range engine.out there h.parts

below_most : (number m : ℕ) → below number m ≤ 1
below_most number m = grind (arith, nat_tests)

pub out_once : (work : Workload) (engine : Engine) → IsCounted work engine → (number : ℕ) → times_covered engine.out number + times_covered (settled_ranges engine) number ≤ 1
out_once work engine h number =
    let was = h.tiled number in
    let parts = times-append number engine.out (settled_ranges engine) in
    let most = below_most number (min engine.next (size_of work)) in
    omega arith

-- the calls are on indexes of the range, and on each of them where the future takes its values
pub settled_counted : (work : Workload) (engine : Engine) (range : ℕ × ℕ) (fate : Fate) (indexes : List ℕ) (future : Future (List ℕ))
    → IsCounted work engine → is_out engine range ≡ true
    → ((index : ℕ) → times_called indexes index ≤ covers index range)
    → (is_taken fate ≡ true → (index : ℕ) → covers index range ≤ times_called indexes index)
    → IsCounted work (with_settled engine range fate indexes future)
settled_counted work engine range fate indexes future h there few all =
    let n = size_of work in
    let part = out_part work engine range h there in
    let settled = settled_as range fate in
    let once : times_covered engine.out range.0 ≤ 1 = let sum = out_once work engine h range.0 in omega arith in
    let left = filter (λ (other : ℕ × ℕ). not (is_same range other)) engine.out in
    let came : (number : ℕ) → times_covered (map (λ (s : Settled). s.range) (engine.settled ++ settled ∷ [])) number ≡ times_covered (settled_ranges engine) number + covers number range =
    λ number. ap (λ rs. times_covered rs number) (settled-push engine settled) ∙ times-append number (settled_ranges engine) (range ∷ []) ∙ ap (λ k. times_covered (settled_ranges engine) number + k) (times-one number range) in
    record {
      parts = All-filter (λ (other : ℕ × ℕ). not (is_same range other)) (IsPart n) engine.out h.parts;
      tiled = λ number.
          let was = h.tiled number in
          let before = times-append number engine.out (settled_ranges engine) in
          let after = times-append number left (map (λ (s : Settled). s.range) (engine.settled ++ settled ∷ [])) in
          let back = came number in
          let out = one_taken range part.some engine.out there once number in
          omega arith;
      calls = λ index.
          let was = h.calls index in
          let more = calls-append index engine.called indexes in
          let back = came index in
          let own = few index in
          omega arith;
      taken = λ index.
          let was = h.taken index in
          let more = calls-append index engine.called indexes in
          let push = ap (λ rs. times_covered rs index) (accepted-push engine.settled settled) ∙ times-append index (accepted_ranges engine) (taken_of settled) in
          let own = times-taken index settled (times_called indexes index) (λ e. all e index) in
          omega arith;
    }

-- ---- the calls of a range

calls-whole : (index begin end : ℕ) → begin ≤ end → times_called (range_with_len begin (end - begin)) index ≡ covers index (begin, end)
calls-whole index begin end h = calls-range index begin (end - begin) ∙ ap (λ e. covers index (begin, e)) (omega arith)

covers_front : (index begin at end : ℕ) → at < end → covers index (begin, at + 1) ≤ covers index (begin, end)
covers_front index begin at end h = grind (arith, nat_tests)

pub report_counted : (work : Workload) (engine : Engine) (caller : ℕ) (range : ℕ × ℕ) → IsCounted work engine → is_out engine range ≡ true → IsCounted work (with_report work engine caller range)
report_counted work engine caller range h there =
    let part = out_part work engine range h there in
    let stepped = reporting work engine caller range in
    let each : (index : ℕ) → times_called (indexes_of range) index ≡ covers index range = λ index. calls-whole index range.0 range.1 (let some = part.some in omega arith) in
    settled_counted work engine range (fate_of stepped.told) (indexes_of range) stepped.future h there
    (λ index. let same = each index in omega arith)
    (λ e index. let same = each index in omega arith)

-- the function is called up to the bad item
pub failure_counted : (work : Workload) (engine : Engine) (caller : ℕ) (range : ℕ × ℕ) (index : ℕ) → IsCounted work engine → is_out engine range ≡ true → is_first_bad work range index ≡ true → IsCounted work (with_failure work engine caller range index)
failure_counted work engine caller range index h there first =
    let part = out_part work engine range h there in
    let at = first_bad_in work range index (let some = part.some in omega arith) first in
    settled_counted work engine range failed (indexes_of (range.0, index + 1)) (step engine.future caller (Fail index (item_at work index))).future h there
    (λ i.
    let same = calls-whole i range.0 (index + 1) (let low = at.low in omega arith) in
    let front = covers_front i range.0 index range.1 at.high in
    omega arith)
    (λ e. absurd (cc))

-- ---- every event

-- one of two engines
pub chosen : (P : Engine → Type 0) (b : Bool) (x y : Engine) → (b ≡ true → P x) → P y → P (if b then x else y)
chosen P true x y h k = h refl
chosen P false x y h k = k

-- what holds of an engine still holds after an event, if each change keeps it where its condition holds
pub record IsKept (work : Workload) (P : Engine → Type 0) : Type 0 where
  pub claims : (engine : Engine) (size : ℕ) → P engine → IsTrue (is_size size) → P (with_claim work engine size)
  pub reports :
      (engine : Engine) (caller : ℕ) (range : ℕ × ℕ) → P engine → is_out engine range ≡ true → first_bad work range ≡ None
      → P (with_report work engine caller range)
  pub fails :
      (engine : Engine) (caller : ℕ) (range : ℕ × ℕ) (index : ℕ) → P engine → is_out engine range ≡ true
      → is_first_bad work range index ≡ true → P (with_failure work engine caller range index)
  pub asks :
      (engine : Engine) (caller : ℕ) (asked : Request (List ℕ)) → P engine → is_steering asked ≡ true
      → P (record engine { future = (step engine.future caller asked).future })

pub after_kept : (work : Workload) (P : Engine → Type 0) (engine : Engine) (event : Event) → IsKept work P → P engine → P (after work engine event)
after_kept work P engine look k h = h
after_kept work P engine (claim size) k h =
    chosen P (is_size size) (with_claim work engine size) engine (λ e. k.claims engine size h e) h
after_kept work P engine (report caller range) k h =
    chosen P (is_out engine range && is_none (first_bad work range)) (with_report work engine caller range) engine
    (λ e. k.reports engine caller range h (both_left (is_out engine range) _ e) (none_from (first_bad work range) (both_right (is_out engine range) _ e))) h
after_kept work P engine (fail caller range index) k h =
    chosen P (is_out engine range && is_first_bad work range index) (with_failure work engine caller range index) engine
    (λ e. k.fails engine caller range index h (both_left (is_out engine range) _ e) (both_right (is_out engine range) _ e)) h
after_kept work P engine (ask caller asked) k h =
    chosen P (is_steering asked) (record engine { future = (step engine.future caller asked).future }) engine (λ e. k.asks engine caller asked h e) h

pub run_kept : (work : Workload) (P : Engine → Type 0) (engine : Engine) (events : List Event) → IsKept work P → P engine → P (run_from work engine events)
run_kept work P engine [] k h = h
run_kept work P engine (event ∷ events) k h = run_kept work P (after work engine event) events k (after_kept work P engine event k h)

pub counted_kept : (work : Workload) → IsKept work (IsCounted work)
counted_kept work = record {
  claims = λ engine size h ok. claim_counted work engine size h;
  reports = λ engine caller range h there good. report_counted work engine caller range h there;
  fails = λ engine caller range index h there first. failure_counted work engine caller range index h there first;
  asks = λ engine caller asked h ok. future_counted work engine (step engine.future caller asked).future h;
}

pub run_counted : (work : Workload) (mode : Mode) (events : List Event) → IsCounted work (run_of work mode events)
run_counted work mode events =
    run_kept work (IsCounted work) (new_engine mode.filter mode.cancel_after mode.suspend_after) events (counted_kept work)
    (new_counted work mode.filter mode.cancel_after mode.suspend_after)

-- ---- the laws

tiled_below : (number m : ℕ) → number < m → below number m ≡ 1
tiled_below number m h = grind (arith, nat_tests)

tiled_past : (number m : ℕ) → m ≤ number → below number m ≡ 0
tiled_past number m h = grind (arith, nat_tests)

pub ranges_tile : RangesTile
ranges_tile work mode events = let engine = run_of work mode events in let h = run_counted work mode events in record {
  once = λ number less. h.tiled number ∙ tiled_below number (min engine.next (size_of work)) less;
  none = λ number past. h.tiled number ∙ tiled_past number (min engine.next (size_of work)) past;
}

pub called_once : NoIndexIsCalledTwice
called_once work mode events = let engine = run_of work mode events in let h = run_counted work mode events in record {
  once = λ index. let calls = h.calls index in let once = out_once work engine h index in omega arith;
  none = λ index past.
      let calls = h.calls index in
      let tiled = h.tiled index in
      let none = tiled_past index (min engine.next (size_of work)) (omega arith) in
      let parts = times-append index engine.out (settled_ranges engine) in
      omega arith;
}
