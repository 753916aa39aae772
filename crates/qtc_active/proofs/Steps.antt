-- Each step on a count keeps its rule, and what it tells.
use Rattle.std.proofs.Common.{◌≡◌, ℕ, ◌+◌, ◌-◌, ◌%◌, ◌^◌, ◌<◌, ◌≤◌, Bool, true, false, List, [], set, sym, refl, ap, ◌∙◌, subst, arith, sum_by, cond, All, slice_index, slice_set, length-append}
use Rattle.std.proofs.Math.Nat.{mod-eq_of_lt, add-mod_right}
use Rattle.std.proofs.lemmas.List.Sums.{sum_by-append, sum_by-remove, sum_by-le-sum_by, count_by-le-length}
use Rattle.std.proofs.lemmas.List.Elements.{All-set, All-push, All-nil}
use Rattle.std.specs.List.{remove}
use mathlib.Core.Option.{some}
use lib.ListN.{get_elem?}
use Rattle.atomic_table.specs.Table.{Me, Act, Valid, keeps, homes_after, carried_after, Allows, Enters, Splits, Joins}
use Rattle.atomic_table.proofs.Lists.{set_again}
use Rattle.qtc_lock.proofs.Views.{placed, All-at, All-snoc, sum_by-set_view, sum_by-snoc}
use Rattle.qtc_active.specs.declared.rule.View.{View}
use Rattle.qtc_active.specs.Rule as rule
use Rattle.qtc_active.specs.Rule.{badge_view, first_view, gatherer_view, spent_view, inside, badges, Holds, IsKept, recorded, remembering, left_to_make, made, gathered, Leaves, Knows, Looks, Begins, LooksWithAll}

abbrev WithinAll : ℕ → View → Type 0
WithinAll workers view = All (λ number. number ≤ workers) view.seen

in_of_badges : (view : View) → inside view ≤ badges view
in_of_badges view = omega (arith, count_by-le-length (λ (is_in : Bool). is_in) view.are_in)

module _ (workers count : ℕ) (views : List View) (holds : Holds workers count views) where
  -- no more are in than there are workers
  at_most : count ≤ workers
  at_most = omega (arith, sum_by-le-sum_by inside badges views in_of_badges, holds.in_all, holds.one_each)

  module _ (id : ℕ) (v : View) (at : get_elem? views id ≡ some v) where
    -- one view changes, and the word with it
    changes : (count' : ℕ) (w : View) → WithinAll workers w → badges w ≡ badges v → count' + inside v ≡ count + inside w → Holds workers count' (set views id w)
    changes count' w few same moved = record {
      in_all = omega (arith, sum_by-set_view inside views id v w at, holds.in_all, moved);
      one_each = omega (arith, sum_by-set_view badges views id v w at, holds.one_each, same);
      seen = All-set (WithinAll workers) views id w few holds.seen;
    }

    parts : (measure : View → ℕ) → sum_by measure views ≡ sum_by measure (remove views id) + measure v
    parts measure =
        let it = placed views id v at in
        sym (sum_by-remove measure views id v it.0) ∙ ap (λ w. sum_by measure (remove views id) + measure w) it.1

    knows : v.workers ≡ workers → Knows v count
    knows workers_is = record {
      least = omega (arith, parts inside, holds.in_all);
      most = omega (
        arith,
        workers_is,
        parts inside,
        parts badges,
        holds.in_all,
        holds.one_each,
        count_by-le-length (λ (is_in : Bool). is_in) v.are_in,
        sum_by-le-sum_by inside badges (remove views id) in_of_badges,
      );
    }

module _ (workers slots id : ℕ) where
  -- a step of a seat that has no slot
  steps : (v : View) (f : ℕ → ℕ) (new : ℕ → View) (Told : ℕ → Me (Unit {0}) View → Type 0)
      → ((count : ℕ) (views : List View) → Holds workers count views → get_elem? views id ≡ some v → Holds workers (f count) (set views id (new count)) × Told count (new count, []))
      → Allows (IsKept workers) slots id (v, []) 0 f Told
  steps v f new Told make s is_kept long me wide =
      let P : List ℕ → Type 0 = λ words.
      (w : View) × (a : Act (Unit {0})) × Valid s.homes [] a
      × IsKept workers (record { words = slice_set words 0 (f (slice_index words 0)); homes = homes_after s.homes [] a; views = slice_set s.views id w })
      × Told (slice_index words 0) (w, carried_after [] a)
      in
      let made_so = make is_kept.count s.views is_kept.holds me in
      subst P (sym is_kept.word) (new is_kept.count, keeps, tt, record { count = f is_kept.count; word = refl; holds = made_so.0 }, made_so.1)

module _ (workers slots id : ℕ) (seen : List ℕ) (fits : workers < 2 ^ 32) where
  -- a worker that is out gets in
  pub enters : (m : Me (Unit {0}) View) → m ≡ (badge_view workers false seen, []) → Allows (IsKept workers) slots id m 0 (λ n. (n + 1) % 2 ^ 64) (rule.Enters m)
  enters m is =
      let v = badge_view workers false seen in
      let w = badge_view workers true seen in
      subst (λ (x : Me (Unit {0}) View). Allows (IsKept workers) slots id x 0 (λ n. (n + 1) % 2 ^ 64) (rule.Enters x)) (sym is)
      (steps workers slots id v (λ n. (n + 1) % 2 ^ 64) (λ _. w) (rule.Enters (v, []))
      (λ count views holds at.
      let below : count + 1 < 2 ^ 64 = omega (arith, at_most workers count views holds, fits) in
      let few = All-at (WithinAll workers) views id v at holds.seen in
      (changes workers count views holds id v at ((count + 1) % 2 ^ 64) w few refl (omega (arith, mod-eq_of_lt below)), refl)))

  -- a worker that is in gets out
  pub leaves : (m : Me (Unit {0}) View) → m ≡ (badge_view workers true seen, []) → Allows (IsKept workers) slots id m 0 (λ n. (n + (2 ^ 64 - 1)) % 2 ^ 64) (Leaves m)
  leaves m is =
      let v = badge_view workers true seen in
      let w = badge_view workers false seen in
      subst (λ (x : Me (Unit {0}) View). Allows (IsKept workers) slots id x 0 (λ n. (n + (2 ^ 64 - 1)) % 2 ^ 64) (Leaves x)) (sym is)
      (steps workers slots id v (λ n. (n + (2 ^ 64 - 1)) % 2 ^ 64) (λ _. w) (Leaves (v, []))
      (λ count views holds at.
      let one : 1 ≤ count = omega (arith, parts workers count views holds id v at inside, holds.in_all) in
      let few = All-at (WithinAll workers) views id v at holds.seen in
      (changes workers count views holds id v at ((count + (2 ^ 64 - 1)) % 2 ^ 64) w few refl (lowered count one (omega (arith, at_most workers count views holds, fits))), refl)))
    where
      lowered : (count : ℕ) → 1 ≤ count → count < 2 ^ 64 → (count + (2 ^ 64 - 1)) % 2 ^ 64 + 1 ≡ count + 0
      lowered count one below =
          let same : count + (2 ^ 64 - 1) ≡ (count - 1) + 2 ^ 64 = omega (arith, one) in
          let less : count - 1 < 2 ^ 64 = omega (arith, below) in
          let is : (count + (2 ^ 64 - 1)) % 2 ^ 64 ≡ count - 1 = ap (λ n. n % 2 ^ 64) same ∙ add-mod_right (count - 1) (2 ^ 64) ∙ mod-eq_of_lt less in
          omega (arith, is, one)

-- a worker looks
pub looks : (workers slots id : ℕ) (is_in : Bool) (seen : List ℕ) (m : Me (Unit {0}) View) → m ≡ (badge_view workers is_in seen, []) → Allows (IsKept workers) slots id m 0 (λ n. n) (Looks m)
looks workers slots id is_in seen m is =
    let v = badge_view workers is_in seen in
    subst (λ (x : Me (Unit {0}) View). Allows (IsKept workers) slots id x 0 (λ n. n) (Looks x)) (sym is)
    (steps workers slots id v (λ n. n) (λ count. remembering count v) (Looks (v, []))
    (λ count views holds at.
    let few = All-push (λ (number : ℕ). number ≤ workers) seen count (All-at (WithinAll workers) views id v at holds.seen) (at_most workers count views holds) in
    (changes workers count views holds id v at count (remembering count v) few refl refl, record { remembers = refl; knows = knows workers count views holds id v at refl })))

-- a gatherer looks
pub looks_with_all : (workers slots id : ℕ) (m : Me (Unit {0}) View) → m.1 ≡ [] → m.0.workers ≡ workers → Allows (IsKept workers) slots id m 0 (λ n. n) (LooksWithAll m)
looks_with_all workers slots id m slotless workers_is =
    let is : m ≡ (m.0, []) = ap (λ l. (m.0, l)) slotless in
    subst (λ (x : Me (Unit {0}) View). Allows (IsKept workers) slots id x 0 (λ n. n) (LooksWithAll x)) (sym is)
    (steps workers slots id m.0 (λ n. n) (λ _. m.0) (LooksWithAll (m.0, []))
    (λ count views holds at.
    (subst (Holds workers count) (sym (set_again views id m.0 at)) holds, record { same = refl; knows = knows workers count views holds id m.0 at workers_is })))

-- a gatherer comes
pub begins : (workers slots : ℕ) → Enters (IsKept workers) slots 0 (λ n w. Begins (first_view workers, []) n (w, []))
begins workers slots s is_kept long wide =
    let holds = is_kept.holds in
    let new = gatherer_view workers in (
      new,
      record {
        count = is_kept.count;
        word = is_kept.word;
        holds = record {
          in_all = omega (arith, sum_by-snoc inside s.views new, holds.in_all);
          one_each = omega (arith, sum_by-snoc badges s.views new, holds.one_each);
          seen = All-snoc (WithinAll workers) s.views new (All-nil (λ (number : ℕ). number ≤ workers)) holds.seen;
        };
      },
      refl,
    )

-- the maker makes a badge
pub makes : (workers id : ℕ) (v : View) → 0 < v.unmade → Splits (IsKept workers) id v (left_to_make v) (made v)
makes workers id v some_left s is_kept at =
    let holds = is_kept.holds in
    let left = left_to_make v in
    let few = All-at (WithinAll workers) s.views id v at holds.seen in
    record {
      count = is_kept.count;
      word = is_kept.word;
      holds = record {
        in_all = omega (arith, sum_by-set_view inside s.views id v left at, sum_by-snoc inside (set s.views id left) (made v), holds.in_all);
        one_each = omega (arith, sum_by-set_view badges s.views id v left at, sum_by-snoc badges (set s.views id left) (made v), holds.one_each, some_left);
        seen = All-snoc (WithinAll workers) (set s.views id left) (made v) (All-nil (λ (number : ℕ). number ≤ workers)) (All-set (WithinAll workers) s.views id left few holds.seen);
      };
    }

-- a gatherer takes in a badge
pub gathers : (workers id : ℕ) (v : View) (other : ℕ) (w : View) → w.unmade ≡ 0 → Joins (IsKept workers) id v other w (gathered v w) spent_view
gathers workers id v other w none_left s is_kept at apart there =
    let holds = is_kept.holds in
    let both = gathered v w in
    let joined = set s.views id both in
    let few = All-at (WithinAll workers) s.views id v at holds.seen in
    let ins : inside both ≡ inside v + inside w = sum_by-append (λ (is_in : Bool). cond is_in 1 0) v.are_in w.are_in in
    let alls : badges both ≡ badges v + badges w = omega (arith, length-append v.are_in w.are_in, none_left) in
    record {
      count = is_kept.count;
      word = is_kept.word;
      holds = record {
        in_all = omega (arith, sum_by-set_view inside s.views id v both at, sum_by-set_view inside joined other w spent_view there, holds.in_all, ins);
        one_each = omega (arith, sum_by-set_view badges s.views id v both at, sum_by-set_view badges joined other w spent_view there, holds.one_each, alls);
        seen = All-set (WithinAll workers) joined other spent_view (All-nil (λ (number : ℕ). number ≤ workers)) (All-set (WithinAll workers) s.views id both few holds.seen);
      };
    }
