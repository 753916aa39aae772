-- Each step on a line keeps its rule, and what it tells.
use Rattle.std.proofs.Common.{◌≡◌, ℕ, ◌+◌, ◌<◌, ◌≤◌, cond, nat_le, List, [], ◌∷◌, ◌++◌, length, set, sym, refl, ap, ◌∙◌, subst, arith, sum_by, All, append_assoc}
use Rattle.std.proofs.lemmas.Bool.Decides.{nat_tests}
use Rattle.std.proofs.lemmas.List.Sums.{sum_by-cons, sum_by-append, sum_by_push}
use Rattle.std.proofs.lemmas.List.Elements.{All-set, All-push, All-nil, All-cons, All-head, All-tail}
use mathlib.Core.Option.{some}
use lib.ListN.{get_elem?}
use lib.Seq.{set-set}
use Rattle.crossbeam_queue.specs.Fifo.{Pushes, Pops, Forks, Merges, Learns}
use Rattle.qtc_lock.proofs.Views.{All-at, All-snoc, sum_by-set_view, sum_by-snoc}
use Rattle.qtc_inbox.specs.declared.entry.Entry.{Entry}
use Rattle.qtc_inbox.specs.declared.rule.View.{View}
use Rattle.qtc_inbox.specs.Parts.{LineKey, Numbered}
use Rattle.qtc_inbox.specs.Rule.{no_key, first_view, spent_view, with_ticket, numbered, has_put, has_taken, parts_of, Fits, IsRight, Holds, IsKept, Knows, opened, one_part_less, one_part, absorbed, Below, Puts, Takes}

module _ {V : Type 0} where
  -- Numbers.

  numbered_push : (from : ℕ) (entries : List (Entry V)) (entry : Entry V) → numbered from (entries ++ entry ∷ []) ≡ numbered from entries ++ with_ticket (from + length entries) entry ∷ []
  numbered_push from [] entry = ap (λ n. with_ticket n entry ∷ []) (omega arith)
  numbered_push from (first ∷ entries) entry =
      let later : from + 1 + length entries ≡ from + length (first ∷ entries) = omega arith in
      ap (λ rest. with_ticket from first ∷ rest) (numbered_push (from + 1) entries entry ∙ ap (λ n. numbered (from + 1) entries ++ with_ticket n entry ∷ []) later)

  weigh_push : (weight : Numbered V → ℕ) (entries : List (Entry V)) (entry : Entry V)
      → sum_by weight (numbered 0 (entries ++ entry ∷ [])) ≡ sum_by weight (numbered 0 entries) + weight (with_ticket (length entries) entry)
  weigh_push weight entries entry =
      ap (sum_by weight) (numbered_push 0 entries entry)
      ∙ sum_by_push weight (numbered 0 entries) (with_ticket (0 + length entries) entry)
      ∙ ap (λ n. sum_by weight (numbered 0 entries) + weight (with_ticket n entry)) (omega arith)

  -- 1 where the number is at the limit or past it
  abbrev late : ℕ → Numbered V → ℕ
  late limit one = cond (nat_le limit one.ticket) 1 0

  none_late : (limit from : ℕ) (entries : List (Entry V)) → from + length entries ≤ limit → sum_by (late limit) (numbered from entries) ≡ 0
  none_late limit from [] few = refl
  none_late limit from (entry ∷ entries) few =
      let below : from < limit = omega (arith, few) in
      let here : cond {A = ℕ} (nat_le limit from) 1 0 ≡ 0 = grind (arith, nat_tests) in
      let rest = none_late limit (from + 1) entries (omega (arith, few)) in
      omega (arith, sum_by-cons (late limit) (with_ticket from entry) (numbered (from + 1) entries), here, rest)

  all_below : (limit : ℕ) (ones : List (Numbered V)) → sum_by (late limit) ones ≡ 0 → Below limit ones
  all_below limit [] none = All-nil (λ (one : Numbered V). one.ticket < limit)
  all_below limit (one ∷ ones) none =
      let sum : late limit one + sum_by (late limit) ones ≡ 0 = sym (sum_by-cons (late limit) one ones) ∙ none in
      let early : cond {A = ℕ} (nat_le limit one.ticket) 1 0 ≡ 0 = omega (arith, sum) in
      All-cons (λ (it : Numbered V). it.ticket < limit) one ones (grind (arith, nat_tests)) (all_below limit ones (omega (arith, sum)))

  -- nothing weighs nothing
  empty_by_weight : (entries : List (Entry V)) → sum_by (λ (one : Numbered V). 1) (numbered 0 entries) ≡ 0 → entries ≡ []
  empty_by_weight [] none = refl
  empty_by_weight (entry ∷ entries) none =
      let sum : 1 + sum_by (λ (one : Numbered V). 1) (numbered 1 entries) ≡ 0 = sym (sum_by-cons (λ (one : Numbered V). 1) (with_ticket 0 entry) (numbered 1 entries)) ∙ none in
      absurd (omega (arith, sum))

  both_empty : (popped items pushed : List (Entry V)) → pushed ≡ popped ++ items → pushed ≡ [] → items ≡ []
  both_empty [] items pushed order none = sym order ∙ none
  both_empty (entry ∷ popped) items pushed order none = absurd (let longer : length (entry ∷ popped ++ items) ≡ 0 = ap length (sym order ∙ none) in omega (arith, longer))

  all_later : (P : Entry V → Type 0) (popped items : List (Entry V)) → All P (popped ++ items) → All P items
  all_later P [] items all = all
  all_later P (entry ∷ popped) items all = all_later P popped items (All-tail P entry (popped ++ items) all)

  -- What a step changes.

  abbrev over : List (View V) → (View V → ℕ) → ℕ
  over views measure = sum_by measure views

  spent_right : (key : LineKey V) → IsRight key spent_view
  spent_right key = record { keyed = λ has. absurd (omega (arith, has)); none_put = λ _. refl; none_taken = λ _. refl }

  -- places without a part put and took nothing
  nothing_in : (key : LineKey V) (f : View V → ℕ) → ((u : View V) → IsRight key u → u.parts ≡ 0 → f u ≡ 0) → (xs : List (View V)) → All (IsRight key) xs → over xs parts_of ≡ 0 → over xs f ≡ 0
  nothing_in key f each [] right none = refl
  nothing_in key f each (x ∷ xs) right none =
      let sum : x.parts + over xs parts_of ≡ 0 = sym (sum_by-cons parts_of x xs) ∙ none in
      let here = each x (All-head (IsRight key) x xs right) (omega (arith, sum)) in
      let rest = nothing_in key f each xs (All-tail (IsRight key) x xs right) (omega (arith, sum)) in
      omega (arith, sum_by-cons f x xs, here, rest)

  -- and are right for any key
  rekeyed : (key key' : LineKey V) (xs : List (View V)) → All (IsRight key) xs → over xs parts_of ≡ 0 → All (IsRight key') xs
  rekeyed key key' [] right none = All-nil (IsRight key')
  rekeyed key key' (x ∷ xs) right none =
      let sum : x.parts + over xs parts_of ≡ 0 = sym (sum_by-cons parts_of x xs) ∙ none in
      let is = All-head (IsRight key) x xs right in
      All-cons (IsRight key') x xs (record { keyed = λ has. absurd (omega (arith, has, sum)); none_put = is.none_put; none_taken = is.none_taken })
      (rekeyed key key' xs (All-tail (IsRight key) x xs right) (omega (arith, sum)))

  module _ (key : LineKey V) (pushed popped items : List (Entry V)) (views : List (View V)) (holds : Holds key pushed popped items views) (id : ℕ) (v : View V) (at : get_elem? views id ≡ some v) where
    right : IsRight key v
    right = All-at (IsRight key) views id v at holds.right

    -- the others, beside a place that has nothing
    abbrev others : List (View V)
    others = set views id spent_view

    others_right : All (IsRight key) others
    others_right = All-set (IsRight key) views id spent_view (spent_right key) holds.right

    -- where it has every part, no other has one
    partless : v.parts ≡ key.parts → over others parts_of ≡ 0
    partless all = omega (arith, sum_by-set_view (parts_of {V = V}) views id v spent_view at, holds.sums.parts_are, all)

    puts_all : v.parts ≡ key.parts → (weight : Numbered V → ℕ) → sum_by weight v.put ≡ sum_by weight (numbered 0 pushed)
    puts_all all weight =
        let none = nothing_in key (has_put weight) (λ u is none. ap (sum_by weight) (is.none_put none)) others others_right (partless all) in
        omega (arith, sum_by-set_view (has_put weight) views id v spent_view at, none, holds.sums.put weight)

    takes_all : v.parts ≡ key.parts → (weight : Numbered V → ℕ) → sum_by weight v.taken ≡ sum_by weight (numbered 0 popped)
    takes_all all weight =
        let none = nothing_in key (has_taken weight) (λ u is none. ap (sum_by weight) (is.none_taken none)) others others_right (partless all) in
        omega (arith, sum_by-set_view (has_taken weight) views id v spent_view at, none, holds.sums.taken weight)

    knows : 1 ≤ v.parts → Knows v items
    knows some_part =
        let keyed : v.key ≡ key = right.keyed some_part in
        let fitting : All (Fits key) items = all_later (Fits key) popped items (subst (All (Fits key)) holds.order holds.fits) in
        record {
          fits = subst (λ k. All (Fits k) items) (sym keyed) fitting;
          all = λ all.
              let whole : v.parts ≡ key.parts = all ∙ ap (λ (k : LineKey V). k.parts) keyed in
              record { pushed = pushed; popped = popped; order = holds.order; put = puts_all whole; taken = takes_all whole };
        }

    -- what the place put before has numbers below that of the next
    put_before : Below (length pushed) v.put
    put_before =
        let part = sum_by-set_view (has_put (late (length pushed))) views id v spent_view at in
        let none = none_late (length pushed) 0 pushed (omega arith) in
        all_below (length pushed) v.put (omega (arith, part, none, holds.sums.put (late (length pushed))))

    taken_before : Below (length popped) v.taken
    taken_before =
        let part = sum_by-set_view (has_taken (late (length popped))) views id v spent_view at in
        let none = none_late (length popped) 0 popped (omega arith) in
        all_below (length popped) v.taken (omega (arith, part, none, holds.sums.taken (late (length popped))))

  -- an entry goes to the back
  pub puts : (n id : ℕ) (v : View V) (x : Entry V) → 1 ≤ v.parts → Fits v.key x → Pushes IsKept n id v x (Puts v x)
  puts n id v x some_part fits items views room kept at =
      let key = kept.key in
      let pushed = kept.pushed in
      let holds = kept.holds in
      let mine = right key pushed kept.popped items views holds id v at in
      let ticket = length pushed in
      let w : View V = record v { put = v.put ++ with_ticket ticket x ∷ [] } in (
        w,
        record {
          key = key;
          pushed = pushed ++ x ∷ [];
          popped = kept.popped;
          holds = record {
            order = ap (λ l. l ++ x ∷ []) holds.order ∙ append_assoc kept.popped items (x ∷ []);
            fits = All-push (Fits key) pushed x holds.fits (subst (λ k. Fits k x) (mine.keyed some_part) fits);
            right = All-set (IsRight key) views id w (record { keyed = mine.keyed; none_put = λ none. absurd (omega (arith, some_part, none)); none_taken = mine.none_taken }) holds.right;
            sums = record {
              put = λ weight.
                  omega (
                    arith,
                    sum_by-set_view (has_put weight) views id v w at,
                    sum_by_push weight v.put (with_ticket ticket x),
                    weigh_push weight pushed x,
                    holds.sums.put weight,
                  );
              taken = λ weight. omega (arith, sum_by-set_view (has_taken weight) views id v w at, holds.sums.taken weight);
              parts_are = omega (arith, sum_by-set_view (parts_of {V = V}) views id v w at, holds.sums.parts_are);
            };
          };
        },
        record { ticket = ticket; last = put_before key pushed kept.popped items views holds id v at; is = refl },
      )

  -- the front entry is taken
  pub takes : (id : ℕ) (v : View V) → 1 ≤ v.parts → Pops IsKept id v (Takes v)
  takes id v some_part x items views kept at =
      let key = kept.key in
      let popped = kept.popped in
      let holds = kept.holds in
      let mine = right key kept.pushed popped (x ∷ items) views holds id v at in
      let ticket = length popped in
      let w : View V = record v { taken = v.taken ++ with_ticket ticket x ∷ [] } in
      let told = knows key kept.pushed popped (x ∷ items) views holds id v at some_part in (
        w,
        record {
          key = key;
          pushed = kept.pushed;
          popped = popped ++ x ∷ [];
          holds = record {
            order = holds.order ∙ sym (append_assoc popped (x ∷ []) items);
            fits = holds.fits;
            right = All-set (IsRight key) views id w (record { keyed = mine.keyed; none_put = mine.none_put; none_taken = λ none. absurd (omega (arith, some_part, none)) }) holds.right;
            sums = record {
              put = λ weight. omega (arith, sum_by-set_view (has_put weight) views id v w at, holds.sums.put weight);
              taken = λ weight.
                  omega (
                    arith,
                    sum_by-set_view (has_taken weight) views id v w at,
                    sum_by_push weight v.taken (with_ticket ticket x),
                    weigh_push weight popped x,
                    holds.sums.taken weight,
                  );
              parts_are = omega (arith, sum_by-set_view (parts_of {V = V}) views id v w at, holds.sums.parts_are);
            };
          };
        },
        record {
          ticket = ticket;
          last = taken_before key kept.pushed popped (x ∷ items) views holds id v at;
          fits = All-head (Fits v.key) x items told.fits;
          is = refl;
        },
      )

  -- a call that changes nothing learns of the line
  pub learns : (id : ℕ) (v : View V) → 1 ≤ v.parts → Learns IsKept id v (Knows v)
  learns id v some_part items views kept at = knows kept.key kept.pushed kept.popped items views kept.holds id v at some_part

  -- one part goes to a new place
  pub forks : (id : ℕ) (v : View V) → 2 ≤ v.parts → Forks IsKept id v (one_part_less v) (one_part v)
  forks id v two_parts items views kept at =
      let key = kept.key in
      let holds = kept.holds in
      let mine = right key kept.pushed kept.popped items views holds id v at in
      let left = one_part_less v in
      let made = one_part v in
      record {
        key = key;
        pushed = kept.pushed;
        popped = kept.popped;
        holds = record {
          order = holds.order;
          fits = holds.fits;
          right = All-snoc (IsRight key) (set views id left) made
              (record { keyed = λ _. mine.keyed (omega (arith, two_parts)); none_put = λ _. refl; none_taken = λ _. refl })
              (All-set (IsRight key) views id left
              (record { keyed = λ _. mine.keyed (omega (arith, two_parts)); none_put = λ none. absurd (omega (arith, two_parts, none)); none_taken = λ none. absurd (omega (arith, two_parts, none)) })
              holds.right);
          sums = record {
            put = λ weight.
                omega (
                  arith,
                  sum_by-set_view (has_put weight) views id v left at,
                  sum_by-snoc (has_put weight) (set views id left) made,
                  holds.sums.put weight,
                );
            taken = λ weight.
                omega (
                  arith,
                  sum_by-set_view (has_taken weight) views id v left at,
                  sum_by-snoc (has_taken weight) (set views id left) made,
                  holds.sums.taken weight,
                );
            parts_are = omega (
              arith,
              sum_by-set_view (parts_of {V = V}) views id v left at,
              sum_by-snoc (parts_of {V = V}) (set views id left) made,
              holds.sums.parts_are,
              two_parts,
            );
          };
        };
      }

  -- the only place of a line that is for nothing yet comes to have every part of one that is for something
  pub opens : (id : ℕ) (v : View V) (key' : LineKey V) → v ≡ first_view → 1 ≤ key'.parts → Forks IsKept id v (opened key') spent_view
  opens id v key' first some_part items views kept at =
      let key = kept.key in
      let holds = kept.holds in
      let one : v.parts ≡ 1 = ap (λ (u : View V). u.parts) first in
      let mine = right key kept.pushed kept.popped items views holds id v at in
      let keyed : key ≡ no_key = sym (mine.keyed (omega (arith, one))) ∙ ap (λ (u : View V). u.key) first in
      let whole : v.parts ≡ key.parts = one ∙ sym (ap (λ (k : LineKey V). k.parts) keyed) in
      let no_put : kept.pushed ≡ [] =
      empty_by_weight kept.pushed (sym (puts_all key kept.pushed kept.popped items views holds id v at whole (λ (it : Numbered V). 1)) ∙ ap (λ (u : View V). sum_by (λ (it : Numbered V). 1) u.put) first)
      in
      let no_taken : kept.popped ≡ [] =
      empty_by_weight kept.popped (sym (takes_all key kept.pushed kept.popped items views holds id v at whole (λ (it : Numbered V). 1)) ∙ ap (λ (u : View V). sum_by (λ (it : Numbered V). 1) u.taken) first)
      in
      let now = opened key' in
      let others_are = others key kept.pushed kept.popped items views holds id v at in
      let others_rekeyed = rekeyed key key' others_are (others_right key kept.pushed kept.popped items views holds id v at) (partless key kept.pushed kept.popped items views holds id v at whole) in
      let all_right : All (IsRight key') (set views id now) =
      subst (All (IsRight key')) (set-set views id spent_view now) (All-set (IsRight key') others_are id now (record { keyed = λ _. refl; none_put = λ _. refl; none_taken = λ _. refl }) others_rekeyed)
      in
      record {
        key = key';
        pushed = [];
        popped = [];
        holds = record {
          order = sym (both_empty kept.popped items kept.pushed holds.order no_put);
          fits = All-nil (Fits key');
          right = All-snoc (IsRight key') (set views id now) spent_view (spent_right key') all_right;
          sums = record {
            put = λ weight.
                let mine_none : sum_by weight v.put ≡ 0 = ap (λ (u : View V). sum_by weight u.put) first in
                let all_none : sum_by weight (numbered 0 kept.pushed) ≡ 0 = ap (λ l. sum_by weight (numbered 0 l)) no_put in
                omega (
                  arith,
                  sum_by-set_view (has_put weight) views id v now at,
                  sum_by-snoc (has_put weight) (set views id now) spent_view,
                  holds.sums.put weight,
                  mine_none,
                  all_none,
                );
            taken = λ weight.
                let mine_none : sum_by weight v.taken ≡ 0 = ap (λ (u : View V). sum_by weight u.taken) first in
                let all_none : sum_by weight (numbered 0 kept.popped) ≡ 0 = ap (λ l. sum_by weight (numbered 0 l)) no_taken in
                omega (
                  arith,
                  sum_by-set_view (has_taken weight) views id v now at,
                  sum_by-snoc (has_taken weight) (set views id now) spent_view,
                  holds.sums.taken weight,
                  mine_none,
                  all_none,
                );
            parts_are = omega (
              arith,
              sum_by-set_view (parts_of {V = V}) views id v now at,
              sum_by-snoc (parts_of {V = V}) (set views id now) spent_view,
              holds.sums.parts_are,
              whole,
            );
          };
        };
      }

  -- a place takes another in
  pub merges : (id : ℕ) (v : View V) (other : ℕ) (w : View V) → 1 ≤ v.parts → 1 ≤ w.parts → Merges IsKept id v other w (absorbed v w) spent_view
  merges id v other w mine_some theirs_some items views kept at apart there =
      let key = kept.key in
      let holds = kept.holds in
      let mine = right key kept.pushed kept.popped items views holds id v at in
      let both = absorbed v w in
      let joined = set views id both in
      record {
        key = key;
        pushed = kept.pushed;
        popped = kept.popped;
        holds = record {
          order = holds.order;
          fits = holds.fits;
          right = All-set (IsRight key) joined other spent_view (spent_right key)
              (All-set (IsRight key) views id both
              (record { keyed = λ _. mine.keyed mine_some; none_put = λ none. absurd (omega (arith, mine_some, none)); none_taken = λ none. absurd (omega (arith, mine_some, none)) })
              holds.right);
          sums = record {
            put = λ weight.
                omega (
                  arith,
                  sum_by-set_view (has_put weight) views id v both at,
                  sum_by-set_view (has_put weight) joined other w spent_view there,
                  sum_by-append weight v.put w.put,
                  holds.sums.put weight,
                );
            taken = λ weight.
                omega (
                  arith,
                  sum_by-set_view (has_taken weight) views id v both at,
                  sum_by-set_view (has_taken weight) joined other w spent_view there,
                  sum_by-append weight v.taken w.taken,
                  holds.sums.taken weight,
                );
            parts_are = omega (
              arith,
              sum_by-set_view (parts_of {V = V}) views id v both at,
              sum_by-set_view (parts_of {V = V}) joined other w spent_view there,
              holds.sums.parts_are,
            );
          };
        };
      }

  -- a line begins with nothing, and one place
  pub begins : IsKept [] (first_view {V = V} ∷ [])
  begins = record {
    key = no_key;
    pushed = [];
    popped = [];
    holds = record {
      order = refl;
      fits = All-nil (Fits no_key);
      right = All-cons (IsRight no_key) first_view [] (record { keyed = λ _. refl; none_put = λ _. refl; none_taken = λ _. refl }) (All-nil (IsRight no_key));
      sums = record { put = λ weight. refl; taken = λ weight. refl; parts_are = refl };
    };
  }
