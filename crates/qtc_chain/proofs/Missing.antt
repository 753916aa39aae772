-- How many have not arrived, and whether all have.
use Rattle.std.proofs.Common.{◌≡◌, ℕ, zero, suc, ◌+◌, ◌<◌, true, List, [], ◌∷◌, Option, Some, None, is_none, is_some, IsSome, ◌-◌, length, get_or, set, sym, subst, ap, refl, arith, cond, count_by}
use Rattle.std.proofs.lemmas.List.Sums.{sum_by-cons, sum_by-set}
use Rattle.qtc_chain.specs.declared.all_state.AllArrive.{AllArrive}
use Rattle.qtc_chain.specs.declared.all_state.AllArrive.TheVariants.{Waiting, Last, Again}
use Rattle.qtc_chain.specs.Arrivals.{HasArrived, HaveAllArrived, IsArrived}

no_some : (T : Type 0) → is_some {T = T} None ≡ true → ⊥
no_some T e = cc

module _ {T : Type 0} where
  missing-cons : (slot : Option T) (slots : List (Option T)) → count_by is_none (slot ∷ slots) ≡ cond (is_none slot) 1 0 + count_by is_none slots
  missing-cons slot slots = sum_by-cons (λ s. cond (is_none s) 1 0) slot slots

  pub none_missing : (slots : List (Option T)) → count_by is_none slots ≡ 0 → HaveAllArrived slots
  none_missing [] e k d lt = absurd (omega arith)
  none_missing (None ∷ slots) e k d lt = let cons = missing-cons None slots in absurd (omega arith)
  none_missing (Some x ∷ slots) e zero d lt = refl
  none_missing (Some x ∷ slots) e (suc k) d lt =
      let cons = missing-cons (Some x) slots in none_missing slots (omega arith) k d (omega arith)

  pub all_there : (slots : List (Option T)) → HaveAllArrived slots → count_by is_none slots ≡ 0
  all_there [] all = refl
  all_there (None ∷ slots) all = absurd (no_some T (all 0 None (omega arith)))
  all_there (Some x ∷ slots) all =
      let rest = all_there slots (λ k d lt. all (suc k) d (omega arith)) in
      let cons = missing-cons (Some x) slots in omega arith

  -- one arrives where none had: one less is missing
  pub one_less : (slots : List (Option T)) (index : ℕ) (value : T) → index < length slots → get_or slots index None ≡ None
      → count_by is_none (set slots index (Some value)) + 1 ≡ count_by is_none slots
  one_less slots index value lt none =
      let one : ℕ = 1 in
      let was : cond (is_none (get_or slots index None)) 1 0 ≡ one = ap (λ s. cond (is_none s) 1 0) none in
      let moved = sum_by-set (λ (s : Option T). cond (is_none s) 1 0) slots index (Some value) None lt in
      omega (arith, was, moved)

  pub arrives_last : (old : List (Option T)) (index : ℕ) (value : T) → get_or old index None ≡ None
      → HaveAllArrived (set old index (Some value))
      → IsArrived index value old (set old index (Some value)) Last
  arrives_last old index value none all =
      let new_here : HasArrived index old → ⊥ = λ here. no_some T (subst IsSome none here) in
      record {
        again = ((λ e. cc), (λ here. absurd (new_here here)));
        last = ((λ e. (new_here, all)), (λ h. refl));
        waits = ((λ e. cc), (λ h. absurd (h.1 all)));
        same = λ here. absurd (new_here here);
        stored = λ _. refl;
      }

  pub arrives_waiting : (old : List (Option T)) (index : ℕ) (value : T) → get_or old index None ≡ None
      → (HaveAllArrived (set old index (Some value)) → ⊥)
      → IsArrived index value old (set old index (Some value)) Waiting
  arrives_waiting old index value none some =
      let new_here : HasArrived index old → ⊥ = λ here. no_some T (subst IsSome none here) in
      record {
        again = ((λ e. cc), (λ here. absurd (new_here here)));
        last = ((λ e. cc), (λ h. absurd (some h.1)));
        waits = ((λ e. (new_here, some)), (λ h. refl));
        same = λ here. absurd (new_here here);
        stored = λ _. refl;
      }

  pub arrives_again : (old : List (Option T)) (index : ℕ) (value : T) → HasArrived index old
      → IsArrived index value old old (Again value)
  arrives_again old index value here = record {
    again = ((λ e. here), (λ h. refl));
    last = ((λ e. cc), (λ h. absurd (h.0 here)));
    waits = ((λ e. cc), (λ h. absurd (h.0 here)));
    same = λ _. refl;
    stored = λ h. absurd (h here);
  }

  -- one less is missing than before: where none is then, it was the last
  pub arrives : (old items : List (Option T)) (index : ℕ) (value : T) (slot : Option T) (missing : ℕ)
      → old ≡ items → slot ≡ Some value → index < length items → get_or items index None ≡ None → missing ≡ count_by is_none items
      → ((missing - 1 ≡ 0) → IsArrived index value old (set items index slot) Last)
      × ((missing - 1 ≡ 0 → ⊥) → IsArrived index value old (set items index slot) Waiting)
  arrives old items index value slot missing view stored below none count =
      let less = one_less items index value below none in
      let at : (answer : AllArrive T) → IsArrived index value items (set items index (Some value)) answer
      → IsArrived index value old (set items index slot) answer =
      λ answer is. subst (λ o. IsArrived index value o (set items index slot) answer) (sym view)
      (subst (λ s. IsArrived index value items (set items index s) answer) (sym stored) is) in (
        (λ zero. at Last (arrives_last items index value none (none_missing _ (omega arith)))),
        (λ some. at Waiting (arrives_waiting items index value none (λ all. some (let e = all_there _ all in omega arith)))),
      )
