-- One member more of a run.
use Rattle.std.proofs.Common.{◌≡◌, ℕ, ◌+◌, ◌<◌, ◌≤◌, List, [], ◌∷◌, ◌++◌, length, get_or, take, inl, inr, refl, sym, ap, subst, ◌∙◌, arith, append_assoc}
use Rattle.std.specs.Prelude.{◌≢◌, Option, None, Some, Err}
use Rattle.std.specs.List.{cons_option, filter_map, range_with_len}
use Rattle.std.specs.Option.{option_to_list}
use Rattle.std.proofs.lemmas.List.{get_or_default, take_more}
use Rattle.std.proofs.lemmas.List.Elements.{All-more, filter_map-append}
use Rattle.qtc_ops.specs.ItemValue.{ItemValue, bad}
use Rattle.qtc_inplace.proofs.CallLemmas.{range-append, range-ascends}
use Rattle.qtc_inplace.specs.Inside.{Ascends, CallsInTurn, CallsOne, TakesOne, taken_of, TellsBadFrom}
use Rattle.qtc_inplace.specs.Lists.{IsLeastBad, NoneBad, text_of}
use Rattle.qtc_inplace.specs.declared.faults.InPlaceFault.{InPlaceFault}
use Rattle.qtc_inplace.specs.declared.faults.InPlaceFault.TheVariants.{Bad, Memory}

-- ---- what is taken

module _ {T : Type 0} (taken : List ℕ → Option (List ℕ) → Option T) (value : List ℕ → ItemValue) where
  as-list : (o : Option T) → cons_option o [] ≡ option_to_list o
  as-list None = refl
  as-list (Some it) = refl

  pub taken-more : (members : List (List ℕ)) (k : ℕ) (member : List ℕ) (old new : List T) → k < length members → member ≡ get_or members k member
      → old ≡ taken_of taken value (take k members) → new ≡ old ++ option_to_list (taken member (text_of (value member))) → new ≡ taken_of taken value (take (k + 1) members)
  taken-more members k member old new within at was is =
      let pick = λ (m : List ℕ). taken m (text_of (value m)) in
      let more : take (k + 1) members ≡ take k members ++ member ∷ [] = take_more members k member within ∙ ap (λ m. take k members ++ m ∷ []) (sym at) in
      is ∙ ap (λ xs. xs ++ option_to_list (pick member)) was ∙ ap (λ xs. taken_of taken value (take k members) ++ xs) (sym (as-list (pick member))) ∙ sym (filter_map-append pick (take k members) (member ∷ [])) ∙ ap (filter_map pick) (sym more)

-- ---- bad members

module _ (value : List ℕ → ItemValue) where
  pub none-more : (members : List (List ℕ)) (k : ℕ) (member : List ℕ) → k < length members → member ≡ get_or members k member
      → NoneBad value (take k members) → value member ≢ bad → NoneBad value (take (k + 1) members)
  none-more members k member within at none good =
      let P : List ℕ → Type 0 = λ m. value m ≢ bad in
      All-more P members k member within none (subst P at good)

  pub least-at : (members : List (List ℕ)) (k : ℕ) (member : List ℕ) → k < length members → member ≡ get_or members k member
      → NoneBad value (take k members) → value member ≡ bad → IsLeastBad value members k
  least-at members k member within at none is = record {
    within = within;
    is = ap value (get_or_default members k [] member within ∙ sym at) ∙ is;
    least = none;
  }

  pub refused-tells : {T : Type 0} (X : Type 0) (taken : List ℕ → Option (List ℕ) → Option T) (same : List ℕ → ItemValue) (members : List (List ℕ)) (first k : ℕ) (member : List ℕ) (old new : List T) (fault : InPlaceFault)
      → k < length members → member ≡ get_or members k member → NoneBad value (take k members) → same ≡ value
      → TakesOne taken (same member) (first + k) member old new (Err fault) → TellsBadFrom {X = X} first value members (Err fault)
  refused-tells X taken same members first k member old new (Bad at) within is none e h =
      (k, h.0, least-at members k member within is none (ap (λ f. f member) (sym e) ∙ h.1))
  refused-tells X taken same members first k member old new Memory within is none e h = tt

-- ---- calls

pub range-more : (first k : ℕ) → range_with_len first (k + 1) ≡ range_with_len first k ++ (first + k) ∷ []
range-more first k = range-append first k 1

pub ascends-wider : (low high higher : ℕ) (xs : List ℕ) → Ascends low xs high → high ≤ higher → Ascends low xs higher
ascends-wider low high higher [] h le = omega (arith, h)
ascends-wider low high higher (x ∷ xs) h le = (h.0, omega (arith, h.1), ascends-wider (x + 1) high higher xs h.2 le)

pub called-more : (first k : ℕ) (before between after : List ℕ) → between ≡ before ++ range_with_len first k → after ≡ between ++ (first + k) ∷ []
    → after ≡ before ++ range_with_len first (k + 1)
called-more first k before between after was is =
    is ∙ ap (λ xs. xs ++ (first + k) ∷ []) was ∙ append_assoc before (range_with_len first k) ((first + k) ∷ []) ∙ ap (λ xs. before ++ xs) (sym (range-more first k))

called-front : {X : Type 0} (first k n : ℕ) (before after : List ℕ) (fault : InPlaceFault) → k ≤ n → after ≡ before ++ range_with_len first k → CallsInTurn {X = X} first n before after (Err fault)
called-front first k n before after fault within is = record {
  added = range_with_len first k;
  appended = is;
  called = ascends-wider first (first + k) (first + n) (range_with_len first k) (range-ascends first k) (omega arith);
}

pub refused-calls : {X : Type 0} (first k n : ℕ) (before between after : List ℕ) (fault : InPlaceFault) → k < n
    → between ≡ before ++ range_with_len first k → CallsOne between (first + k) after (Err fault) → CallsInTurn {X = X} first n before after (Err fault)
refused-calls first k n before between after (Bad at) within was is = called-front first (k + 1) n before after (Bad at) (omega arith) (called-more first k before between after was is)
refused-calls first k n before between after Memory within was (inl same) = called-front first k n before after Memory (omega arith) (same ∙ was)
refused-calls first k n before between after Memory within was (inr is) = called-front first (k + 1) n before after Memory (omega arith) (called-more first k before between after was is)
