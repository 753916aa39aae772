-- Members that are kept by their verdicts.
use Rattle.std.proofs.Common.{◌≡◌, ℕ, zero, suc, ◌+◌, ◌<◌, ◌≤◌, Bool, true, false, cond, List, [], ◌∷◌, ◌++◌, length, get_or, set, take, drop, inl, inr, refl, sym, ap, ◌∙◌, arith, append-nil}
use Rattle.std.specs.List.{swap}
use Rattle.std.proofs.lemmas.Bool.{cases_lt}
use Rattle.std.proofs.lemmas.Grind.{drop_more_same}
use Rattle.std.proofs.lemmas.List.{drop-set-lt, drop_more, take-set, take-set-le, take_more_set}
use Rattle.std.proofs.lemmas.List.Edits.{swap_is}
use Rattle.std.proofs.Math.ListN.{length-set}
use Rattle.rayon.specs.Lists.{filter_by_mask}

module _ {X : Type 0} where
  mask-suc : (i : ℕ) (xs : List X) (bs : List Bool) (d : X) (e : Bool) → i < length xs → i < length bs
      → filter_by_mask (take (suc i) xs) (take (suc i) bs) ≡ filter_by_mask (take i xs) (take i bs) ++ cond (get_or bs i e) (get_or xs i d ∷ []) []
  mask-suc i [] bs d e l m = absurd (omega arith)
  mask-suc i (x ∷ xs) [] d e l m = absurd (omega arith)
  mask-suc zero (x ∷ xs) (true ∷ bs) d e l m = refl
  mask-suc zero (x ∷ xs) (false ∷ bs) d e l m = refl
  mask-suc (suc i) (x ∷ xs) (true ∷ bs) d e l m = ap (λ ys. x ∷ ys) (mask-suc i xs bs d e (omega arith) (omega arith))
  mask-suc (suc i) (x ∷ xs) (false ∷ bs) d e l m = mask-suc i xs bs d e (omega arith) (omega arith)

  mask-more : (i : ℕ) (xs : List X) (bs : List Bool) (d : X) (e : Bool) → i < length xs → i < length bs
      → filter_by_mask (take (i + 1) xs) (take (i + 1) bs) ≡ filter_by_mask (take i xs) (take i bs) ++ cond (get_or bs i e) (get_or xs i d ∷ []) []
  mask-more i xs bs d e l m =
      let n : i + 1 ≡ suc i = omega arith in
      ap (λ k. filter_by_mask (take k xs) (take k bs)) n ∙ mask-suc i xs bs d e l m

  swap-front : (xs : List X) (k i : ℕ) (d : X) → k ≤ i → i < length xs → take (k + 1) (swap xs k i) ≡ take k xs ++ get_or xs i d ∷ []
  swap-front xs k i d le within =
      let a = get_or xs i d in
      let b = get_or xs k d in
      let low : k < length xs = omega arith in
      let is = swap_is xs k i d low within in
      ap (take (k + 1)) (sym is) ∙ elim (cases_lt k i) [
        | inl lt ↦ take-set-le (k + 1) (set xs k a) i b (omega arith) ∙ take_more_set xs k a low
        | inr ge ↦
            let same : i ≡ k = omega arith in
            let long : length (set xs k a) ≡ length xs = length-set xs k a in
            ap (λ n. take (k + 1) (set (set xs k a) n b)) same
            ∙ take_more_set (set xs k a) k b (omega arith)
            ∙ (λ p. take-set xs k a p ++ get_or xs (sym same p) d ∷ [])
      ]

  swap-back : (xs : List X) (k i : ℕ) (d : X) → k ≤ i → i < length xs → drop (i + 1) (swap xs k i) ≡ drop (i + 1) xs
  swap-back xs k i d le within =
      let a = get_or xs i d in
      let b = get_or xs k d in
      let low : k < length xs = omega arith in
      ap (drop (i + 1)) (sym (swap_is xs k i d low within))
      ∙ drop-set-lt (i + 1) (set xs k a) i b (omega arith)
      ∙ drop-set-lt (i + 1) xs k a (omega arith)

  same-at : (xs ys : List X) (i : ℕ) (d : X) → i < length xs → i < length ys → drop i xs ≡ drop i ys → get_or xs i d ≡ get_or ys i d
  same-at xs ys i d l m e =
      let a = drop_more xs i d l in
      let b = drop_more ys i d m in
      cc

  -- a member that stays goes behind those that are kept
  pub front-stays : (old now : List X) (verdicts : List Bool) (k i : ℕ) (d : X) (e : Bool) → k ≤ i → i < length now → length now ≡ length old → i < length verdicts
      → take k now ≡ filter_by_mask (take i old) (take i verdicts) → drop i now ≡ drop i old → get_or verdicts i e ≡ true
      → take (k + 1) (swap now k i) ≡ filter_by_mask (take (i + 1) old) (take (i + 1) verdicts)
  front-stays old now verdicts k i d e le within len few front back is =
      let at : get_or now i d ≡ get_or old i d = same-at now old i d within (omega arith) back in
      let more = mask-more i old verdicts d e (omega arith) few in
      swap-front now k i d le within
      ∙ (λ p. front p ++ at p ∷ [])
      ∙ (λ p. filter_by_mask (take i old) (take i verdicts) ++ cond (sym is p) (get_or old i d ∷ []) [])
      ∙ sym more

  pub back-stays : (old now : List X) (k i : ℕ) (d : X) → k ≤ i → i < length now → drop i now ≡ drop i old → drop (i + 1) (swap now k i) ≡ drop (i + 1) old
  back-stays old now k i d le within back = swap-back now k i d le within ∙ drop_more_same now old i back

  pub front-goes : (old now : List X) (verdicts : List Bool) (k i : ℕ) (d : X) (e : Bool) → i < length old → i < length verdicts
      → take k now ≡ filter_by_mask (take i old) (take i verdicts) → get_or verdicts i e ≡ false
      → take k now ≡ filter_by_mask (take (i + 1) old) (take (i + 1) verdicts)
  front-goes old now verdicts k i d e within few front is =
      let kept = filter_by_mask (take i old) (take i verdicts) in
      front ∙ sym (append-nil kept)
      ∙ (λ p. kept ++ cond (sym is p) (get_or old i d ∷ []) [])
      ∙ sym (mask-more i old verdicts d e within few)
