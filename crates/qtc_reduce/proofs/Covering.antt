-- Which numbers ranges have.
use Rattle.std.proofs.Common.{◌≡◌, ℕ, ◌+◌, ◌<◌, ◌≤◌, Bool, true, false, ◌&&◌, cond, List, [], ◌∷◌, ◌++◌, ap, ◌∙◌, refl, arith, ltb, le-leb, lt-ltb, leb-true, ltb-true}
use Rattle.std.proofs.lemmas.Bool.{and_parts, false_from_ne_true, ltb-false}
use Rattle.std.proofs.lemmas.List.Sums.{sum_by-append, sum_by-cons}
use Rattle.qtc_base.specs.Ranges.{Tiles, in_range, times_covered}

pub covered-cons : (range : ℕ × ℕ) (ranges : List (ℕ × ℕ)) (number : ℕ)
    → times_covered (range ∷ ranges) number ≡ cond (in_range number range) 1 0 + times_covered ranges number
covered-cons range ranges number = sum_by-cons (λ r. cond (in_range number r) 1 0) range ranges

pub covered-append : (ranges more : List (ℕ × ℕ)) (number : ℕ)
    → times_covered (ranges ++ more) number ≡ times_covered ranges number + times_covered more number
covered-append ranges more number = sum_by-append (λ r. cond (in_range number r) 1 0) ranges more

pub within : (number : ℕ) (range : ℕ × ℕ) → range.0 ≤ number → number < range.1 → in_range number range ≡ true
within number range low high =
    ap (λ b. b && ltb number range.1) (le-leb range.0 number low) ∙ lt-ltb number range.1 high

pub of_within : (number : ℕ) (range : ℕ × ℕ) → in_range number range ≡ true → (range.0 ≤ number) × (number < range.1)
of_within number range e =
    let both = and_parts _ _ e in (leb-true range.0 number both.0, ltb-true number range.1 both.1)

pub outside : (number : ℕ) (range : ℕ × ℕ) → ((range.0 ≤ number) → (number < range.1) → ⊥) → in_range number range ≡ false
outside number range out =
    false_from_ne_true _ (λ e. let both = of_within number range e in out both.0 both.1)

-- one range more that begins where what is tiled ends
module _ (ranges : List (ℕ × ℕ)) (middle end : ℕ) (up : middle ≤ end) (tiles : Tiles ranges middle) where
  together : (number : ℕ) → times_covered (ranges ++ (middle, end) ∷ []) number
      ≡ times_covered ranges number + cond (in_range number (middle, end)) 1 0
  together number =
      let all = covered-append ranges ((middle, end) ∷ []) number in
      let last = covered-cons (middle, end) [] number in
      omega (arith, all, last)

  pub tiles-more : Tiles (ranges ++ (middle, end) ∷ []) end
  tiles-more = record {
    once = λ number low. by number low (ltb number middle) refl;
    none = λ number high.
        let is = outside number (middle, end) (λ a b. omega (arith, b, high)) in
        let all = together number in
        let before = tiles.none number (omega (arith, high, up)) in
        let last : cond (in_range number (middle, end)) 1 0 ≡ 0 + 0 = ap (λ b. cond b 1 0) is in
        omega (arith, all, before, last);
  }
    where
      by : (number : ℕ) → number < end → (b : Bool) → ltb number middle ≡ b → times_covered (ranges ++ (middle, end) ∷ []) number ≡ 1
      by number low true e =
          let less = ltb-true number middle e in
          let is = outside number (middle, end) (λ a b. omega (arith, a, less)) in
          let all = together number in
          let before = tiles.once number less in
          let last : cond (in_range number (middle, end)) 1 0 ≡ 0 + 0 = ap (λ b. cond b 1 0) is in
          omega (arith, all, before, last)
      by number low false e =
          let from = ltb-false number middle e in
          let is = within number (middle, end) from low in
          let all = together number in
          let before = tiles.none number from in
          let last : cond (in_range number (middle, end)) 1 0 ≡ 1 + 0 = ap (λ b. cond b 1 0) is in
          omega (arith, all, before, last)
