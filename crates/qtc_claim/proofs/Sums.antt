-- Sums over views, and the numbers that ranges cover.
use Rattle.std.proofs.Common.{◌≡◌, ℕ, zero, suc, ◌+◌, ◌-◌, ◌<◌, ◌≤◌, ◌==◌, cond, nat_lt, Bool, true, false, List, [], ◌∷◌, ◌++◌, length, map, sym, refl, ap, ◌∙◌, subst, arith, sum_by, slice_get, Some}
use Rattle.std.proofs.lemmas.Bool.Decides.{nat_tests}
use Rattle.std.proofs.lemmas.List.Sums.{sum_by-cons, sum_by-append}
use native.Mathlib.Decide.{dec_lt}
use Rattle.std.specs.List.{flat_map}
use Rattle.qtc_claim.specs.declared.rule.View.{View}
use Rattle.qtc_base.specs.Ranges.{in_range, times_covered, Tiles}
use Rattle.qtc_claim.specs.Claims.{Addition, Worker, raw, clipped, gave, claims_of, MeetNowhere}
use Rattle.qtc_claim.specs.Rule.{covers, covering, blank}

pub covers_none : (number begin : ℕ) → covers number begin 0 ≡ 0
covers_none number begin = grind (arith, nat_tests)

pub covers_one : (number begin size : ℕ) → covers number begin size ≤ 1
covers_one number begin size = grind (arith, nat_tests)

-- the numbers below `end`, and `more` from there on
pub covers_on : (number end more : ℕ) → covers number 0 end + covers number end more ≡ covers number 0 (end + more)
covers_on number end more = grind (arith, nat_tests)

-- the first number of a range, and the others
pub covers_first : (number begin size : ℕ) → 0 < size → covers number (begin + 1) (size - 1) + cond (begin == number) 1 0 ≡ covers number begin size
covers_first number begin size some_left = grind (arith, nat_tests)

module _ {X : Type 0} where
  -- where a sum is 0, so is one whose terms are 0 with its own
  pub sum_by_nothing : (f g : X → ℕ) (xs : List X) → ((x : X) → g x ≡ 0 → f x ≡ 0) → sum_by g xs ≡ 0 → sum_by f xs ≡ 0
  sum_by_nothing f g [] both none = refl
  sum_by_nothing f g (x ∷ xs) both none =
      let g_parts : g x + sum_by g xs ≡ 0 = sym (sum_by-cons g x xs) ∙ none in
      let head : f x ≡ 0 = both x (omega arith) in
      let rest : sum_by f xs ≡ 0 = sum_by_nothing f g xs both (omega arith) in
      sum_by-cons f x xs ∙ omega arith

  pub sum_by_none : (f : X → ℕ) (xs : List X) → ((x : X) → f x ≡ 0) → sum_by f xs ≡ 0
  sum_by_none f [] none = refl
  sum_by_none f (x ∷ xs) none =
      let rest = sum_by_none f xs none in
      let one = none x in
      sum_by-cons f x xs ∙ omega arith

  -- a sum of two terms each is two sums
  pub sum_by_both : (f g : X → ℕ) (xs : List X) → sum_by (λ x. f x + g x) xs ≡ sum_by f xs + sum_by g xs
  sum_by_both f g [] = refl
  sum_by_both f g (x ∷ xs) =
      let rest = sum_by_both f g xs in
      sum_by-cons (λ y. f y + g y) x xs ∙ omega (arith, rest, sum_by-cons f x xs, sum_by-cons g x xs)

-- how often ranges cover a number
module _ (number : ℕ) where
  pub times_raw : (additions : List Addition) → times_covered (map raw additions) number ≡ sum_by (covering number) additions
  times_raw [] = refl
  times_raw (addition ∷ additions) =
      let rest = times_raw additions in
      sum_by-cons (λ (range : ℕ × ℕ). cond (in_range number range) 1 0) (raw addition) (map raw additions)
      ∙ ap (λ k. covering number addition + k) rest
      ∙ sym (sum_by-cons (covering number) addition additions)

  clips_below : (n : ℕ) (addition : Addition) → number < n → cond {A = ℕ} (in_range number (clipped n addition)) 1 0 ≡ covering number addition
  clips_below n addition below = grind (arith, nat_tests)

  clips_past : (n : ℕ) (addition : Addition) → n ≤ number → cond {A = ℕ} (in_range number (clipped n addition)) 1 0 ≡ 0
  clips_past n addition past = grind (arith, nat_tests)

  pub times_below : (n : ℕ) (additions : List Addition) → number < n → times_covered (map (clipped n) additions) number ≡ sum_by (covering number) additions
  times_below n [] below = refl
  times_below n (addition ∷ additions) below =
      let rest = times_below n additions below in
      let one = clips_below n addition below in
      sum_by-cons (λ (range : ℕ × ℕ). cond (in_range number range) 1 0) (clipped n addition) (map (clipped n) additions)
      ∙ omega arith
      ∙ sym (sum_by-cons (covering number) addition additions)

  pub times_past : (n : ℕ) (additions : List Addition) → n ≤ number → times_covered (map (clipped n) additions) number ≡ 0
  times_past n [] past = refl
  times_past n (addition ∷ additions) past =
      let rest = times_past n additions past in
      let one = clips_past n addition past in
      sum_by-cons (λ (range : ℕ × ℕ). cond (in_range number range) 1 0) (clipped n addition) (map (clipped n) additions) ∙ omega arith

-- what the workers claimed, worker by worker
pub of_claims : (weight : Addition → ℕ) (workers : List Worker) → sum_by weight (claims_of workers) ≡ sum_by (λ (worker : Worker). sum_by weight worker.claims) workers
of_claims weight [] = refl
of_claims weight (worker ∷ workers) =
    let rest = of_claims weight workers in
    sum_by-append weight worker.claims (claims_of workers)
    ∙ omega arith
    ∙ sym (sum_by-cons (λ (it : Worker). sum_by weight it.claims) worker workers)

-- what the views hold, view by view
pub of_held : (weight : Addition → ℕ) (views : List View) → sum_by weight (flat_map (λ (view : View). view.held) views) ≡ sum_by (λ (view : View). sum_by weight view.held) views
of_held weight [] = refl
of_held weight (view ∷ views) =
    let rest = of_held weight views in
    sum_by-append weight view.held (flat_map (λ (it : View). it.held) views)
    ∙ omega arith
    ∙ sym (sum_by-cons (λ (it : View). sum_by weight it.held) view views)

-- those that gave a piece, and those that gave none
sum_chosen : (b : Bool) (weight : Addition → ℕ) (addition : Addition) (others : List Addition) → sum_by weight (cond b (addition ∷ others) others) ≡ cond b (weight addition) 0 + sum_by weight others
sum_chosen true weight addition others = sum_by-cons weight addition others
sum_chosen false weight addition others = omega arith

pub gave_and_blank : (n : ℕ) (weight : Addition → ℕ) (additions : List Addition) → sum_by weight (gave n additions) + sum_by (blank n weight) additions ≡ sum_by weight additions
gave_and_blank n weight [] = refl
gave_and_blank n weight (addition ∷ additions) =
    let rest = gave_and_blank n weight additions in
    let one : cond (nat_lt addition.begin n) (weight addition) 0 + blank n weight addition ≡ weight addition = grind (arith, nat_tests) in
    let here = sum_chosen (nat_lt addition.begin n) weight addition (gave n additions) in
    omega (arith, rest, one, here, sum_by-cons weight addition additions, sum_by-cons (blank n weight) addition additions)

pub apart_from : (n : ℕ) (additions : List Addition) → ((number : ℕ) → sum_by (covering number) additions ≤ 1) → MeetNowhere n additions
apart_from n additions apart = record {
  once = λ number. subst (λ k. k ≤ 1) (sym (times_raw number additions)) (apart number);
  once_below = λ number. below number (dec_lt number n);
}
  where
    below : (number : ℕ) → Dec (number < n) → times_covered (map (clipped n) additions) number ≤ 1
    below number (yes b) = subst (λ k. k ≤ 1) (sym (times_below number n additions b)) (apart number)
    below number (no p) = let none = times_past number n additions (omega arith) in omega arith

pub covers_upto : (number end : ℕ) → covers number 0 end ≡ cond (nat_lt number end) 1 0
covers_upto number end = grind (arith, nat_tests)

-- an addition that began past n covers no number below n
pub blank_below : (n number : ℕ) (addition : Addition) → number < n → blank n (covering number) addition ≡ 0
blank_below n number addition below = grind (arith, nat_tests)

pub covers_below : (number end : ℕ) → number < end → covers number 0 end ≡ 1
covers_below number end below = grind (arith, nat_tests)

-- where each number below the counter is covered, and that is n or more
pub tiles_from : (n count : ℕ) (additions : List Addition) → n ≤ count → ((number : ℕ) → number < n → sum_by (covering number) additions ≡ covers number 0 count) → Tiles (map (clipped n) additions) n
tiles_from n count additions far each = record {
  once = λ number below. let whole : covers number 0 count ≡ 1 = covers_below number count (omega arith) in times_below number n additions below ∙ each number below ∙ whole;
  none = λ number past. times_past number n additions past;
}

-- each place of a list has what is meant for it, also of one that was put last
pub pushed_each : {X : Type 0} (f : ℕ → X) (xs : List X) (x : X) → ((i : ℕ) → i < length xs → slice_get xs i ≡ Some (f i)) → x ≡ f (length xs)
    → (i : ℕ) → i < length xs + 1 → slice_get (xs ++ x ∷ []) i ≡ Some (f i)
pushed_each f [] x each is zero within = ap Some is
pushed_each f [] x each is (suc i) within = absurd (omega arith)
pushed_each f (y ∷ ys) x each is zero within = each 0 (omega arith)
pushed_each f (y ∷ ys) x each is (suc i) within = pushed_each (λ n. f (suc n)) ys x (λ n below. each (suc n) (omega arith)) is i (omega arith)
