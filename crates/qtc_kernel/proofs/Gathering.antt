-- The law of claims and reports.
use Rattle.std.proofs.Common.{◌≡◌, ℕ, zero, suc, ◌<◌, ◌≤◌, Bool, true, false, cond, nat_lt, nat_le, List, [], ◌∷◌, ◌++◌, All, map, refl, ap, arith, sum_by}
use Rattle.std.specs.Prelude.{Contains}
use Rattle.std.proofs.lemmas.Bool.Decides.{nat_tests}
use Rattle.std.proofs.lemmas.List.Sums.{sum_by-cons}
use Rattle.std.proofs.lemmas.List.Elements.{All-cons, All-head, All-nil, All-tail, All-contains, All-map}
use native.Mathlib.Decide.{dec_lt}
use Rattle.qtc_base.specs.Ranges.{in_range, times_covered}
use Rattle.qtc_claim.specs.Claims.{Addition, Worker, added, claims_of, clipped, gave}
use Rattle.qtc_claim.specs.Counter.{TallyState, IsGathered, KnowsClaims, added_by}
use Rattle.qtc_claim.specs.Rule.{blank, covers, covering}
use Rattle.qtc_claim.proofs.Sums.{blank_below, gave_and_blank, sum_by_none, times_below, times_past}
use Rattle.qtc_kernel.specs.Gathering.{AreOfPieces, IsClaimed, NoneIsMissing, ReportsMeetClaims, gathered_ranges}

-- ---- lists

pub all_left : {X : Type 0} (P : X → Type 0) (xs ys : List X) → All P (xs ++ ys) → All P xs
all_left P [] ys all = All-nil P
all_left P (x ∷ xs) ys all = All-cons P x xs (All-head P x (xs ++ ys) all) (all_left P xs ys (All-tail P x (xs ++ ys) all))

-- ---- ranges among ranges

-- a range that stands in a list counts there
pub contained_covers : (number : ℕ) (ranges : List (ℕ × ℕ)) (range : ℕ × ℕ) → Contains ranges range → cond {A = ℕ} (in_range number range) 1 0 ≤ times_covered ranges number
contained_covers number [] range there = absurd (let within = there.1 in omega arith)
contained_covers number (first ∷ ranges) range (zero, within, is) =
    let counts = sum_by-cons (λ (it : ℕ × ℕ). cond (in_range number it) 1 0) first ranges in
    let same : cond {A = ℕ} (in_range number first) 1 0 ≡ cond (in_range number range) 1 0 = ap (λ (it : ℕ × ℕ). cond {A = ℕ} (in_range number it) 1 0) is in
    omega arith
contained_covers number (first ∷ ranges) range (suc k, within, is) =
    let counts = sum_by-cons (λ (it : ℕ × ℕ). cond (in_range number it) 1 0) first ranges in
    let rest = contained_covers number ranges range (k, omega arith, is) in
    omega arith

-- where each of these stands in another list, that covers what they cover
pub among_cover : (number : ℕ) (ranges others : List (ℕ × ℕ)) → All (Contains others) ranges → 1 ≤ times_covered ranges number → 1 ≤ times_covered others number
among_cover number [] others among some = absurd (omega arith)
among_cover number (range ∷ ranges) others among some =
    by (dec_lt 0 (times_covered ranges number)) (among_cover number ranges others (All-tail (Contains others) range ranges among))
  where
    by : Dec (0 < times_covered ranges number) → (1 ≤ times_covered ranges number → 1 ≤ times_covered others number) → 1 ≤ times_covered others number
    by (yes more) rest = rest more
    by (no none) rest =
        let counts = sum_by-cons (λ (it : ℕ × ℕ). cond (in_range number it) 1 0) range ranges in
        let one = contained_covers number others range (All-head (Contains others) range ranges among) in
        omega arith

-- ---- what is out

-- 1 where the addition began at n or past it
abbrev past : ℕ → Addition → ℕ
past n addition = cond (nat_le n addition.begin) 1 0

-- those that gave a piece began below n
none_past : (n : ℕ) (additions : List Addition) → sum_by (past n) (gave n additions) ≡ 0
none_past n [] = refl
none_past n (addition ∷ additions) = by (nat_lt addition.begin n) refl (none_past n additions)
  where
    below : (m k : ℕ) → nat_lt k m ≡ true → cond {A = ℕ} (nat_le m k) 1 0 ≡ 0
    below m k e = grind (arith, nat_tests)

    by : (b : Bool) → nat_lt addition.begin n ≡ b → sum_by (past n) (gave n additions) ≡ 0 → sum_by (past n) (cond b (addition ∷ gave n additions) (gave n additions)) ≡ 0
    by true is rest =
        let counts = sum_by-cons (past n) addition (gave n additions) in
        let here : past n addition ≡ 0 = below n addition.begin is in
        omega arith
    by false is rest = rest

-- what began below n, and covers no number below n, has no size
nothing_left : (n : ℕ) (out : List Addition) → sum_by (past n) out ≡ 0 → ((number : ℕ) → number < n → sum_by (covering number) out ≡ 0) → added out ≡ 0
nothing_left n [] began covers_none = refl
nothing_left n (addition ∷ out) began covers_none =
    let pasts = sum_by-cons (past n) addition out in
    let sizes = sum_by-cons (λ (it : Addition). it.size) addition out in
    let one : past n addition ≡ 0 = omega (arith, pasts, began) in
    let below : addition.begin < n = from_past n addition.begin one in
    let here : covers addition.begin addition.begin addition.size ≡ 0 = let counts = sum_by-cons (covering addition.begin) addition out in let none = covers_none addition.begin below in omega arith in
    let none : addition.size ≡ 0 = no_size addition.begin addition.size here in
    let rest = nothing_left n out (omega (arith, pasts, began)) (λ number within. let counts = sum_by-cons (covering number) addition out in let total = covers_none number within in omega arith) in
    omega arith
  where
    from_past : (m k : ℕ) → cond {A = ℕ} (nat_le m k) 1 0 ≡ 0 → k < m
    from_past m k e = grind (arith, nat_tests)

    no_size : (begin size : ℕ) → covers begin begin size ≡ 0 → size ≡ 0
    no_size begin size e = grind (arith, nat_tests)

-- ---- the law

module _ (tally : TallyState) (reported : List (ℕ × ℕ)) (gathered : IsGathered tally.of tally) (knows : KnowsClaims tally) (claimed : IsClaimed tally) (are : AreOfPieces tally reported) where
  abbrev n : ℕ
  n = tally.of.n

  abbrev claims : List Addition
  claims = claims_of tally.workers

  far : n ≤ added_by tally.workers
  far =
      let seen : claimed.saw.0.seen ≤ added_by tally.workers = All-contains (λ (worker : Worker). worker.seen ≤ added_by tally.workers) tally.workers claimed.saw.0 knows.seen claimed.saw.1 in
      let there = claimed.saw.2 in
      omega arith

  -- those that gave a piece cover each number once
  given : (number : ℕ) → number < n → sum_by (covering number) (gave n claims) ≡ 1
  given number below =
      let once = (knows.tiles far).once number below in
      let covering_all = times_below number n claims below in
      let split = gave_and_blank n (covering number) claims in
      let blanks = sum_by_none (blank n (covering number)) claims (λ addition. blank_below n number addition below) in
      omega arith

  covered : (number : ℕ) → number < n → 1 ≤ times_covered reported number
  covered number below =
      let some : 1 ≤ times_covered (map (clipped n) (gave n claims)) number = let counts = times_below number n (gave n claims) below in let one = given number below in omega arith in
      among_cover number (map (clipped n) (gave n claims)) reported (All-map (Contains reported) (clipped n) (gave n claims) are.claims) some

  pieces_once : (number : ℕ) → number < n → times_covered (gathered_ranges tally) number ≡ 1
  pieces_once number below =
      let some = among_cover number reported (gathered_ranges tally) are.pieces (covered number below) in
      let apart = gathered.pieces.once_below number in
      omega arith

  within : (number : ℕ) → n ≤ number → times_covered reported number ≡ 0
  within number beyond = by (dec_lt 0 (times_covered reported number))
    where
      by : Dec (0 < times_covered reported number) → times_covered reported number ≡ 0
      by (yes more) =
          let some : 1 ≤ times_covered (gathered_ranges tally) number = among_cover number reported (gathered_ranges tally) are.pieces more in
          let none = times_past number n tally.pieces beyond in
          absurd (omega arith)
      by (no none) = omega arith

  all_in : added knows.pieces.0 ≡ 0
  all_in =
      let parts = knows.pieces.1.once in
      nothing_left n knows.pieces.0
      (let all = parts (past n) in let none = none_past n claims in omega arith)
      (λ number below.
      let all = parts (covering number) in
      let one = given number below in
      let mine = pieces_once number below in
      let counts = times_below number n tally.pieces below in
      omega arith)

  pub none_is_missing : NoneIsMissing tally reported
  none_is_missing = record {
    tiles = record { once = pieces_once; none = λ number beyond. times_past number n tally.pieces beyond };
    end = record {
      all = claimed.all;
      nothing_out =
          let parts = knows.pieces.1.once (λ (it : Addition). it.size) in
          let split = gave_and_blank n (λ (it : Addition). it.size) claims in
          let none = all_in in
          omega arith;
      past = far;
    };
    covered = covered;
    within = within;
  }

pub reports_meet_claims : ReportsMeetClaims
reports_meet_claims tally reported gathered knows claimed are = none_is_missing tally reported gathered knows claimed are
