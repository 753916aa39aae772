-- Lists with one member for each worker of each job, beside other lists.
use Rattle.std.proofs.Common.{◌≡◌, ℕ, zero, suc, ◌+◌, ◌-◌, ◌<◌, ◌≤◌, List, [], ◌∷◌, ◌++◌, length, get_or, take, drop, replicate, ap, sym, subst, ◌∙◌, append_assoc, length-drop, arith}
use Rattle.std.specs.Prelude.{All}
use Rattle.std.proofs.lemmas.List.Elements.{All-nil, All-cons, All-append}
use Rattle.qtc_run.specs.Pairing.{EachPair}
use Rattle.qtc_run.specs.Rounds.{each_times}
use Rattle.qtc_run.proofs.ReportLemmas.{take-next}
use Rattle.qtc_run.proofs.Seating.{row-push, rows-push}

-- ---- All, one member more

pub all-push : {X : Type 0} (P : X → Type 0) (xs : List X) (x : X) → All P xs → P x → All P (xs ++ x ∷ [])
all-push P xs x all last = All-append P xs (x ∷ []) all (All-cons P x [] last (All-nil P))

pub all-head : {X : Type 0} (P : X → Type 0) (x : X) (xs : List X) → All P (x ∷ xs) → P x
all-head P x xs all = all 0 x (omega arith)

pub all-tail : {X : Type 0} (P : X → Type 0) (x : X) (xs : List X) → All P (x ∷ xs) → All P xs
all-tail P x xs all = λ k d within. all (suc k) d (omega arith)

pub all-imply : {X : Type 0} (P Q : X → Type 0) (xs : List X) → ((x : X) → P x → Q x) → All P xs → All Q xs
all-imply P Q xs gives all = λ k d within. gives (get_or xs k d) (all k d within)

pub all-at : {X : Type 0} (P : X → Type 0) (xs : List X) (at : ℕ) (x : X) → All P xs → at < length xs → x ≡ get_or xs at x → P x
all-at P xs at x all within is = subst P (sym is) (all at x within)

module _ {X Y : Type 0} (R : X → Y → Type 0) where
  -- one front after the other
  pub pairs-append : (xs us : List X) (ys vs : List Y) → EachPair R xs ys → EachPair R us vs → EachPair R (xs ++ us) (ys ++ vs)
  pairs-append [] us [] vs all more = more
  pairs-append [] us (y ∷ ys) vs all more = absurd all
  pairs-append (x ∷ xs) us [] vs all more = absurd all
  pairs-append (x ∷ xs) us (y ∷ ys) vs all more = (all.0, pairs-append xs us ys vs all.1 more)

  -- one member beside each of a list
  pub pairs-row : (x : X) (ys : List Y) → All (R x) ys → EachPair R (replicate (length ys) x) ys
  pairs-row x [] all = tt
  pairs-row x (y ∷ ys) all = (all-head (R x) y ys all, pairs-row x ys (all-tail (R x) y ys all))

  -- what stands beside a row, and what is left
  pub row-pairs : (n : ℕ) (x : X) (xs : List X) (ys : List Y) → EachPair R (replicate n x ++ xs) ys → (n ≤ length ys) × All (R x) (take n ys) × EachPair R xs (drop n ys)
  row-pairs zero x xs ys all = (omega arith, All-nil (R x), all)
  row-pairs (suc n) x xs [] all = absurd all
  row-pairs (suc n) x xs (y ∷ ys) all =
      let there = row-pairs n x xs ys all.1 in
      (omega (arith, there.0), All-cons (R x) y (take n ys) all.0 there.1, there.2)

  -- the first pair, and the others
  pub pairs-first : (xs : List X) (at : ℕ) (x : X) (y : Y) (ys : List Y) → at < length xs → x ≡ get_or xs at x → EachPair R (drop at xs) (y ∷ ys) → R x y × EachPair R (drop (at + 1) xs) ys
  pairs-first [] at x y ys within is all = absurd (omega arith)
  pairs-first (z ∷ xs) zero x y ys within is all = (subst (λ (x : X). R x y) (sym is) all.0, all.1)
  pairs-first (z ∷ xs) (suc at) x y ys within is all =
      let next : suc at + 1 ≡ suc (at + 1) = omega arith in
      rw next (pairs-first xs at x y ys (omega arith) is all)

  -- no list ends before the other
  pub pairs-go-on : (xs : List X) (at : ℕ) (ys : List Y) → at < length xs → length ys ≡ 0 → EachPair R (drop at xs) ys → ⊥
  pairs-go-on [] at ys within none all = omega arith
  pairs-go-on (x ∷ xs) zero [] within none all = all
  pairs-go-on (x ∷ xs) zero (y ∷ ys) within none all = omega arith
  pairs-go-on (x ∷ xs) (suc at) ys within none all = pairs-go-on xs at ys (omega arith) none all

-- ---- a row of a list of rows

-- the member at a place, and those after it
pub drop-at : {X : Type 0} (xs : List X) (at : ℕ) (x : X) → at < length xs → x ≡ get_or xs at x → drop at xs ≡ x ∷ drop (at + 1) xs
drop-at [] at x within is = absurd (omega arith)
drop-at (y ∷ xs) zero x within is = ap (λ y. y ∷ xs) (sym is)
drop-at (y ∷ xs) (suc at) x within is =
    let next : suc at + 1 ≡ suc (at + 1) = omega arith in
    rw next (drop-at xs at x (omega arith) is)

pub rows-from : {X : Type 0} (n : ℕ) (xs : List X) (at : ℕ) (x : X) → at < length xs → x ≡ get_or xs at x → each_times n (drop at xs) ≡ replicate n x ++ each_times n (drop (at + 1) xs)
rows-from n xs at x within is = ap (each_times n) (drop-at xs at x within is)

pub rows-to : {X : Type 0} (n : ℕ) (xs : List X) (at : ℕ) (x : X) → at < length xs → x ≡ get_or xs at x → each_times n (take (at + 1) xs) ≡ each_times n (take at xs) ++ replicate n x
rows-to n xs at x within is = ap (each_times n) (take-next xs at x within is) ∙ rows-push n (take at xs) x

-- ---- a row of desks is seated

-- the next desk
pub next-of : {X : Type 0} (P : X → Type 0) (xs left more : List X) (count at : ℕ) (x : X) → at < count → count ≤ length xs → All P (take count xs) → left ≡ drop at xs → left ≡ x ∷ more → P x × (more ≡ drop (at + 1) xs)
next-of P [] left more count at x within long all is next = absurd (omega arith)
next-of P (y ∷ xs) left more zero at x within long all is next = absurd (omega arith)
next-of P (y ∷ xs) left more (suc count) zero x within long all is next =
    let both : x ∷ more ≡ y ∷ xs = sym next ∙ is in
    let same : x ≡ y = cc in
    let rest : more ≡ xs = cc in
    (subst P (sym same) (all-head P y (take count xs) all), rest)
next-of P (y ∷ xs) left more (suc count) (suc at) x within long all is next =
    let further : suc at + 1 ≡ suc (at + 1) = omega arith in
    rw further (next-of P xs left more count at x (omega arith) (omega arith) (all-tail P y (take count xs) all) is next)

pub none-left : {X : Type 0} (xs left : List X) (count at : ℕ) → at < count → count ≤ length xs → left ≡ drop at xs → length left ≡ 0 → ⊥
none-left xs left count at within long is none =
    let number : length left ≡ length xs - at = ap length is ∙ length-drop at xs in omega arith

-- one place more at an engine
pub seat-push : {X : Type 0} (before places more : List X) (n : ℕ) (x y : X) → more ≡ places ++ y ∷ [] → y ≡ x → places ≡ before ++ replicate n x → more ≡ before ++ replicate (n + 1) x
seat-push before places more n x y push same so_far =
    push ∙ (ap (λ places. places ++ y ∷ []) so_far ∙ (ap (λ y. (before ++ replicate n x) ++ y ∷ []) same ∙ (append_assoc before (replicate n x) (x ∷ []) ∙ ap (λ row. before ++ row) (sym (row-push n x)))))
