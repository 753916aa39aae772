-- Lists of one member over and over.
use Rattle.std.proofs.Common.{◌≡◌, ℕ, zero, suc, ◌+◌, ◌-◌, ◌<◌, ◌≤◌, List, [], ◌∷◌, ◌++◌, length, get_or, set, take, drop, replicate, refl, ap, sym, ◌∙◌, append_assoc, append-nil, arith}
use Rattle.std.proofs.Math.Seq.{drop-length, take-length}
use Rattle.std.proofs.lemmas.List.{same_lists}
use Rattle.qtc_pool.specs.Shared.{EachBecomes}
use Rattle.qtc_run.specs.Rounds.{each_times}

-- what is set where it stands changes nothing
pub set-here : {X : Type 0} (xs : List X) (index : ℕ) (x : X) → x ≡ get_or xs index x → set xs index x ≡ xs
set-here [] index x is = refl
set-here (y ∷ xs) zero x is = ap (λ z. z ∷ xs) is
set-here (y ∷ xs) (suc index) x is = ap (λ zs. y ∷ zs) (set-here xs index x is)

-- ---- a row of which the members before a place are of one kind, and the others of another

pub get-row : {X : Type 0} (at left : ℕ) (a b d : X) → get_or (replicate at a ++ replicate (suc left) b) at d ≡ b
get-row zero left a b d = refl
get-row (suc at) left a b d = get-row at left a b d

pub set-row : {X : Type 0} (at left : ℕ) (a b : X) → set (replicate at a ++ replicate (suc left) b) at a ≡ replicate (at + 1) a ++ replicate left b
set-row zero left a b = refl
set-row (suc at) left a b =
    let next : suc at + 1 ≡ suc (at + 1) = omega arith in
    rw next (ap (λ row. a ∷ row) (set-row at left a b))

pub row-more : {X : Type 0} (n at : ℕ) (x : X) → at < n → replicate (n - at) x ≡ x ∷ replicate (n - (at + 1)) x
row-more n at x within =
    let left : n - at ≡ suc (n - (at + 1)) = omega arith in rw left refl

pub row-push : {X : Type 0} (at : ℕ) (x : X) → replicate (at + 1) x ≡ replicate at x ++ x ∷ []
row-push zero x = refl
row-push (suc at) x =
    let next : suc at + 1 ≡ suc (at + 1) = omega arith in
    rw next (ap (λ row. x ∷ row) (row-push at x))

head-same : {X : Type 0} (x y : X) (xs ys : List X) → x ∷ xs ≡ y ∷ ys → x ≡ y
head-same x y xs ys e = cc

tail-same : {X : Type 0} (x y : X) (xs ys : List X) → x ∷ xs ≡ y ∷ ys → xs ≡ ys
tail-same x y xs ys e = cc

-- ---- a worker gets its next place

pub row-ends : {X : Type 0} (n at : ℕ) (one : X) (rest places : List X) → at < n → length places ≡ 0 → places ≡ replicate (n - at) one ++ rest → ⊥
row-ends n at one rest places within none is =
    let more : places ≡ one ∷ (replicate (n - (at + 1)) one ++ rest) = is ∙ ap (λ row. row ++ rest) (row-more n at one within) in
    let long : length places ≡ suc (length (replicate (n - (at + 1)) one ++ rest)) = ap length more in
    omega arith

pub row-next : {X : Type 0} (n at : ℕ) (one place : X) (rest places left : List X) → at < n → places ≡ place ∷ left → places ≡ replicate (n - at) one ++ rest → (place ≡ one) × (left ≡ replicate (n - (at + 1)) one ++ rest)
row-next n at one place rest places left within next is =
    let more : place ∷ left ≡ one ∷ (replicate (n - (at + 1)) one ++ rest) = sym next ∙ (is ∙ ap (λ row. row ++ rest) (row-more n at one within)) in
    (head-same place one left (replicate (n - (at + 1)) one ++ rest) more, tail-same place one left (replicate (n - (at + 1)) one ++ rest) more)

pub at-row : {X : Type 0} (n at : ℕ) (a b old : X) (row : List X) → at < n → row ≡ replicate at a ++ replicate (n - at) b → old ≡ get_or row at old → old ≡ b
at-row n at a b old row within is here =
    let left : n - at ≡ suc (n - (at + 1)) = omega arith in
    here ∙ (ap (λ row. get_or row at old) is ∙ (ap (λ k. get_or (replicate at a ++ replicate k b) at old) left ∙ get-row at (n - (at + 1)) a b old))

pub row-set : {X : Type 0} (n at : ℕ) (a b old new : X) (row : List X) → at < n → row ≡ replicate at a ++ replicate (n - at) b → old ≡ get_or row at old → (old ≡ b → new ≡ a) → set row at new ≡ replicate (at + 1) a ++ replicate (n - (at + 1)) b
row-set n at a b old new row within is here makes =
    let left : n - at ≡ suc (n - (at + 1)) = omega arith in
    let row_is : row ≡ replicate at a ++ replicate (suc (n - (at + 1))) b = is ∙ ap (λ k. replicate at a ++ replicate k b) left in
    let old_is : old ≡ b = at-row n at a b old row within is here in
    ap (λ new. set row at new) (makes old_is) ∙ (ap (λ row. set row at a) row_is ∙ set-row at (n - (at + 1)) a b)

-- ---- a worker leaves its first place

pub leave-more : {X : Type 0} (n at : ℕ) (workers : List (List X)) (old new : List X) (place : X) (before places more : List X) → at < n → old ≡ get_or workers at old → old ≡ place ∷ new → more ≡ places ++ place ∷ [] → (one : X) (rest : List X) → places ≡ before ++ replicate at one → workers ≡ replicate at rest ++ replicate (n - at) (one ∷ rest) → (more ≡ before ++ replicate (at + 1) one) × (set workers at new ≡ replicate (at + 1) rest ++ replicate (n - (at + 1)) (one ∷ rest))
leave-more n at workers old new place before places more within here is push one rest so_far row =
    let first : old ≡ one ∷ rest → place ≡ one = λ e. head-same place one new rest (sym is ∙ e) in
    let left : old ≡ one ∷ rest → new ≡ rest = λ e. tail-same place one new rest (sym is ∙ e) in
    let old_is : old ≡ one ∷ rest = at-row n at rest (one ∷ rest) old workers within row here in
    let whole : more ≡ (before ++ replicate at one) ++ one ∷ [] = push ∙ (ap (λ places. places ++ place ∷ []) so_far ∙ ap (λ place. (before ++ replicate at one) ++ place ∷ []) (first old_is)) in (
      whole ∙ (append_assoc before (replicate at one) (one ∷ []) ∙ ap (λ row. before ++ row) (sym (row-push at one))),
      row-set n at rest (one ∷ rest) old new workers within row here left,
    )

pub leave-none : {X : Type 0} (n at : ℕ) (workers : List (List X)) (old : List X) → at < n → old ≡ get_or workers at old → old ≡ [] → (one : X) (rest : List X) → workers ≡ replicate at rest ++ replicate (n - at) (one ∷ rest) → ⊥
leave-none n at workers old within here is one rest row =
    let old_is : one ∷ rest ≡ [] = sym (at-row n at rest (one ∷ rest) old workers within row here) ∙ is in cc

-- ---- a worker gets the next place

pub deal-more : {X : Type 0} (n at : ℕ) (workers : List (List X)) (old new : List X) (place : X) (places left : List X) → at < n → old ≡ get_or workers at old → new ≡ old ++ place ∷ [] → places ≡ place ∷ left → (one : X) (done rest : List X) → places ≡ replicate (n - at) one ++ rest → workers ≡ replicate at (done ++ one ∷ []) ++ replicate (n - at) done → (left ≡ replicate (n - (at + 1)) one ++ rest) × (set workers at new ≡ replicate (at + 1) (done ++ one ∷ []) ++ replicate (n - (at + 1)) done)
deal-more n at workers old new place places left within here push next one done rest is row =
    let both = row-next n at one place rest places left within next is in
    let makes : old ≡ done → new ≡ done ++ one ∷ [] = λ e. push ∙ (ap (λ old. old ++ place ∷ []) e ∙ ap (λ place. done ++ place ∷ []) both.0) in
    (both.1, row-set n at (done ++ one ∷ []) done old new workers within row here makes)

-- ---- rows

-- one row more of those that are left
pub drop-row : {X : Type 0} (xs : List X) (at : ℕ) → at < length xs → (x : X) × (drop at xs ≡ x ∷ drop (at + 1) xs) × (take (at + 1) xs ≡ take at xs ++ x ∷ [])
drop-row [] at within = absurd (omega arith)
drop-row (x ∷ xs) zero within = (x, refl, refl)
drop-row (x ∷ xs) (suc at) within =
    let next : suc at + 1 ≡ suc (at + 1) = omega arith in
    let there = drop-row xs at (omega arith) in
    (there.0, rw next there.1, rw next (ap (λ ys. x ∷ ys) there.2))

pub rows-push : {X : Type 0} (n : ℕ) (xs : List X) (x : X) → each_times n (xs ++ x ∷ []) ≡ each_times n xs ++ replicate n x
rows-push n [] x = append-nil (replicate n x)
rows-push n (y ∷ xs) x =
    ap (λ row. replicate n y ++ row) (rows-push n xs x) ∙ sym (append_assoc (replicate n y) (each_times n xs) (replicate n x))

-- a row is dealt
pub row-dealt : {X : Type 0} (n at : ℕ) (all places left : List X) (workers after : List (List X)) → length workers ≡ n → at < length all
    → ((one : X) (done rest : List X) → places ≡ replicate (length workers) one ++ rest → workers ≡ replicate (length workers) done → (left ≡ rest) × (after ≡ replicate (length workers) (done ++ one ∷ [])))
    → places ≡ each_times n (drop at all) → workers ≡ replicate n (take at all)
    → (left ≡ each_times n (drop (at + 1) all)) × (after ≡ replicate n (take (at + 1) all))
row-dealt {X = X} n at all places left workers after count within deals is row =
    let next = drop-row all at within in
    let rest : List X = each_times n (drop (at + 1) all) in
    let first : places ≡ replicate (length workers) next.0 ++ rest = is ∙ (ap (each_times n) next.1 ∙ ap (λ k. replicate k next.0 ++ rest) (sym count)) in
    let before : workers ≡ replicate (length workers) (take at all) = row ∙ ap (λ k. replicate k (take at all)) (sym count) in
    let done = deals next.0 (take at all) rest first before in
    (done.0, done.1 ∙ (ap (λ k. replicate k (take at all ++ next.0 ∷ [])) count ∙ ap (replicate n) (sym next.2)))

-- a row is gathered
pub row-gathered : {X : Type 0} (n at : ℕ) (all places more : List X) (workers after : List (List X)) → length workers ≡ n → at < length all
    → ((one : X) (rest : List X) → workers ≡ replicate (length workers) (one ∷ rest) → (more ≡ places ++ replicate (length workers) one) × (after ≡ replicate (length workers) rest))
    → places ≡ each_times n (take at all) → workers ≡ replicate n (drop at all)
    → (more ≡ each_times n (take (at + 1) all)) × (after ≡ replicate n (drop (at + 1) all))
row-gathered n at all places more workers after count within gathers is row =
    let next = drop-row all at within in
    let before : workers ≡ replicate (length workers) (next.0 ∷ drop (at + 1) all) = row ∙ (ap (replicate n) next.1 ∙ ap (λ k. replicate k (next.0 ∷ drop (at + 1) all)) (sym count)) in
    let done = gathers next.0 (drop (at + 1) all) before in (
      done.0 ∙ (ap (λ places. places ++ replicate (length workers) next.0) is
          ∙ (ap (λ k. each_times n (take at all) ++ replicate k next.0) count
          ∙ (sym (rows-push n (take at all) next.0) ∙ ap (each_times n) (sym next.2)))),
      done.1 ∙ ap (λ k. replicate k (drop (at + 1) all)) count,
    )

-- all members are of the first kind
pub row-whole : {X : Type 0} (n at : ℕ) (a b : X) (row : List X) → n ≤ at → at ≤ n → row ≡ replicate at a ++ replicate (n - at) b → row ≡ replicate n a
row-whole n at a b row most least is =
    let same : at ≡ n = omega arith in
    let none : n - at ≡ 0 = omega arith in
    is ∙ (ap (λ k. replicate at a ++ replicate k b) none ∙ (append-nil (replicate at a) ∙ ap (λ k. replicate k a) same))

pub row-over : {X : Type 0} (n at : ℕ) (a : X) (rest row : List X) → n ≤ at → row ≡ replicate (n - at) a ++ rest → row ≡ rest
row-over n at a rest row most is =
    let none : n - at ≡ 0 = omega arith in is ∙ ap (λ k. replicate k a ++ rest) none

-- desks that stay as they are
pub all-stay : {X : Type 0} (old new : List X) → EachBecomes (λ (a b : X). b ≡ a) old new → new ≡ old
all-stay old new is = same_lists new old is.count (λ k d within.
    let there : k < length old = let long = is.count in omega arith in is.each k d there)

-- what a vector holds after its slice came back
pub slice-stays : {X : Type 0} (len : ℕ) (old new : List X) → len ≡ length old → new ≡ old → take len (new ++ drop (length new) old) ≡ old
slice-stays len old new long same =
    ap (λ new. take len (new ++ drop (length new) old)) same ∙ (ap (λ k. take k (old ++ drop (length old) old)) long ∙ (ap (λ rest. take (length old) (old ++ rest)) (drop-length old) ∙ (ap (take (length old)) (append-nil old) ∙ take-length old)))

-- what the workers give back is what they were dealt
pub as-dealt : {X : Type 0} (n : ℕ) (all places left : List X) (workers after : List (List X)) → after ≡ workers → length workers ≡ n → workers ≡ replicate n all → places ≡ each_times n all
    → (after ≡ replicate (length after) all → left ≡ each_times (length after) all) → left ≡ places
as-dealt n all places left workers after same count dealt whole gathers =
    let long : length after ≡ n = ap length same ∙ count in
    let is : after ≡ replicate (length after) all = same ∙ (dealt ∙ ap (λ k. replicate k all) (sym long)) in
    gathers is ∙ (ap (λ k. each_times k all) long ∙ sym whole)
