-- The least of codes that are found one after the other.
use Rattle.std.proofs.Common.{◌≡◌, ℕ, ◌<◌, ◌≤◌, min, List, [], ◌∷◌, ◌++◌, length, refl, ap, append-nil, true, arith}
use Rattle.std.specs.Prelude.{nat_lt}
use Rattle.std.proofs.lemmas.Bool.Decides.{nat_tests}
use Rattle.qtc_job.specs.Answers.{least, IsLeast}
use Rattle.qtc_job.specs.Codes.{where_}

pub least-le : (codes : List ℕ) → least codes ≤ 100
least-le [] = omega arith
least-le (code ∷ codes) = let there = least-le codes in omega arith

pub least-append : (m n : List ℕ) → least (m ++ n) ≡ min (least m) (least n)
least-append [] n = let le = least-le n in omega arith
least-append (code ∷ m) n = let there = least-append m n in omega arith

pub both : (m n : List ℕ) (a b : ℕ) → IsLeast m a → IsLeast n b → IsLeast (m ++ n) (min a b)
both m n a b p q =
    let e = least-append m n in
    let pi = p.is in
    let qi = q.is in
    let ps = p.some in
    record { is = rw e (omega arith); some = omega arith }

pub first : (m n : List ℕ) (a : ℕ) → IsLeast m a → n ≡ [] → IsLeast (m ++ n) a
first m n a p q = rw (q, append-nil m) p

pub first-some : (m n : List ℕ) (a : ℕ) → m ≡ [] → IsLeast n a → IsLeast (m ++ n) a
first-some m n a p q = rw p q

pub where_none : (words : List (List ℕ)) (code : ℕ) → words ≡ [] → where_ (nat_lt 0 (length words)) code ≡ []
where_none words code e = rw e refl

pub where_some : (word : List ℕ) (words more : List (List ℕ)) (code : ℕ) → words ≡ word ∷ more → where_ (nat_lt 0 (length words)) code ≡ code ∷ []
where_some word words more code e =
    let some : nat_lt 0 (length words) ≡ true = let size = ap length e in grind (arith, nat_tests) in
    rw some refl

pub is-one : (code : ℕ) → code < 100 → IsLeast (code ∷ []) code
is-one code small = record { is = omega arith; some = small }
