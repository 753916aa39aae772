-- One piece after another.
use Rattle.std.proofs.Common.{◌≡◌, ℕ, zero, suc, ◌+◌, ◌-◌, ◌≤◌, List, [], ◌∷◌, ◌++◌, Option, Some, None, take, drop, length, refl, ap, sym, ◌∙◌, append_assoc, arith}
use Rattle.std.proofs.lemmas.Grind.{common_steps}
use Rattle.qtc_outside.specs.Intake.{GotMore}

pub GotMore-then : (a b c : Option (List ℕ)) (first second : List ℕ) → GotMore a first b → GotMore b second c → GotMore a (first ++ second) c
GotMore-then a b None first second p q = tt
GotMore-then a None (Some after) first second p q = absurd cc
GotMore-then a (Some mid) (Some after) first second p q =
    let same : mid ≡ q.0 = let e = q.1 in cc in
    (p.0, p.1, q.2 ∙ ap (λ s. s ++ second) (sym same ∙ p.2) ∙ append_assoc p.0 first second)

pub take-split : (a b : ℕ) (xs : List ℕ) → take (a + b) xs ≡ take a xs ++ take b (drop a xs)
take-split zero b xs = let e : zero + b ≡ b = omega arith in rw e refl
take-split (suc a) b [] = let e : suc a + b ≡ suc (a + b) = omega arith in rw e (grind (arith, common_steps))
take-split (suc a) b (x ∷ xs) = let e : suc a + b ≡ suc (a + b) = omega arith in rw e (ap (λ s. x ∷ s) (take-split a b xs))

pub take-whole : (n : ℕ) (xs : List ℕ) → length xs ≤ n → take n xs ≡ xs
take-whole zero [] le = refl
take-whole (suc n) [] le = refl
take-whole zero (x ∷ xs) le = absurd (omega arith)
take-whole (suc n) (x ∷ xs) le = ap (λ s. x ∷ s) (take-whole n xs (omega arith))

-- a write of the next bytes after the first ones
pub GotMore-more : (a b c : Option (List ℕ)) (piece : List ℕ) (taken count : ℕ) → taken ≤ length piece → GotMore a (take taken piece) b → GotMore b (take count (take (length piece - taken) (drop taken piece))) c → GotMore a (take (taken + count) piece) c
GotMore-more a b c piece taken count within p q =
    let rest : take (length piece - taken) (drop taken piece) ≡ drop taken piece = take-whole _ _ (grind (arith, common_steps)) in
    rw (take-split taken count piece) (GotMore-then a b c _ _ p (rw rest at q))
