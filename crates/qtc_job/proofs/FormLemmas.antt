-- The codes of a form are those of its places.
use Rattle.std.proofs.Common.{◌≡◌, ℕ, List, [], ◌∷◌, ◌++◌, length, map, take, ltb, false, refl, ap, append-nil, suc, arith}
use Rattle.std.specs.List.{flat_map}
use Rattle.std.proofs.lemmas.Bool.Decides.{nat_tests}
use Rattle.qtc_job.specs.Answers.{one_codes, many_codes}
use Rattle.qtc_job.specs.Codes.{where_, form_codes, word_codes}
use Rattle.qtc_job.specs.Forms.{Place, exactly, up_to}

pub exactly-none : (names : List (List ℕ)) (words : List (List ℕ)) → form_codes names (exactly [] words) ≡ where_ (ltb 0 (length words)) 13
exactly-none names [] = refl
exactly-none names (word ∷ words) =
    let no : ltb (suc (length words)) 0 ≡ false = grind (arith, nat_tests) in
    rw no refl

pub exactly-one : (names : List (List ℕ)) (place : Place) (words : List (List ℕ)) → form_codes names (exactly (place ∷ []) words) ≡ one_codes (word_codes names place) words
exactly-one names place [] = refl
exactly-one names place (word ∷ after) =
    let early : ltb (suc (length after)) 1 ≡ false = grind (arith, nat_tests) in
    let late : ltb 1 (suc (length after)) ≡ ltb 0 (length after) = grind (arith, nat_tests) in
    rw (early, late) (ap (λ l. l ++ where_ (ltb 0 (length after)) 13) (append-nil (word_codes names place word)))

flat_map-placed : (names : List (List ℕ)) (place : Place) (words : List (List ℕ)) → flat_map (λ (p : Place × List ℕ). word_codes names p.0 p.1) (map (λ word. (place, word)) words) ≡ flat_map (word_codes names place) words
flat_map-placed names place [] = refl
flat_map-placed names place (word ∷ words) = ap (λ l. word_codes names place word ++ l) (flat_map-placed names place words)

pub up_to-many : (names : List (List ℕ)) (most : ℕ) (place : Place) (words : List (List ℕ)) → form_codes names (up_to most place words) ≡ many_codes (word_codes names place) most words
up_to-many names most place words = rw (flat_map-placed names place (take most words)) refl

pub ruleset form_laws = (exactly-none, exactly-one, up_to-many)

-- two words in two places
pub exactly-two : (names : List (List ℕ)) (p q : Place) (a b : List ℕ) (after : List (List ℕ)) → form_codes names (exactly (p ∷ q ∷ []) (a ∷ b ∷ after)) ≡ (word_codes names p a ++ word_codes names q b) ++ where_ (ltb 0 (length after)) 13
exactly-two names p q a b after =
    let early : ltb (suc (suc (length after))) 2 ≡ false = grind (arith, nat_tests) in
    let late : ltb 2 (suc (suc (length after))) ≡ ltb 0 (length after) = grind (arith, nat_tests) in
    rw (early, late) (ap (λ l. (word_codes names p a ++ l) ++ where_ (ltb 0 (length after)) 13) (append-nil (word_codes names q b)))
