-- The words of one place up to so many, read one after the other.
use Rattle.std.proofs.Common.{◌≡◌, ℕ, ◌+◌, ◌≤◌, List, [], ◌∷◌, ◌++◌, length, map, take, eqb, ltb, true, false, refl, ap, sym, subst, ◌∙◌, append_assoc, append-nil, Option, Some, None, arith}
use Rattle.std.specs.List.{flat_map}
use Rattle.std.proofs.lemmas.Bool.{ne_eqb}
use Rattle.std.proofs.lemmas.Bool.Decides.{nat_tests}
use Rattle.std.proofs.lemmas.Grind.{common_steps}
use Rattle.qtc_job.specs.Answers.{IsLeast, IsLeastSoFar, IsSoFar, many_codes}
use Rattle.qtc_job.proofs.LeastLemmas.{least-append}

pub record IsReadTo {V : Type 0} (codes : List ℕ → List ℕ) (meant : List ℕ → V) (words left : List (List ℕ)) (most count : ℕ) (values : List V) (code : Option ℕ) : Type 0 where
  pub done : List (List ℕ)
  pub cut : words ≡ done ++ left
  pub counted : count ≡ length done
  pub few : count ≤ most
  pub so_far : IsSoFar (flat_map codes done) (map meant done) values code

pub start : {V : Type 0} (codes : List ℕ → List ℕ) (meant : List ℕ → V) (words : List (List ℕ)) (most : ℕ) → IsReadTo codes meant words words most 0 [] None
start codes meant words most = record {
  done = [];
  cut = refl;
  counted = refl;
  few = omega arith;
  so_far = record { least = refl; read = λ _. refl };
}

pub least-swap : (m n : List ℕ) (code : ℕ) → IsLeast (m ++ n) code → IsLeast (n ++ m) code
least-swap m n code l =
    let a = least-append m n in
    let b = least-append n m in
    let is = l.is in
    record { is = omega arith; some = l.some }

append-empty : (m n : List ℕ) → m ++ n ≡ [] → n ++ m ≡ []
append-empty [] n e = append-nil n ∙ e
append-empty (x ∷ m) n e = cc

so_far-swap : (m n : List ℕ) (code : Option ℕ) → IsLeastSoFar (m ++ n) code → IsLeastSoFar (n ++ m) code
so_far-swap m n None l = append-empty m n l
so_far-swap m n (Some code) l = least-swap m n code l

flat_map-push : (f : List ℕ → List ℕ) (xs : List (List ℕ)) (x : List ℕ) → flat_map f (xs ++ x ∷ []) ≡ flat_map f xs ++ f x
flat_map-push f [] x = append-nil (f x)
flat_map-push f (y ∷ xs) x = ap (λ s. f y ++ s) (flat_map-push f xs x) ∙ sym (append_assoc (f y) (flat_map f xs) (f x))

map-push : {V : Type 0} (f : List ℕ → V) (xs : List (List ℕ)) (x : List ℕ) → map f (xs ++ x ∷ []) ≡ map f xs ++ f x ∷ []
map-push f [] x = refl
map-push f (y ∷ xs) x = ap (λ s. f y ∷ s) (map-push f xs x)

pub more : {V : Type 0} (codes : List ℕ → List ℕ) (meant : List ℕ → V) (words left after : List (List ℕ)) (most count : ℕ) (values values2 : List V) (code code2 : Option ℕ) (word : List ℕ) (r : IsReadTo codes meant words left most count values code) → left ≡ word ∷ after → (count ≡ most → ⊥) → IsSoFar (codes word ++ flat_map codes r.done) (map meant r.done ++ meant word ∷ []) values2 code2 → IsReadTo codes meant words after most (count + 1) values2 code2
more codes meant words left after most count values values2 code code2 word r e room next =
    let few = r.few in
    let counted = r.counted in
    record {
      done = r.done ++ word ∷ [];
      cut = r.cut ∙ (ap (λ s. r.done ++ s) e ∙ sym (append_assoc r.done (word ∷ []) after));
      counted = grind (arith, common_steps);
      few = omega arith;
      so_far = record {
        least = subst (λ (l : List ℕ). IsLeastSoFar l code2) (sym (flat_map-push codes r.done word)) (so_far-swap (codes word) (flat_map codes r.done) code2 next.least);
        read = λ none. next.read none ∙ sym (map-push meant r.done word);
      };
    }

take-front : (done rest : List (List ℕ)) (most : ℕ) → length done ≡ most → take most (done ++ rest) ≡ done
take-front done rest most e = grind (arith, common_steps)

-- one word more than there are places
pub past : {V : Type 0} (codes : List ℕ → List ℕ) (meant : List ℕ → V) (words left after : List (List ℕ)) (most count : ℕ) (values : List V) (code : Option ℕ) (word : List ℕ) (r : IsReadTo codes meant words left most count values code) → left ≡ word ∷ after → count ≡ most → many_codes codes most words ≡ flat_map codes r.done ++ 13 ∷ []
past codes meant words left after most count values code word r e full =
    let counted = r.counted in
    let all : words ≡ r.done ++ word ∷ after = r.cut ∙ ap (λ s. r.done ++ s) e in
    let size : length words ≡ length r.done + (1 + length after) = ap length all ∙ grind (arith, common_steps) in
    let some : eqb (length words) 0 ≡ false = ne_eqb (length words) 0 (λ z. omega arith) in
    let over : ltb most (length words) ≡ true = grind (arith, nat_tests) in
    let front : take most words ≡ r.done = ap (take most) all ∙ take-front r.done (word ∷ after) most (omega arith) in
    rw (some, over, front) refl

-- all words were placed
pub whole : {V : Type 0} (codes : List ℕ → List ℕ) (meant : List ℕ → V) (words left : List (List ℕ)) (most count : ℕ) (values : List V) (code : Option ℕ) (r : IsReadTo codes meant words left most count values code) → left ≡ [] → (count ≡ 0 → ⊥) → (many_codes codes most words ≡ flat_map codes r.done) × (words ≡ r.done)
whole codes meant words left most count values code r e some =
    let counted = r.counted in
    let few = r.few in
    let all : words ≡ r.done = r.cut ∙ (ap (λ s. r.done ++ s) e ∙ append-nil r.done) in
    let size = ap length all in
    let not_empty : eqb (length words) 0 ≡ false = ne_eqb (length words) 0 (λ z. some (omega arith)) in
    let within : ltb most (length words) ≡ false = grind (arith, nat_tests) in
    let front : take most words ≡ words = grind (arith, common_steps) in
    (rw (not_empty, within, front) (append-nil (flat_map codes words) ∙ ap (flat_map codes) all), all)

nothing : (codes : List ℕ → List ℕ) (most : ℕ) (words : List (List ℕ)) → length words ≡ 0 → many_codes codes most words ≡ 2 ∷ []
nothing codes most [] e =
    let within : ltb most 0 ≡ false = grind (arith, nat_tests) in
    let none : take most (let l : List (List ℕ) = [] in l) ≡ [] = grind (arith, common_steps) in
    rw (within, none) refl
nothing codes most (word ∷ words) e = absurd (omega arith)

-- no words
pub empty : {V : Type 0} (codes : List ℕ → List ℕ) (meant : List ℕ → V) (words left : List (List ℕ)) (most count : ℕ) (values : List V) (code : Option ℕ) → IsReadTo codes meant words left most count values code → left ≡ [] → count ≡ 0 → many_codes codes most words ≡ 2 ∷ []
empty codes meant words left most count values code r e none =
    let counted = r.counted in
    let all : words ≡ r.done = r.cut ∙ (ap (λ s. r.done ++ s) e ∙ append-nil r.done) in
    let size = ap length all in
    nothing codes most words (omega arith)
