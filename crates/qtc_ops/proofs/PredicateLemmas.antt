-- The tests of predicates against what they keep.
use Rattle.std.proofs.Common.{◌≡◌, ℕ, ◌+◌, ◌≤◌, ◌<◌, Bool, true, false, nat_eq, leb, List, length, take, drop, get_or, get_or-drop, Option, Some, None, is_some, Decides, refl, sym, ap, ◌∙◌, ⊎_elim, arith}
use Rattle.std.proofs.lemmas.List.{get_or-take}
use Rattle.std.specs.List.{starts_with}
use Rattle.std.specs.Cmp.Lexicographic.{bytes_decides}
use Rattle.std.proofs.lemmas.List.Prefix.{at_from_reads}
use Rattle.std.proofs.lemmas.Bool.Decides.{Decides-ltb, Decides-at, same_from_decides}
use Rattle.std.proofs.lemmas.Grind.{common_steps}
use Rattle.std.proofs.lemmas.Bool.{false≢true, cases_Bool, leb-true, leb-false}
use Rattle.memchr.specs.Find.{OccursAt, FindsNeedle}
use Rattle.qtc_ops.specs.Wildcards.{some_suffix}
use Rattle.qtc_ops.specs.declared.predicates.Pred.{Pred}
use Rattle.qtc_ops.specs.declared.predicates.Pred.TheVariants.{Contains, Wildcard, Longer}
use Rattle.qtc_ops.specs.Predicates.{keeps, Keeps}
use Rattle.qtc_ops.proofs.WildcardLemmas.{some_suffix-from, some_suffix-to, wildcard-decides}

-- a byte of what is at the front
get_or-front : (literal item : List ℕ) (k j : ℕ) → j < length literal → literal ≡ take (length literal) (drop k item) → get_or literal j 0 ≡ get_or (drop k item) j 0
get_or-front literal item k j lt front = ap (λ s. get_or s j 0) front ∙ grind (arith, common_steps)

-- the literal stands in the item at a place just where what is left from there begins with it
starts-occurs : (item literal : List ℕ) (k : ℕ) → k ≤ length item → starts_with nat_eq (drop k item) literal ≡ true → OccursAt item literal k
starts-occurs item literal k le h =
    let front : literal ≡ take (length literal) (drop k item) = (bytes_decides literal (take (length literal) (drop k item))).0 h in
    let size : length literal ≤ length (drop k item) = grind (arith, common_steps) in
    record {
      fits = grind (arith, common_steps);
      reads = λ j lt. sym (get_or-drop k item j 0) ∙ sym (get_or-front literal item k j lt front);
    }

occurs-starts : (item literal : List ℕ) (k : ℕ) → OccursAt item literal k → starts_with nat_eq (drop k item) literal ≡ true
occurs-starts item literal k o =
    let from = at_from_reads 0 item literal k o.fits o.reads in
    (bytes_decides literal (take (length literal) (drop k item))).1 (grind (arith, common_steps))

contains-decides : (item literal : List ℕ) → Decides (some_suffix (λ suffix. starts_with nat_eq suffix literal) item) ((place : ℕ) × OccursAt item literal place)
contains-decides item literal = (
  λ h. let found = some_suffix-to (λ suffix. starts_with nat_eq suffix literal) item h in (found.0, starts-occurs item literal found.0 found.1 found.2),
  λ o. let fits = o.1.fits in some_suffix-from (λ suffix. starts_with nat_eq suffix literal) item o.0 (omega arith) (occurs-starts item literal o.0 o.1),
)

pub keeps-decides : (pred : Pred) (item : List ℕ) → Decides (keeps pred item) (Keeps pred item)
keeps-decides (Contains literal) item = contains-decides item literal
keeps-decides (Wildcard pattern) item = wildcard-decides pattern item
keeps-decides (Longer bound) item = Decides-ltb bound (length item)

-- a search finds a place just where there is one
found-decides : (item literal : List ℕ) (r : Option ℕ) → FindsNeedle item literal 0 r → Decides (is_some r) ((place : ℕ) × OccursAt item literal place)
found-decides item literal (Some place) f = (λ _. (place, f.1), λ _. refl)
found-decides item literal None f = (λ e. absurd (false≢true e), λ o. let fits = o.1.fits in absurd (f o.0 (omega arith) (omega arith) o.1))

pub found-test : (item literal : List ℕ) (r : Option ℕ) → FindsNeedle item literal 0 r → is_some r ≡ keeps (Contains literal) item
found-test item literal r f = same_from_decides _ _ (found-decides item literal r f) (contains-decides item literal)

-- ---- an item that is searched as the front of other bytes

module _ (bytes item literal : List ℕ) (front : take (length item) bytes ≡ item) (within : length item ≤ length bytes) where
  read-front : (k : ℕ) → k < length item → get_or item k 0 ≡ get_or bytes k 0
  read-front k lt = ap (λ s. get_or s k 0) (sym front) ∙ get_or-take (length item) bytes k 0 lt

  occurs-longer : (place : ℕ) → OccursAt item literal place → OccursAt bytes literal place
  occurs-longer place o =
      let fits = o.fits in
      record { fits = omega arith; reads = λ j lt. sym (read-front (place + j) (omega arith)) ∙ o.reads j lt }

  occurs-shorter : (place : ℕ) → place + length literal ≤ length item → OccursAt bytes literal place → OccursAt item literal place
  occurs-shorter place fits o = record { fits = fits; reads = λ j lt. read-front (place + j) (omega arith) ∙ o.reads j lt }

  found-within : (place : ℕ) → place + length literal ≤ length item → FindsNeedle bytes literal 0 (Some place) → FindsNeedle item literal 0 (Some place)
  found-within place fits f =
      (record { low = f.0.low; high = omega arith; before = λ k low lt o. f.0.before k low lt (occurs-longer k o) }, occurs-shorter place fits f.1)

  found-past : (place : ℕ) → length item < place + length literal → FindsNeedle bytes literal 0 (Some place) → FindsNeedle item literal 0 None
  found-past place past f k low high o = let fits = o.fits in f.0.before k low (omega arith) (occurs-longer k o)

  found-nowhere : FindsNeedle bytes literal 0 None → FindsNeedle item literal 0 None
  found-nowhere f k low high o = f k low (omega arith) (occurs-longer k o)

  pub front-found : (place : ℕ) → FindsNeedle bytes literal 0 (Some place) → leb (place + length literal) (length item) ≡ keeps (Contains literal) item
  front-found place f =
      ⊎_elim
      (λ fits. fits ∙ found-test item literal (Some place) (found-within place (leb-true _ _ fits) f))
      (λ past. past ∙ found-test item literal None (found-past place (leb-false _ _ past) f))
      (cases_Bool (leb (place + length literal) (length item)))

  pub front-nowhere : FindsNeedle bytes literal 0 None → false ≡ keeps (Contains literal) item
  front-nowhere f = found-test item literal None (found-nowhere f)

pub exactly-from_test : (pred : Pred) (item : List ℕ) (r : Bool) → r ≡ keeps pred item → (r ≡ true → Keeps pred item) × (Keeps pred item → r ≡ true)
exactly-from_test pred item r e = Decides-at r (keeps pred item) e (keeps-decides pred item)
