-- What a wildcard test says, and how a matcher goes on with it.
use Rattle.std.proofs.Common.{◌≡◌, ℕ, zero, suc, ◌+◌, ◌≤◌, ◌<◌, Bool, true, false, ◌||◌, eqb, List, [], ◌∷◌, ◌++◌, length, take, drop, Decides, refl, sym, ap, ◌∙◌, append_assoc, inl, inr, ⊎_elim, arith, get_or, ◌-◌, ◌*◌, subst, Option, Some, None, unwrap_or}
use Rattle.std.specs.List.{AllZip, concat}
use Rattle.std.proofs.lemmas.Bool.{cases_Bool, or_cases, or_left, or_right, and_parts, and_from, eqb-true, eq-eqb, false≢true, ne_eqb, false_from_ne_true, both_ways}
use Rattle.std.proofs.lemmas.List.{take-append-drop}
use Rattle.std.proofs.lemmas.Grind.{common_steps}
use Rattle.std.proofs.Math.Nat.{mul-le-mul_right}
use Rattle.memchr.specs.Find.{IsFirstByte, is_byte}
use Rattle.qtc_ops.specs.Wildcards.{StandsFor, Matches, some_suffix, after_byte, fits, question_mark, star, wildcard, TakesOne, CannotFit}

-- ---- a suffix that passes

pub some_suffix-from : (test : List ℕ → Bool) (item : List ℕ) (k : ℕ) → k ≤ length item → test (drop k item) ≡ true → some_suffix test item ≡ true
some_suffix-from test [] zero le h = h
some_suffix-from test [] (suc k) le h = absurd (omega arith)
some_suffix-from test (x ∷ item) zero le h = or_left _ _ h
some_suffix-from test (x ∷ item) (suc k) le h = or_right _ _ (some_suffix-from test item k (omega arith) h)

pub some_suffix-to : (test : List ℕ → Bool) (item : List ℕ) → some_suffix test item ≡ true → (k : ℕ) × (k ≤ length item) × (test (drop k item) ≡ true)
some_suffix-to test [] h = (0, omega arith, h)
some_suffix-to test (x ∷ item) h =
    ⊎_elim (λ here. (0, omega arith, here)) (λ later. let found = some_suffix-to test item later in (suc found.0, omega arith, found.2)) (or_cases _ _ h)

-- a proper suffix passes
abbrev pub later_suffix : (List ℕ → Bool) → List ℕ → Bool
later_suffix test [] = false
later_suffix test (x ∷ item) = some_suffix test item

pub some_suffix-split : (test : List ℕ → Bool) (item : List ℕ) → some_suffix test item ≡ (test item || later_suffix test item)
some_suffix-split test [] = elim (test []) as (λ b. b ≡ (b || false)) [ true ↦ refl | false ↦ refl ]
some_suffix-split test (x ∷ item) = refl

pub some_suffix-later : (test : List ℕ → Bool) (item : List ℕ) → later_suffix test item ≡ true → some_suffix test item ≡ true
some_suffix-later test [] h = absurd (false≢true h)
some_suffix-later test (x ∷ item) h = or_right _ _ h

-- a suffix of a suffix is a suffix
pub some_suffix-twice : (test : List ℕ → Bool) (item : List ℕ) → some_suffix (some_suffix test) item ≡ true → some_suffix test item ≡ true
some_suffix-twice test [] h = h
some_suffix-twice test (x ∷ item) h =
    ⊎_elim (λ here. here) (λ later. or_right _ _ (some_suffix-twice test item later)) (or_cases _ _ h)

-- ---- one symbol

pub wildcard-star : (symbol : ℕ) (pattern item : List ℕ) → eqb symbol star ≡ true → wildcard (symbol ∷ pattern) item ≡ some_suffix (wildcard pattern) item
wildcard-star symbol pattern item h = rw h refl

pub wildcard-byte : (symbol : ℕ) (pattern item : List ℕ) → eqb symbol star ≡ false → wildcard (symbol ∷ pattern) item ≡ after_byte symbol (wildcard pattern) item
wildcard-byte symbol pattern item h = rw h refl

-- ---- the test answers as the relation says

matches-star : (symbol : ℕ) (pattern item : List ℕ) (k : ℕ) → symbol ≡ star → Matches pattern (drop k item) → Matches (symbol ∷ pattern) item
matches-star symbol pattern item k is_star m = record {
  pieces = take k item ∷ m.pieces;
  each = (inr (inr is_star), m.each);
  whole = ap (λ s. take k item ++ s) m.whole ∙ take-append-drop k item;
}

matches-byte : (symbol byte : ℕ) (pattern item : List ℕ) → fits symbol byte ≡ true → Matches pattern item → Matches (symbol ∷ pattern) (byte ∷ item)
matches-byte symbol byte pattern item h m = record {
  pieces = (byte ∷ []) ∷ m.pieces;
  each = (⊎_elim (λ any. inr (inl (eqb-true symbol question_mark any, refl))) (λ same. inl (ap (λ b. b ∷ []) (sym (eqb-true symbol byte same)))) (or_cases _ _ h), m.each);
  whole = ap (λ s. byte ∷ s) m.whole;
}

after_byte-matches : (symbol : ℕ) (pattern item : List ℕ) → ((rest : List ℕ) → wildcard pattern rest ≡ true → Matches pattern rest) → after_byte symbol (wildcard pattern) item ≡ true → Matches (symbol ∷ pattern) item
after_byte-matches symbol pattern [] more h = absurd (false≢true h)
after_byte-matches symbol pattern (byte ∷ item) more h =
    let parts = and_parts _ _ h in matches-byte symbol byte pattern item parts.0 (more item parts.1)

pub wildcard-to : (pattern item : List ℕ) → wildcard pattern item ≡ true → Matches pattern item
wildcard-to [] [] h = record { pieces = []; each = tt; whole = refl }
wildcard-to [] (byte ∷ item) h = let none = eqb-true (suc (length item)) 0 h in absurd (omega arith)
wildcard-to (symbol ∷ pattern) item h =
    ⊎_elim
    (λ is_star.
    let found = some_suffix-to (wildcard pattern) item (sym (wildcard-star symbol pattern item is_star) ∙ h) in
    matches-star symbol pattern item found.0 (eqb-true symbol star is_star) (wildcard-to pattern (drop found.0 item) found.2))
    (λ other. after_byte-matches symbol pattern item (λ rest. wildcard-to pattern rest) (sym (wildcard-byte symbol pattern item other) ∙ h))
    (cases_Bool (eqb symbol star))

after_byte-from : (symbol : ℕ) (pattern piece rest : List ℕ) → eqb symbol star ≡ false → StandsFor symbol piece → wildcard pattern rest ≡ true → after_byte symbol (wildcard pattern) (piece ++ rest) ≡ true
after_byte-from symbol pattern [] rest other stands h =
    absurd (⊎_elim (λ itself. cc) (⊎_elim (λ any. omega (arith, any.1)) (λ is_star. both_ways _ other (eq-eqb symbol star is_star))) stands)
after_byte-from symbol pattern (byte ∷ []) rest other stands h =
    and_from _ _
    (⊎_elim (λ itself. or_right _ _ (eq-eqb symbol byte cc)) (⊎_elim (λ any. or_left _ _ (eq-eqb symbol question_mark any.0)) (λ is_star. absurd (both_ways _ other (eq-eqb symbol star is_star)))) stands)
    h
after_byte-from symbol pattern (byte ∷ next ∷ piece) rest other stands h =
    absurd (⊎_elim (λ itself. cc) (⊎_elim (λ any. omega (arith, any.1)) (λ is_star. both_ways _ other (eq-eqb symbol star is_star))) stands)

wildcard-from_pieces : (pattern : List ℕ) (pieces : List (List ℕ)) → AllZip StandsFor pattern pieces → wildcard pattern (concat pieces) ≡ true
wildcard-from_pieces [] [] each = refl
wildcard-from_pieces [] (piece ∷ pieces) each = absurd each
wildcard-from_pieces (symbol ∷ pattern) [] each = absurd each
wildcard-from_pieces (symbol ∷ pattern) (piece ∷ pieces) each =
    let more = wildcard-from_pieces pattern pieces each.1 in
    let rest : drop (length piece) (piece ++ concat pieces) ≡ concat pieces = grind (arith, common_steps) in
    ⊎_elim
    (λ is_star. wildcard-star symbol pattern (piece ++ concat pieces) is_star ∙ some_suffix-from (wildcard pattern) (piece ++ concat pieces) (length piece) (grind (arith, common_steps)) (rw rest more))
    (λ other. wildcard-byte symbol pattern (piece ++ concat pieces) other ∙ after_byte-from symbol pattern piece (concat pieces) other each.0 more)
    (cases_Bool (eqb symbol star))

pub wildcard-decides : (pattern item : List ℕ) → Decides (wildcard pattern item) (Matches pattern item)
wildcard-decides pattern item = (wildcard-to pattern item, λ m. ap (wildcard pattern) (sym m.whole) ∙ wildcard-from_pieces pattern m.pieces m.each)

-- ---- one turn of the matcher: the symbols against the bytes, or the symbols after the last `*` against a later suffix

abbrev pub goes_on : List ℕ → List ℕ → List ℕ → List ℕ → Bool
goes_on symbols bytes after from = wildcard symbols bytes || later_suffix (wildcard after) from

-- what the symbols after the last `*` could still match, the symbols at hand could match further on
abbrev pub IsCovered : List ℕ → List ℕ → List ℕ → List ℕ → Type 0
IsCovered symbols bytes after from = later_suffix (wildcard after) from ≡ true → some_suffix (wildcard symbols) bytes ≡ true

covered_or : (s t u v : Bool) → (t ≡ true → s ≡ true) → s ≡ (u || v) → (s || t) ≡ (u || v)
covered_or true t u v h e = e
covered_or false true u v h e = absurd (false≢true (h refl))
covered_or false false u v h e = e

pub star-goes_on : (rest bytes after from : List ℕ) → IsCovered (star ∷ rest) bytes after from → goes_on (star ∷ rest) bytes after from ≡ goes_on rest bytes rest bytes
star-goes_on rest bytes after from covered =
    covered_or (wildcard (star ∷ rest) bytes) (later_suffix (wildcard after) from) (wildcard rest bytes) (later_suffix (wildcard rest) bytes)
    (λ h. some_suffix-twice (wildcard rest) bytes (covered h)) (some_suffix-split (wildcard rest) bytes)

pub star-covered : (rest bytes : List ℕ) → IsCovered rest bytes rest bytes
star-covered rest bytes h = some_suffix-later (wildcard rest) bytes h

pub byte-goes_on : (symbol byte : ℕ) (symbols bytes after from : List ℕ) → eqb symbol star ≡ false → fits symbol byte ≡ true → goes_on (symbol ∷ symbols) (byte ∷ bytes) after from ≡ goes_on symbols bytes after from
byte-goes_on symbol byte symbols bytes after from other fit = rw (other, fit) refl

after_byte-later : (symbol : ℕ) (test : List ℕ → Bool) (bytes : List ℕ) → some_suffix (after_byte symbol test) bytes ≡ true → later_suffix test bytes ≡ true
after_byte-later symbol test [] h = absurd (false≢true h)
after_byte-later symbol test (byte ∷ bytes) h =
    ⊎_elim
    (λ here. some_suffix-from test bytes 0 (omega arith) (and_parts _ _ here).1)
    (λ later. some_suffix-later test bytes (after_byte-later symbol test bytes later))
    (or_cases _ _ h)

some_suffix-byte : (symbol : ℕ) (symbols bytes : List ℕ) → eqb symbol star ≡ false → some_suffix (wildcard (symbol ∷ symbols)) bytes ≡ true → later_suffix (wildcard symbols) bytes ≡ true
some_suffix-byte symbol symbols bytes other h =
    let found = some_suffix-to (wildcard (symbol ∷ symbols)) bytes h in
    let shown : after_byte symbol (wildcard symbols) (drop found.0 bytes) ≡ true = sym (wildcard-byte symbol symbols (drop found.0 bytes) other) ∙ found.2 in
    after_byte-later symbol (wildcard symbols) bytes (some_suffix-from (after_byte symbol (wildcard symbols)) bytes found.0 found.1 shown)

pub byte-covered : (symbol byte : ℕ) (symbols bytes after from : List ℕ) → eqb symbol star ≡ false → IsCovered (symbol ∷ symbols) (byte ∷ bytes) after from → IsCovered symbols bytes after from
byte-covered symbol byte symbols bytes after from other covered h = some_suffix-byte symbol symbols (byte ∷ bytes) other (covered h)

pub retry-goes_on : (symbols bytes after : List ℕ) (first : ℕ) (from : List ℕ) → wildcard symbols bytes ≡ false → goes_on symbols bytes after (first ∷ from) ≡ goes_on after from after from
retry-goes_on symbols bytes after first from none = rw none (some_suffix-split (wildcard after) from)

-- symbols that stand for nothing at the front of the bytes
pub end-none : (byte : ℕ) (bytes : List ℕ) → wildcard [] (byte ∷ bytes) ≡ false
end-none byte bytes = false_from_ne_true _ (λ h. let none = eqb-true (suc (length bytes)) 0 h in omega arith)

pub byte-none : (symbol byte : ℕ) (symbols bytes : List ℕ) → eqb symbol star ≡ false → fits symbol byte ≡ false → wildcard (symbol ∷ symbols) (byte ∷ bytes) ≡ false
byte-none symbol byte symbols bytes other unfit = rw (other, unfit) refl

pub empty-none : (symbol : ℕ) (symbols after from : List ℕ) → eqb symbol star ≡ false → IsCovered (symbol ∷ symbols) [] after from → goes_on (symbol ∷ symbols) [] after from ≡ false
empty-none symbol symbols after from other covered =
    let here : wildcard (symbol ∷ symbols) [] ≡ false = rw other refl in
    let later : later_suffix (wildcard after) from ≡ false = false_from_ne_true _ (λ h. both_ways _ here (covered h)) in
    rw (here, later) refl

-- where the matcher stands: what the whole pattern answers for the whole item is what goes on answers
pub record Tries (pattern item symbols bytes after from : List ℕ) : Type 0 where
  pub told : wildcard pattern item ≡ goes_on symbols bytes after from
  pub covered : IsCovered symbols bytes after from
  pub few : length symbols ≤ length pattern
  pub few_after : length after ≤ length pattern

pub Tries-start : (pattern item : List ℕ) → Tries pattern item pattern item [] []
Tries-start pattern item = record {
  told = elim (wildcard pattern item) as (λ b. b ≡ (b || false)) [ true ↦ refl | false ↦ refl ];
  covered = λ h. absurd (false≢true h);
  few = omega arith;
  few_after = omega arith;
}

-- the first of some elements, and the others
pub front : (xs : List ℕ) → 1 ≤ length xs → xs ≡ get_or xs 0 0 ∷ take (length xs - 1) (drop 1 xs)
front [] some = absurd (omega arith)
front (x ∷ xs) some = ap (λ s. x ∷ s) (grind (arith, common_steps))

Tries-at : {pattern item symbols bytes after from : List ℕ} (others more : List ℕ) → symbols ≡ others → bytes ≡ more → Tries pattern item symbols bytes after from → Tries pattern item others more after from
Tries-at {pattern} {item} {symbols} {bytes} {after} {from} others more e f t =
    subst (λ s. Tries pattern item s more after from) e (subst (λ b. Tries pattern item symbols b after from) f t)

-- the symbols after a `*` against all later suffixes
goes_on-again : (after from : List ℕ) → goes_on after from after from ≡ some_suffix (wildcard after) from
goes_on-again after from = sym (some_suffix-split (wildcard after) from)

pub Tries-star : (pattern item symbols bytes after from rest later : List ℕ) → symbols ≡ star ∷ rest → some_suffix (wildcard rest) bytes ≡ some_suffix (wildcard rest) later → Tries pattern item symbols bytes after from → Tries pattern item rest later rest later
Tries-star pattern item symbols bytes after from rest later is_star same t =
    let at = Tries-at (star ∷ rest) bytes is_star refl t in
    let kept = at.few in
    record {
      told = at.told ∙ (star-goes_on rest bytes after from at.covered ∙ (goes_on-again rest bytes ∙ (same ∙ sym (goes_on-again rest later))));
      covered = star-covered rest later;
      few = omega arith;
      few_after = omega arith;
    }

-- no `*` at the front
other_first : (symbol : ℕ) (symbols left : List ℕ) → symbols ≡ symbol ∷ left → (get_or symbols 0 0 ≡ star → ⊥) → eqb symbol star ≡ false
other_first symbol symbols left is other = ne_eqb symbol star (λ e. other (ap (λ s. get_or s 0 0) is ∙ e))

pub Tries-one : (pattern item symbols bytes after from symbols_left bytes_left : List ℕ) → (get_or symbols 0 0 ≡ star → ⊥) → TakesOne symbols bytes symbols_left bytes_left → Tries pattern item symbols bytes after from → Tries pattern item symbols_left bytes_left after from
Tries-one pattern item symbols bytes after from symbols_left bytes_left other one t =
    let at = Tries-at (one.symbol ∷ symbols_left) (one.byte ∷ bytes_left) one.symbols_are one.bytes_are t in
    let plain = other_first one.symbol symbols symbols_left one.symbols_are other in
    let kept = at.few in
    record {
      told = at.told ∙ byte-goes_on one.symbol one.byte symbols_left bytes_left after from plain one.fit;
      covered = byte-covered one.symbol one.byte symbols_left bytes_left after from plain at.covered;
      few = omega arith;
      few_after = t.few_after;
    }

-- the symbols match nothing at the front of the bytes
pub IsStuck : (symbols bytes : List ℕ) → (get_or symbols 0 0 ≡ star → ⊥) → 1 ≤ length bytes → CannotFit symbols bytes → wildcard symbols bytes ≡ false
IsStuck symbols [] other some none = absurd (omega arith)
IsStuck [] (byte ∷ bytes) other some none = end-none byte bytes
IsStuck (symbol ∷ symbols) (byte ∷ bytes) other some none =
    ⊎_elim (λ empty. absurd (omega arith)) (⊎_elim (λ empty. absurd (omega arith)) (λ unfit. byte-none symbol byte symbols bytes (ne_eqb symbol star other) unfit)) none

pub Tries-again : (pattern item symbols bytes after from later : List ℕ) → (get_or symbols 0 0 ≡ star → ⊥) → 1 ≤ length bytes → CannotFit symbols bytes → 1 ≤ length from → some_suffix (wildcard after) (take (length from - 1) (drop 1 from)) ≡ some_suffix (wildcard after) later → Tries pattern item symbols bytes after from → Tries pattern item after later after later
Tries-again pattern item symbols bytes after from later other more none some same t =
    let shorter = take (length from - 1) (drop 1 from) in
    let at = ap (λ f. goes_on symbols bytes after f) (front from some) in
    record {
      told = t.told ∙ (at ∙ (retry-goes_on symbols bytes after (get_or from 0 0) shorter (IsStuck symbols bytes other more none) ∙ (goes_on-again after shorter ∙ (same ∙ sym (goes_on-again after later)))));
      covered = star-covered after later;
      few = t.few_after;
      few_after = t.few_after;
    }

-- nothing is left to try
pub Tries-none : (pattern item symbols bytes after from : List ℕ) → (get_or symbols 0 0 ≡ star → ⊥) → 1 ≤ length bytes → CannotFit symbols bytes → length from < 1 → Tries pattern item symbols bytes after from → wildcard pattern item ≡ false
Tries-none pattern item symbols bytes after [] other more none ended t = t.told ∙ rw (IsStuck symbols bytes other more none) refl
Tries-none pattern item symbols bytes after (first ∷ from) other more none ended t = absurd (omega arith)

-- at the end of the bytes the pattern has matched just where no symbol is left
pub Tries-end : (pattern item symbols bytes after from : List ℕ) → (get_or symbols 0 0 ≡ star → ⊥) → length bytes < 1 → Tries pattern item symbols bytes after from → wildcard pattern item ≡ eqb (length symbols) 0
Tries-end pattern item symbols (byte ∷ bytes) after from other none t = absurd (omega arith)
Tries-end pattern item [] [] after from other none t = t.told
Tries-end pattern item (symbol ∷ symbols) [] after from other none t =
    (t.told ∙ empty-none symbol symbols after from (ne_eqb symbol star other) t.covered) ∙ sym (ne_eqb (suc (length symbols)) 0 (λ e. omega arith))

-- the measure falls where the bytes to try are fewer
pub fewer-steps : (a b m s t : ℕ) → a < b → s ≤ m → a * (m + 1) + s < b * (m + 1) + t
fewer-steps a b m s t lt le =
    let more : (a + 1) * (m + 1) ≤ b * (m + 1) = mul-le-mul_right (m + 1) (omega arith) in
    let opened : (a + 1) * (m + 1) ≡ a * (m + 1) + (m + 1) = omega arith in
    omega arith

pub no_more-steps : (a b m s t : ℕ) → a ≤ b → s < t → a * (m + 1) + s < b * (m + 1) + t
no_more-steps a b m s t le lt = let more : a * (m + 1) ≤ b * (m + 1) = mul-le-mul_right (m + 1) le in omega arith

-- ---- where the symbols after a `*` may match

some_suffix-skip : (test : List ℕ → Bool) (bytes : List ℕ) (place : ℕ) → place ≤ length bytes → ((k : ℕ) → k < place → test (drop k bytes) ≡ false) → some_suffix test bytes ≡ some_suffix test (drop place bytes)
some_suffix-skip test bytes zero le none = refl
some_suffix-skip test [] (suc place) le none = absurd (omega arith)
some_suffix-skip test (byte ∷ bytes) (suc place) le none =
    rw (none 0 (omega arith)) (some_suffix-skip test bytes place (omega arith) (λ k lt. none (suc k) (omega arith)))

-- at the end no symbols match
pub seek-end : (bytes : List ℕ) → some_suffix (wildcard []) bytes ≡ some_suffix (wildcard []) []
seek-end bytes = some_suffix-from (wildcard []) bytes (length bytes) (omega arith) (rw drop_all_bytes refl)
  where
    drop_all_bytes : drop (length bytes) bytes ≡ []
    drop_all_bytes = grind (arith, common_steps)

first_byte-none : (symbol : ℕ) (symbols bytes : List ℕ) (k : ℕ) → eqb symbol star ≡ false → eqb symbol question_mark ≡ false → k < length bytes → eqb (get_or bytes k 0) symbol ≡ false → wildcard (symbol ∷ symbols) (drop k bytes) ≡ false
first_byte-none symbol symbols [] k is_star any lt other = absurd (omega arith)
first_byte-none symbol symbols (byte ∷ bytes) zero is_star any lt other = byte-none symbol byte symbols bytes is_star (rw any (ne_eqb symbol byte (λ e. both_ways _ other (eq-eqb byte symbol (sym e)))))
first_byte-none symbol symbols (byte ∷ bytes) (suc k) is_star any lt other = first_byte-none symbol symbols bytes k is_star any (omega arith) other

pub seek-to : (symbol : ℕ) (symbols bytes : List ℕ) (place : ℕ) → eqb symbol star ≡ false → eqb symbol question_mark ≡ false → place ≤ length bytes → ((k : ℕ) → k < place → eqb (get_or bytes k 0) symbol ≡ false) → some_suffix (wildcard (symbol ∷ symbols)) bytes ≡ some_suffix (wildcard (symbol ∷ symbols)) (drop place bytes)
seek-to symbol symbols bytes place is_star any le none =
    some_suffix-skip (wildcard (symbol ∷ symbols)) bytes place le (λ k lt. first_byte-none symbol symbols bytes k is_star any (omega arith) (none k lt))

pub seek-empty : (symbols bytes : List ℕ) → length symbols < 1 → some_suffix (wildcard symbols) bytes ≡ wildcard symbols []
seek-empty [] bytes none = seek-end bytes
seek-empty (symbol ∷ symbols) bytes none = absurd (omega arith)

-- the first place of a byte, or the end
found-before : (symbol : ℕ) (bytes : List ℕ) (r : Option ℕ) → IsFirstByte (is_byte symbol) bytes r → (unwrap_or r (length bytes) ≤ length bytes) × ((k : ℕ) → k < unwrap_or r (length bytes) → eqb (get_or bytes k 0) symbol ≡ false)
found-before symbol bytes (Some place) found =
    let high = found.0.high in (omega arith, λ k lt. false_from_ne_true _ (found.0.before k (omega arith) lt))
found-before symbol bytes None found = (omega arith, λ k lt. false_from_ne_true _ (found k (omega arith) lt))

pub seek-found : (symbols bytes : List ℕ) (r : Option ℕ) (place : ℕ) → 1 ≤ length symbols → (get_or symbols 0 0 ≡ star → ⊥) → (get_or symbols 0 0 ≡ question_mark → ⊥) → IsFirstByte (is_byte (get_or symbols 0 0)) bytes r → place ≡ unwrap_or r (length bytes) → some_suffix (wildcard symbols) bytes ≡ some_suffix (wildcard symbols) (take (length bytes - place) (drop place bytes))
seek-found [] bytes r place some is_star any found is = absurd (omega arith)
seek-found (symbol ∷ symbols) bytes r place some is_star any found is =
    let before = found-before symbol bytes r found in
    let le : place ≤ length bytes = omega (arith, before.0) in
    let rest : take (length bytes - place) (drop place bytes) ≡ drop place bytes = grind (arith, common_steps) in
    rw rest (seek-to symbol symbols bytes place (ne_eqb symbol star is_star) (ne_eqb symbol question_mark any) le (λ k lt. before.1 k (omega arith)))

-- ---- a pattern of two parts

split-pieces : (front back : List ℕ) (pieces : List (List ℕ)) → AllZip StandsFor (front ++ back) pieces → (a : List ℕ) × (b : List ℕ) × (concat pieces ≡ a ++ b) × Matches front a × Matches back b
split-pieces [] back pieces each =
    ([], concat pieces, refl, record { pieces = []; each = tt; whole = refl }, record { pieces = pieces; each = each; whole = refl })
split-pieces (symbol ∷ front) back [] each = absurd each
split-pieces (symbol ∷ front) back (piece ∷ pieces) each =
    let more = split-pieces front back pieces each.1 in (
      piece ++ more.0,
      more.1,
      ap (λ s. piece ++ s) more.2 ∙ sym (append_assoc piece more.0 more.1),
      record {
        pieces = piece ∷ more.3.pieces;
        each = (each.0, more.3.each);
        whole = ap (λ s. piece ++ s) more.3.whole;
      },
      more.4,
    )

join-pieces : (front back : List ℕ) (ps qs : List (List ℕ)) → AllZip StandsFor front ps → AllZip StandsFor back qs → AllZip StandsFor (front ++ back) (ps ++ qs)
join-pieces [] back [] qs f b = b
join-pieces [] back (p ∷ ps) qs f b = absurd f
join-pieces (symbol ∷ front) back [] qs f b = absurd f
join-pieces (symbol ∷ front) back (p ∷ ps) qs f b = (f.0, join-pieces front back ps qs f.1 b)

concat-append : (ps qs : List (List ℕ)) → concat (ps ++ qs) ≡ concat ps ++ concat qs
concat-append [] qs = refl
concat-append (p ∷ ps) qs = ap (λ s. p ++ s) (concat-append ps qs) ∙ sym (append_assoc p (concat ps) (concat qs))

pub Matches-append : (front back item : List ℕ) → (Matches (front ++ back) item → (a : List ℕ) × (b : List ℕ) × (item ≡ a ++ b) × Matches front a × Matches back b)
    × (((a : List ℕ) × (b : List ℕ) × (item ≡ a ++ b) × Matches front a × Matches back b) → Matches (front ++ back) item)
Matches-append front back item = (
  λ m. let parts = split-pieces front back m.pieces m.each in (parts.0, parts.1, sym m.whole ∙ parts.2, parts.3, parts.4),
  λ parts. record {
    pieces = parts.3.pieces ++ parts.4.pieces;
    each = join-pieces front back parts.3.pieces parts.4.pieces parts.3.each parts.4.each;
    whole = concat-append parts.3.pieces parts.4.pieces ∙ (ap (λ s. s ++ concat parts.4.pieces) parts.3.whole ∙ (ap (λ s. parts.0 ++ s) parts.4.whole ∙ sym parts.2));
  },
)
