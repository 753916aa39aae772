-- Words in their places: which have no code, and what they are then.
use Rattle.std.proofs.Common.{◌≡◌, ℕ, zero, suc, ◌<◌, ◌≤◌, Bool, true, false, not, eqb, ltb, List, [], ◌∷◌, ◌++◌, length, get_or, take, Option, Some, None, is_some, unwrap_or, refl, ap, sym, ◌∙◌, ⊎_elim, append-nil, arith}
use Rattle.std.specs.Prelude.{◌&&◌}
use Rattle.std.specs.List.{flat_map, list_any, AllPairs}
use Rattle.std.specs.Str.{bytes_eq}
use Rattle.std.proofs.lemmas.Bool.{cases_Bool, ltb-false, eqb-false, not-false, le-ltb, ne_eqb, false_from_ne_true, or_right}
use Rattle.std.proofs.lemmas.List.{take_all, get_or_append_left}
use Rattle.std.proofs.lemmas.Slice.Eq.{bytes_eq-Decides}
use Rattle.qtc_job.specs.Answers.{one_codes}
use Rattle.qtc_job_file.specs.Canonical.{name_at}
use Rattle.qtc_job.specs.Codes.{where_, form_codes, word_codes, is_no_number, is_out_of_range, names_no_job, is_no_literal, is_no_name}
use Rattle.qtc_job.specs.Forms.{Place, number, priority, literal, name, earlier, exactly, up_to}
use Rattle.qtc_job.specs.Literals.{is_numeral, is_within, unsigned, is_priority, is_literal, literal_of, text_of}
use Rattle.qtc_job_file.specs.Names.{is_name}
use Rattle.qtc_job.specs.Meaning.{place_of}
use Rattle.qtc_job.proofs.FormLemmas.{exactly-none, exactly-one, exactly-two, up_to-many}

-- ---- lists of codes

pub where-none : (row : Bool) (code : ℕ) → where_ row code ≡ [] → row ≡ false
where-none true code e = cc
where-none false code e = refl

pub append-none : (a b : List ℕ) → a ++ b ≡ [] → (a ≡ []) × (b ≡ [])
append-none [] b e = (refl, e)
append-none (x ∷ a) b e = cc

pub none-append : (a b : List ℕ) → a ≡ [] → b ≡ [] → a ++ b ≡ []
none-append a b p q = rw p q

-- ---- one word

record HasNoCodes (names : List (List ℕ)) (place : Place) (word : List ℕ) : Type 0 where
  number : is_no_number place word ≡ false
  range : is_out_of_range place word ≡ false
  job : names_no_job names place word ≡ false
  literal : is_no_literal place word ≡ false
  name : is_no_name place word ≡ false

no-codes : (names : List (List ℕ)) (place : Place) (word : List ℕ) → word_codes names place word ≡ [] → HasNoCodes names place word
no-codes names place word e =
    let a = append-none (where_ (is_no_number place word) 3) _ e in
    let b = append-none (where_ (is_out_of_range place word) 4) _ a.1 in
    let c = append-none (where_ (names_no_job names place word) 6) _ b.1 in
    let d = append-none (where_ (is_no_literal place word) 14) _ c.1 in
    record {
      number = where-none (is_no_number place word) 3 a.0;
      range = where-none (is_out_of_range place word) 4 b.0;
      job = where-none (names_no_job names place word) 6 c.0;
      literal = where-none (is_no_literal place word) 14 d.0;
      name = where-none (is_no_name place word) 15 d.1;
    }

and-not : (a b : Bool) → a ≡ true → (a && not b) ≡ false → b ≡ true
and-not true true e f = refl
and-not true false e f = cc
and-not false b e f = cc

pub number-good : (names : List (List ℕ)) (least most : ℕ) (word : List ℕ) → word_codes names (number least most) word ≡ [] → (is_numeral word ≡ true) × (is_within least most word ≡ true)
number-good names least most word e =
    let none = no-codes names (number least most) word e in
    let numeral = not-false (is_numeral word) none.number in
    (numeral, and-not (is_numeral word) (is_within least most word) numeral none.range)

pub priority-good : (names : List (List ℕ)) (word : List ℕ) → word_codes names priority word ≡ [] → is_priority word ≡ true
priority-good names word e =
    let none = no-codes names priority word e in
    and-not (is_numeral (unsigned word)) (is_priority word) (not-false (is_numeral (unsigned word)) none.number) none.range

some-value : (o : Option (List ℕ)) → is_some o ≡ true → o ≡ Some (unwrap_or o [])
some-value None e = cc
some-value (Some text) e = refl

pub literal-good : (names : List (List ℕ)) (word : List ℕ) → word_codes names literal word ≡ [] → literal_of word ≡ Some (text_of word)
literal-good names word e = some-value (literal_of word) (not-false (is_literal word) (no-codes names literal word e).literal)

pub name-good : (names : List (List ℕ)) (word : List ℕ) → word_codes names name word ≡ [] → is_name word ≡ true
name-good names word e = not-false (is_name word) (no-codes names name word e).name

pub earlier-good : (names : List (List ℕ)) (word : List ℕ) → word_codes names earlier word ≡ [] → list_any (bytes_eq word) names ≡ true
earlier-good names word e = not-false (list_any (bytes_eq word) names) (no-codes names earlier word e).job

pub number-none : (names : List (List ℕ)) (least most : ℕ) (word : List ℕ) → is_numeral word ≡ true → is_within least most word ≡ true → word_codes names (number least most) word ≡ []
number-none names least most word numeral within = rw (numeral, within) refl

pub priority-none : (names : List (List ℕ)) (word : List ℕ) → is_numeral (unsigned word) ≡ true → is_priority word ≡ true → word_codes names priority word ≡ []
priority-none names word numeral within = rw (numeral, within) refl

pub literal-none : (names : List (List ℕ)) (word text : List ℕ) → literal_of word ≡ Some text → word_codes names literal word ≡ []
literal-none names word text e = rw e refl

pub name-none : (names : List (List ℕ)) (word : List ℕ) → is_name word ≡ true → word_codes names name word ≡ []
name-none names word is = rw is refl

pub earlier-none : (names : List (List ℕ)) (word : List ℕ) → list_any (bytes_eq word) names ≡ true → word_codes names earlier word ≡ []
earlier-none names word there = rw there refl

-- ---- the words of a form

no-words : {A : Type 0} (words : List A) → ltb 0 (length words) ≡ false → words ≡ []
no-words [] e = refl
no-words (word ∷ words) e = let le = ltb-false 0 (length (word ∷ words)) e in absurd (omega arith)

pub exactly-none_good : (names words : List (List ℕ)) → form_codes names (exactly [] words) ≡ [] → words ≡ []
exactly-none_good names words e = no-words words (where-none (ltb 0 (length words)) 13 (sym (exactly-none names words) ∙ e))

one-good : (codes : List ℕ → List ℕ) (words : List (List ℕ)) → one_codes codes words ≡ [] → (word : List ℕ) × (words ≡ word ∷ []) × (codes word ≡ [])
one-good codes [] e = cc
one-good codes (word ∷ after) e =
    let parts = append-none (codes word) (where_ (ltb 0 (length after)) 13) e in
    (word, ap (λ s. word ∷ s) (no-words after (where-none (ltb 0 (length after)) 13 parts.1)), parts.0)

pub exactly-one_good : (names : List (List ℕ)) (place : Place) (words : List (List ℕ)) → form_codes names (exactly (place ∷ []) words) ≡ [] → (word : List ℕ) × (words ≡ word ∷ []) × (word_codes names place word ≡ [])
exactly-one_good names place words e = one-good (word_codes names place) words (sym (exactly-one names place words) ∙ e)

pub exactly-two_good : (names : List (List ℕ)) (p q : Place) (words : List (List ℕ)) → form_codes names (exactly (p ∷ q ∷ []) words) ≡ [] → (a : List ℕ) × (b : List ℕ) × (words ≡ a ∷ b ∷ []) × (word_codes names p a ≡ []) × (word_codes names q b ≡ [])
exactly-two_good names p q [] e = cc
exactly-two_good names p q (a ∷ []) e = cc
exactly-two_good names p q (a ∷ b ∷ after) e =
    let parts = append-none (word_codes names p a ++ word_codes names q b) (where_ (ltb 0 (length after)) 13) (sym (exactly-two names p q a b after) ∙ e) in
    let both = append-none (word_codes names p a) (word_codes names q b) parts.0 in
    (a, b, ap (λ s. a ∷ b ∷ s) (no-words after (where-none (ltb 0 (length after)) 13 parts.1)), both.0, both.1)

-- no word has a code
abbrev pub HaveNoCodes : (List ℕ → List ℕ) → List (List ℕ) → Type 0
HaveNoCodes codes [] = Unit {0}
HaveNoCodes codes (word ∷ words) = (codes word ≡ []) × HaveNoCodes codes words

each-good : (codes : List ℕ → List ℕ) (words : List (List ℕ)) → flat_map codes words ≡ [] → HaveNoCodes codes words
each-good codes [] e = tt
each-good codes (word ∷ words) e =
    let parts = append-none (codes word) (flat_map codes words) e in
    (parts.0, each-good codes words parts.1)

each-none : (codes : List ℕ → List ℕ) (words : List (List ℕ)) → HaveNoCodes codes words → flat_map codes words ≡ []
each-none codes [] none = refl
each-none codes (word ∷ words) none = none-append (codes word) (flat_map codes words) none.0 (each-none codes words none.1)

pub record IsManyGood (codes : List ℕ → List ℕ) (most : ℕ) (words : List (List ℕ)) : Type 0 where
  pub some : 1 ≤ length words
  pub few : length words ≤ most
  pub each : HaveNoCodes codes words

pub up_to-good : (names : List (List ℕ)) (most : ℕ) (place : Place) (words : List (List ℕ)) → form_codes names (up_to most place words) ≡ [] → IsManyGood (word_codes names place) most words
up_to-good names most place words e =
    let a = append-none (where_ (eqb (length words) 0) 2) _ (sym (up_to-many names most place words) ∙ e) in
    let b = append-none (flat_map (word_codes names place) (take most words)) _ a.1 in
    let some = eqb-false (length words) 0 (where-none (eqb (length words) 0) 2 a.0) in
    let few = ltb-false most (length words) (where-none (ltb most (length words)) 13 b.1) in
    record {
      some = omega arith;
      few = few;
      each = each-good (word_codes names place) words (ap (flat_map (word_codes names place)) (sym (take_all most words few)) ∙ b.0);
    }

pub exactly-one_none : (names : List (List ℕ)) (place : Place) (word : List ℕ) → word_codes names place word ≡ [] → form_codes names (exactly (place ∷ []) (word ∷ [])) ≡ []
exactly-one_none names place word none = exactly-one names place (word ∷ []) ∙ (append-nil (word_codes names place word) ∙ none)

pub exactly-two_none : (names : List (List ℕ)) (p q : Place) (a b : List ℕ) → word_codes names p a ≡ [] → word_codes names q b ≡ [] → form_codes names (exactly (p ∷ q ∷ []) (a ∷ b ∷ [])) ≡ []
exactly-two_none names p q a b first second = exactly-two names p q a b [] ∙ (append-nil (word_codes names p a ++ word_codes names q b) ∙ none-append (word_codes names p a) (word_codes names q b) first second)

pub up_to-none : (names : List (List ℕ)) (most : ℕ) (place : Place) (words : List (List ℕ)) → 1 ≤ length words → length words ≤ most → HaveNoCodes (word_codes names place) words → form_codes names (up_to most place words) ≡ []
up_to-none names most place words some few none =
    let not_empty = ne_eqb (length words) 0 (λ e. omega arith) in
    let within = le-ltb most (length words) few in
    let all = take_all most words few in
    up_to-many names most place words ∙ rw (not_empty, within, all) (append-nil (flat_map (word_codes names place) words) ∙ each-none (word_codes names place) words none)

-- ---- places of jobs

place-here : (names : List (List ℕ)) (n word : List ℕ) → bytes_eq word n ≡ true → place_of (n ∷ names) word ≡ 0
place-here names n word same = rw same refl

place-later : (names : List (List ℕ)) (n word : List ℕ) → bytes_eq word n ≡ false → place_of (n ∷ names) word ≡ suc (place_of names word)
place-later names n word other = rw other (omega arith)

pub name-found : (names : List (List ℕ)) (word : List ℕ) → list_any (bytes_eq word) names ≡ true → (place_of names word < length names) × (get_or names (place_of names word) [] ≡ word)
name-found [] word there = cc
name-found (n ∷ names) word there = ⊎_elim
    (λ (here : bytes_eq word n ≡ true). rw (place-here names n word here) (omega arith, sym ((bytes_eq-Decides word n).0 here)))
    (λ (other : bytes_eq word n ≡ false).
    let f : list_any (bytes_eq word) names ≡ true = rw other at there in
    let more = name-found names word f in
    let less = more.0 in
    rw (place-later names n word other) (omega arith, more.1))
    (cases_Bool (bytes_eq word n))

pub name-longer : (names all more : List (List ℕ)) (place : ℕ) → all ≡ names ++ more → place < length names → name_at all place ≡ get_or names place []
name-longer names all more place e less = rw e (get_or_append_left names more [] place less)

abbrev pub AreApart : List (List ℕ) → Type 0
AreApart names = AllPairs (λ a b. ¬ (a ≡ b)) names

apart-tail : (n : List ℕ) (names : List (List ℕ)) → AreApart (n ∷ names) → AreApart names
apart-tail n names apart = λ i j d less within. apart (suc i) (suc j) d (omega arith) (omega arith)

pub place-found : (names : List (List ℕ)) (place : ℕ) → AreApart names → place < length names → (place_of names (get_or names place []) ≡ place) × (list_any (bytes_eq (get_or names place [])) names ≡ true)
place-found [] place apart less = absurd (omega arith)
place-found (n ∷ names) zero apart less = let same = (bytes_eq-Decides n n).1 refl in (place-here names n n same, rw same refl)
place-found (n ∷ names) (suc place) apart less =
    let within : place < length names = omega arith in
    let there = place-found names place (apart-tail n names apart) within in
    let other : bytes_eq (get_or names place []) n ≡ false = false_from_ne_true (bytes_eq (get_or names place []) n) (λ e. apart 0 (suc place) [] (omega arith) (omega arith) (sym ((bytes_eq-Decides (get_or names place []) n).0 e))) in
    (place-later names n (get_or names place []) other ∙ ap suc there.0, or_right (bytes_eq (get_or names place []) n) (list_any (bytes_eq (get_or names place [])) names) there.1)
