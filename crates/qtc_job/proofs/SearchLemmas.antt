-- The first bad pair is the least one.
use Rattle.std.proofs.Common.{◌≡◌, ℕ, zero, suc, ◌+◌, ◌-◌, ◌<◌, ◌≤◌, min, Bool, true, false, cond, ltb, List, [], ◌∷◌, ◌++◌, length, take, drop, reverse, get_or, Option, Some, None, unwrap_or, refl, ap, sym, subst, ◌∙◌, append-nil, inl, inr, ◌⊎◌, ⊎_elim, arith}
use Rattle.std.specs.Prelude.{Contains}
use Rattle.std.proofs.lemmas.Bool.{cases_Bool, ltb-true, ltb-false}
use Rattle.std.proofs.lemmas.Bool.Decides.{nat_tests}
use Rattle.std.proofs.lemmas.Grind.{common_steps}
use Rattle.qtc_job.specs.Answers.{least}
use Rattle.std.specs.List.{flat_map}
use Rattle.qtc_job.specs.Codes.{codes_on, own_codes, job_codes, own_below, above_codes, form_codes, word_codes, where_, is_unknown, ends_early, has_more_words, is_no_number, is_out_of_range, names_no_job, is_no_literal, is_no_name, is_repeated, repeats_a_name, is_a_job_too_many, is_misplaced, is_chained_too_late, lacks_input, lacks_one_function, orders_no_fold, earlier_names}
use Rattle.qtc_job.specs.Forms.{Form, Place, placed, workers_form, job_form, directive_form}
use Rattle.qtc_job_file.specs.declared.jobs.JobFile.{JobFile}
use Rattle.qtc_job.specs.Meaning.{file_of}
use Rattle.qtc_job.specs.Grammar.{IsBad, IsLeastBad, Reads, codes_at}
use Rattle.qtc_job.specs.Lines.{Line, too_long, silent, unknown, workers, job, says, is_job}
use Rattle.qtc_job.specs.Search.{found, first_bad}

-- a code of a list is not below the least one
least-contains : (codes : List ℕ) (code place : ℕ) → place < length codes → get_or codes place code ≡ code → least codes ≤ code
least-contains [] code place less e = absurd (omega arith)
least-contains (c ∷ codes) code zero less e = omega arith
least-contains (c ∷ codes) code (suc place) less e = let there = least-contains codes code place (omega arith) e in omega arith

-- the least code is one of them
contains-least : (codes : List ℕ) → least codes < 100 → Contains codes (least codes)
contains-least [] less = absurd (omega arith)
contains-least (c ∷ codes) less = ⊎_elim
    (λ (low : ltb c (least codes) ≡ true). (0, omega arith, let e : c ≡ min c (least codes) = grind (arith, nat_tests) in e))
    (λ (high : ltb c (least codes) ≡ false).
    let e : min c (least codes) ≡ least codes = grind (arith, nat_tests) in
    let there = contains-least codes (omega arith) in
    let less_there = there.1 in
    subst (λ (n : ℕ). Contains (c ∷ codes) n) (sym e) (suc there.0, omega arith, there.2))
    (cases_Bool (ltb c (least codes)))

-- ---- every code is below 100

abbrev AreSmall : List ℕ → Type 0
AreSmall [] = Unit {0}
AreSmall (c ∷ codes) = (c < 100) × AreSmall codes

small-append : (m n : List ℕ) → AreSmall m → AreSmall n → AreSmall (m ++ n)
small-append [] n p q = q
small-append (c ∷ m) n p q = (p.0, small-append m n p.1 q)

small-where : (b : Bool) (code : ℕ) → code < 100 → AreSmall (where_ b code)
small-where true code less = (less, tt)
small-where false code less = tt

small-where_then : (b : Bool) (code : ℕ) (more : List ℕ) → code < 100 → AreSmall more → AreSmall (where_ b code ++ more)
small-where_then b code more less s = small-append (where_ b code) more (small-where b code less) s

small-word : (names : List (List ℕ)) (place : Place) (word : List ℕ) → AreSmall (word_codes names place word)
small-word names place word =
    small-where_then (is_no_number place word) 3 _ (omega arith) (small-where_then (is_out_of_range place word) 4 _ (omega arith) (small-where_then (names_no_job names place word) 6 _ (omega arith)
    (small-where_then (is_no_literal place word) 14 _ (omega arith) (small-where (is_no_name place word) 15 (omega arith)))))

small-words : (names : List (List ℕ)) (ps : List (Place × List ℕ)) → AreSmall (flat_map (λ (p : Place × List ℕ). word_codes names p.0 p.1) ps)
small-words names [] = tt
small-words names (p ∷ ps) = small-append (word_codes names p.0 p.1) _ (small-word names p.0 p.1) (small-words names ps)

small-form : (names : List (List ℕ)) (form : Form) → AreSmall (form_codes names form)
small-form names form =
    small-where_then (is_unknown form) 1 _ (omega arith) (small-where_then (ends_early form) 2 _ (omega arith)
    (small-append (flat_map (λ (p : Place × List ℕ). word_codes names p.0 p.1) (placed form)) _ (small-words names (placed form)) (small-where (has_more_words form) 13 (omega arith))))

small-above : (above : List Line) (l : Line) → AreSmall (above_codes above l)
small-above above l =
    small-where_then (is_repeated above l) 5 _ (omega arith) (small-where_then (repeats_a_name above l) 7 _ (omega arith) (small-where_then (is_a_job_too_many above l) 12 _ (omega arith)
    (small-where_then (is_misplaced above l) 16 _ (omega arith) (small-where (is_chained_too_late above l) 17 (omega arith)))))

small-own : (above : List Line) (l : Line) → AreSmall (own_codes above l)
small-own above too_long = (omega arith, tt)
small-own above silent = tt
small-own above unknown = (omega arith, tt)
small-own above (workers args) = small-append (form_codes [] (workers_form args)) _ (small-form [] (workers_form args)) (small-above above (workers args))
small-own above (job args) = small-append (form_codes [] (job_form args)) _ (small-form [] (job_form args)) (small-above above (job args))
small-own above (says k args) = small-append (form_codes (earlier_names above) (directive_form k args)) _ (small-form (earlier_names above) (directive_form k args)) (small-above above (says k args))

small-job : (own : List Line) → AreSmall (job_codes own)
small-job own = small-where_then (lacks_input own) 8 _ (omega arith) (small-where_then (lacks_one_function own) 9 _ (omega arith) (small-where (orders_no_fold own) 10 (omega arith)))

small-if : (b : Bool) (codes : List ℕ) → AreSmall codes → AreSmall (cond b codes [])
small-if true codes s = s
small-if false codes s = tt

small-on : (above : List Line) (l : Line) (below : List Line) → AreSmall (codes_on above l below)
small-on above l below = small-append (own_codes above l) _ (small-own above l) (small-if (is_job l) (job_codes (own_below below)) (small-job (own_below below)))

small-get : (codes : List ℕ) (place code : ℕ) → AreSmall codes → place < length codes → get_or codes place code ≡ code → code < 100
small-get [] place code s less e = absurd (omega arith)
small-get (c ∷ codes) zero code s less e = let small = s.0 in omega arith
small-get (c ∷ codes) (suc place) code s less e = small-get codes place code s.1 (omega arith) e

small-contains : (codes : List ℕ) (code : ℕ) → AreSmall codes → Contains codes code → code < 100
small-contains codes code s has = small-get codes has.0 code s has.1 has.2

least-le_contains : (codes : List ℕ) (code : ℕ) → Contains codes code → least codes ≤ code
least-le_contains codes code has = least-contains codes code has.0 has.1 has.2

-- ---- the codes at a place, where other lines stand above the first one

abbrev pub at : List Line → List Line → ℕ → List ℕ
at above ls i = codes_on (reverse (take i ls) ++ above) (get_or ls i silent) (drop (suc i) ls)

pub at-suc : (above : List Line) (l : Line) (ls : List Line) (i : ℕ) → at above (l ∷ ls) (suc i) ≡ at (l ∷ above) ls i
at-suc above l ls i =
    let e : reverse (take (suc i) (l ∷ ls)) ++ above ≡ reverse (take i ls) ++ (l ∷ above) = grind (arith, common_steps) in
    ap (λ a. codes_on a (get_or ls i silent) (drop (suc i) ls)) e

pub record IsFirstAt (above ls : List Line) (i code : ℕ) : Type 0 where
  pub within : i < length ls
  pub has : Contains (at above ls i) code
  pub least_of : (j k : ℕ) → j < length ls → Contains (at above ls j) k → (i < j) ⊎ ((i ≡ j) × (code ≤ k))

found-here : (code line : ℕ) (later : Option (ℕ × ℕ)) → code < 100 → found code line later ≡ Some (line, code)
found-here code line later less = let e : ltb code 100 ≡ true = grind (arith, nat_tests) in rw e refl

found-later : (code line : ℕ) (later : Option (ℕ × ℕ)) → ltb code 100 ≡ false → found code line later ≡ later
found-later code line later e = rw e refl

-- no code at the first line
none-here : (above : List Line) (l : Line) (ls : List Line) → ltb (least (codes_on above l ls)) 100 ≡ false → (k : ℕ) → Contains (codes_on above l ls) k → ⊥
none-here above l ls past k has =
    let small = small-contains (codes_on above l ls) k (small-on above l ls) has in
    let le = least-le_contains (codes_on above l ls) k has in
    let high : 100 ≤ least (codes_on above l ls) = ltb-false (least (codes_on above l ls)) 100 past in
    omega arith

none-at_place : (above : List Line) (n : ℕ) (l : Line) (ls : List Line) → ltb (least (codes_on above l ls)) 100 ≡ false → ((j k : ℕ) → j < length ls → Contains (at (l ∷ above) ls j) k → ⊥) → (j k : ℕ) → j < length (l ∷ ls) → Contains (at above (l ∷ ls) j) k → ⊥
none-at_place above n l ls past later zero k less has = none-here above l ls past k has
none-at_place above n l ls past later (suc j) k less has = later j k (omega arith) (subst (λ (codes : List ℕ). Contains codes k) (at-suc above l ls j) has)

least-first : (above : List Line) (l : Line) (ls : List Line) (code : ℕ) → least (codes_on above l ls) ≡ code → (j k : ℕ) → Contains (at above (l ∷ ls) j) k → (0 < j) ⊎ ((0 ≡ j) × (code ≤ k))
least-first above l ls code e zero k has = inr (refl, let le = least-le_contains (codes_on above l ls) k has in omega arith)
least-first above l ls code e (suc j) k has = inl (omega arith)

least-later : (above : List Line) (l : Line) (ls : List Line) → ltb (least (codes_on above l ls)) 100 ≡ false → (i code : ℕ) → ((j k : ℕ) → j < length ls → Contains (at (l ∷ above) ls j) k → (i < j) ⊎ ((i ≡ j) × (code ≤ k))) → (j k : ℕ) → j < length (l ∷ ls) → Contains (at above (l ∷ ls) j) k → (suc i < j) ⊎ ((suc i ≡ j) × (code ≤ k))
least-later above l ls past i code later zero k less has = absurd (none-here above l ls past k has)
least-later above l ls past i code later (suc j) k less has = ⊎_elim
    (λ (before : i < j). inl (omega arith))
    (λ (same : (i ≡ j) × (code ≤ k)). inr (ap suc same.0, same.1))
    (later j k (omega arith) (subst (λ (codes : List ℕ). Contains codes k) (at-suc above l ls j) has))

none-at : (above : List Line) (n : ℕ) (ls : List Line) → first_bad above n ls ≡ None → (j k : ℕ) → j < length ls → Contains (at above ls j) k → ⊥
none-at above n [] e j k less has = omega arith
none-at above n (l ∷ ls) e j k less has = ⊎_elim
    (λ (here : ltb (least (codes_on above l ls)) 100 ≡ true).
    let low : least (codes_on above l ls) < 100 = ltb-true (least (codes_on above l ls)) 100 here in
    let f = found-here (least (codes_on above l ls)) n (first_bad (l ∷ above) (n + 1) ls) low in
    absurd (let no_pair : None ≡ Some (n, least (codes_on above l ls)) = sym e ∙ f in cc))
    (λ (past : ltb (least (codes_on above l ls)) 100 ≡ false).
    let rest = sym (found-later (least (codes_on above l ls)) n (first_bad (l ∷ above) (n + 1) ls) past) ∙ e in
    none-at_place above n l ls past (none-at (l ∷ above) (n + 1) ls rest) j k less has)
    (cases_Bool (ltb (least (codes_on above l ls)) 100))

pub first-at : (above : List Line) (n : ℕ) (ls : List Line) (line code : ℕ) → first_bad above n ls ≡ Some (line, code) → (i : ℕ) × (line ≡ n + i) × IsFirstAt above ls i code
first-at above n [] line code e = absurd (let no_pair : None ≡ Some (line, code) = e in cc)
first-at above n (l ∷ ls) line code e = ⊎_elim
    (λ (here : ltb (least (codes_on above l ls)) 100 ≡ true).
    let low : least (codes_on above l ls) < 100 = ltb-true (least (codes_on above l ls)) 100 here in
    let f = found-here (least (codes_on above l ls)) n (first_bad (l ∷ above) (n + 1) ls) low in
    let pair : Some (n, least (codes_on above l ls)) ≡ Some (line, code) = sym f ∙ e in
    let same_line : n ≡ line = ap (λ (o : Option (ℕ × ℕ)). (unwrap_or o (0, 0)).0) pair in
    let same_code : least (codes_on above l ls) ≡ code = ap (λ (o : Option (ℕ × ℕ)). (unwrap_or o (0, 0)).1) pair in (
      0,
      omega arith,
      record {
        within = omega arith;
        has = subst (λ (c : ℕ). Contains (codes_on above l ls) c) same_code (contains-least (codes_on above l ls) low);
        least_of = λ j k less has. least-first above l ls code same_code j k has;
      },
    ))
    (λ (past : ltb (least (codes_on above l ls)) 100 ≡ false).
    let rest = sym (found-later (least (codes_on above l ls)) n (first_bad (l ∷ above) (n + 1) ls) past) ∙ e in
    let there = first-at (l ∷ above) (n + 1) ls line code rest in
    let at_line = there.1 in
    let within = there.2.within in (
      suc there.0,
      omega arith,
      record {
        within = omega arith;
        has = subst (λ (codes : List ℕ). Contains codes code) (sym (at-suc above l ls there.0)) there.2.has;
        least_of = λ j k less has. least-later above l ls past there.0 code there.2.least_of j k less has;
      },
    ))
    (cases_Bool (ltb (least (codes_on above l ls)) 100))

-- ---- the law, in the words of the grammar

pub codes-at : (ls : List Line) (line : ℕ) → 1 ≤ line → codes_at ls line ≡ at [] ls (line - 1)
codes-at ls line some =
    let e : suc (line - 1) ≡ line = omega arith in
    rw e (ap (λ above. codes_on above (get_or ls (line - 1) silent) (drop line ls)) (sym (append-nil (reverse (take (line - 1) ls)))))

pub first-none : (ls : List Line) → first_bad [] 1 ls ≡ None → (line code : ℕ) → IsBad ls line code → ⊥
first-none ls e line code bad =
    let some = bad.some in
    let within = bad.within in
    none-at [] 1 ls e (line - 1) code (omega arith) (subst (λ (codes : List ℕ). Contains codes code) (codes-at ls line bad.some) bad.holds)

pub first-least : (ls : List Line) (line code : ℕ) → first_bad [] 1 ls ≡ Some (line, code) → IsLeastBad ls line code
first-least ls line code e =
    let f = first-at [] 1 ls line code e in
    let at_line = f.1 in
    let within = f.2.within in
    let some : 1 ≤ line = omega arith in
    let place : line - 1 ≡ f.0 = omega arith in
    record {
      bad = record {
        some = some;
        within = omega arith;
        holds = subst (λ (codes : List ℕ). Contains codes code) (sym (codes-at ls line some)) (subst (λ (i : ℕ). Contains (at [] ls i) code) (sym place) f.2.has);
      };
      least = λ m k bad.
          let m_some = bad.some in
          let m_within = bad.within in
          ⊎_elim
          (λ (before : f.0 < m - 1). inl (omega arith))
          (λ (same : (f.0 ≡ m - 1) × (code ≤ k)). let at_m = same.0 in inr (omega arith, same.1))
          (f.2.least_of (m - 1) k (omega arith) (subst (λ (codes : List ℕ). Contains codes k) (codes-at ls m bad.some) bad.holds));
    }

read-or-refused_at : (ls : List Line) (first : Option (ℕ × ℕ)) → first_bad [] 1 ls ≡ first → ((file : JobFile) × Reads ls file) ⊎ ((line : ℕ) × (code : ℕ) × IsLeastBad ls line code)
read-or-refused_at ls None e = inl (file_of ls, record { good = first-none ls e; says = refl })
read-or-refused_at ls (Some pair) e = inr (pair.0, pair.1, first-least ls pair.0 pair.1 e)

pub read-or-refused : (ls : List Line) → ((file : JobFile) × Reads ls file) ⊎ ((line : ℕ) × (code : ℕ) × IsLeastBad ls line code)
read-or-refused ls = read-or-refused_at ls (first_bad [] 1 ls) refl
