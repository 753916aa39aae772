-- Names in the order in which they come first.
use Rattle.std.proofs.Common.{◌≡◌, ℕ, List, [], ◌∷◌, ◌++◌, Bool, true, false, not, refl, ap, sym, ◌∙◌, ⊎_elim}
use Rattle.std.specs.Prelude.{◌||◌, filter, map, is_some}
use Rattle.std.specs.List.{list_any}
use Rattle.std.specs.Str.{bytes_eq}
use Rattle.std.proofs.lemmas.Bool.{cases_Bool, true≢false}
use Rattle.std.proofs.lemmas.List.{append-nil}
use Rattle.std.proofs.lemmas.List.Elements.{filter-append}
use Rattle.std.proofs.lemmas.Map.Views.{any-filter_same}
use Rattle.std.proofs.lemmas.Slice.Eq.{bytes_eq-Decides}
use Rattle.qtc_outside.specs.Shelf.{text_under}
use Rattle.qtc_job_file.specs.Texts.{Texts}
use Rattle.qtc_load.specs.Loads.{first_named, name_of}

-- whether a name is among these
abbrev pub is_among : List ℕ → List (List ℕ) → Bool
is_among name names = list_any (λ other. bytes_eq other name) names

abbrev is_other : List ℕ → List ℕ → Bool
is_other x other = not (bytes_eq x other)

or-false : (a b : Bool) → (a || b) ≡ false → (a ≡ false) × (b ≡ false)
or-false true b e = absurd (true≢false e)
or-false false b e = (refl, e)

or-left : (a b : Bool) → (a || b) ≡ true → b ≡ false → a ≡ true
or-left true b e away = refl
or-left false b e away = absurd (true≢false (sym e ∙ away))

-- of two names one of which is this one, the other is or isn't with it
bytes_eq-across : (x y n : List ℕ) → bytes_eq y n ≡ true → bytes_eq x y ≡ bytes_eq x n
bytes_eq-across x y n e = ap (bytes_eq x) ((bytes_eq-Decides y n).0 e)

among-filter : (x n : List ℕ) (names : List (List ℕ)) → bytes_eq x n ≡ false → is_among n (filter (is_other x) names) ≡ is_among n names
among-filter x n names away =
    any-filter_same (λ other. bytes_eq other n) (is_other x) true (λ k e. ap not (bytes_eq-across x k n e ∙ away)) names

pub among-first : (n : List ℕ) (names : List (List ℕ)) → is_among n (first_named names) ≡ is_among n names
among-first n [] = refl
among-first n (x ∷ names) =
    ⊎_elim
    (λ (yes : bytes_eq x n ≡ true). rw yes refl)
    (λ (away : bytes_eq x n ≡ false). rw away (among-filter x n (first_named names) away ∙ among-first n names))
    (cases_Bool (bytes_eq x n))

filter-same : (x n : List ℕ) → bytes_eq x n ≡ true → filter (is_other x) (n ∷ []) ≡ []
filter-same x n e = rw e refl

filter-other : (x n : List ℕ) (names : List (List ℕ)) → bytes_eq x n ≡ false → filter (is_other x) (n ∷ names) ≡ n ∷ filter (is_other x) names
filter-other x n names e = rw e refl

-- a name that wasn't there comes to its place, whatever comes after it
pub first-split : (before : List (List ℕ)) (n : List ℕ) (others : List (List ℕ)) → is_among n before ≡ false → (after : List (List ℕ)) × (first_named (before ++ n ∷ others) ≡ first_named before ++ n ∷ after)
first-split [] n others away = (filter (is_other n) (first_named others), refl)
first-split (x ∷ before) n others away =
    let parts = or-false (bytes_eq x n) (is_among n before) away in
    let there = first-split before n others parts.1 in (
      filter (is_other x) there.0,
      ap (λ s. x ∷ s) (ap (filter (is_other x)) there.1 ∙ (filter-append (is_other x) (first_named before) (n ∷ there.0) ∙ ap (λ s. filter (is_other x) (first_named before) ++ s) (filter-other x n there.0 parts.0))),
    )

pub first-new : (names : List (List ℕ)) (n : List ℕ) → is_among n names ≡ false → first_named (names ++ n ∷ []) ≡ first_named names ++ n ∷ []
first-new [] n away = refl
first-new (x ∷ names) n away =
    let parts = or-false (bytes_eq x n) (is_among n names) away in
    let there = first-new names n parts.1 in
    ap (λ s. x ∷ s) (ap (filter (is_other x)) there ∙ (filter-append (is_other x) (first_named names) (n ∷ []) ∙ ap (λ s. filter (is_other x) (first_named names) ++ s) (filter-other x n [] parts.0)))

pub first-again : (names : List (List ℕ)) (n : List ℕ) → is_among n names ≡ true → first_named (names ++ n ∷ []) ≡ first_named names
first-again [] n among = absurd (true≢false (sym among))
first-again (x ∷ names) n among =
    ⊎_elim
    (λ (yes : is_among n names ≡ true). ap (λ s. x ∷ filter (is_other x) s) (first-again names n yes))
    (λ (away : is_among n names ≡ false).
    let same = or-left (bytes_eq x n) (is_among n names) among away in
    ap (λ s. x ∷ s) (ap (filter (is_other x)) (first-new names n away) ∙ (filter-append (is_other x) (first_named names) (n ∷ []) ∙ (ap (λ s. filter (is_other x) (first_named names) ++ s) (filter-same x n same) ∙ append-nil (filter (is_other x) (first_named names))))))
    (cases_Bool (is_among n names))

-- ---- the texts under names

pub under-among : (texts : Texts) (n : List ℕ) → is_some (text_under texts n) ≡ is_among n (map name_of texts)
under-among [] n = refl
under-among (t ∷ texts) n =
    ⊎_elim
    (λ (yes : bytes_eq t.0 n ≡ true). rw yes refl)
    (λ (away : bytes_eq t.0 n ≡ false). rw away (under-among texts n))
    (cases_Bool (bytes_eq t.0 n))

pub under-kept : (texts more : Texts) (n : List ℕ) → is_some (text_under texts n) ≡ true → is_some (text_under (texts ++ more) n) ≡ true
under-kept [] more n some = absurd (true≢false (sym some))
under-kept (t ∷ texts) more n some =
    ⊎_elim
    (λ (yes : bytes_eq t.0 n ≡ true). rw yes refl)
    (λ (away : bytes_eq t.0 n ≡ false). rw away (under-kept texts more n (rw away at some)))
    (cases_Bool (bytes_eq t.0 n))

pub under-end : (texts : Texts) (n text : List ℕ) → is_some (text_under (texts ++ (n, text) ∷ []) n) ≡ true
under-end [] n text = rw ((bytes_eq-Decides n n).1 refl) refl
under-end (t ∷ texts) n text =
    ⊎_elim
    (λ (yes : bytes_eq t.0 n ≡ true). rw yes refl)
    (λ (away : bytes_eq t.0 n ≡ false). rw away (under-end texts n text))
    (cases_Bool (bytes_eq t.0 n))
