-- The lines of a text are its only cut at line feeds.
use Rattle.std.proofs.Common.{◌≡◌, ◌≢◌, ℕ, List, [], ◌∷◌, ◌++◌, eqb, refl, ap, sym, ◌∙◌, ⊎_elim}
use Rattle.std.specs.Prelude.{All}
use Rattle.std.specs.List.{flat_map, onto_first}
use Rattle.std.proofs.lemmas.Bool.{cases_Bool, eqb-true, eqb-false}
use Rattle.std.proofs.lemmas.List.Elements.{All-nil, All-cons, All-head, All-tail}
use Rattle.qtc_base.specs.Lines.{lines}
use Rattle.qtc_base.specs.Laws.{line_ended, ended, AreLinesOf}

abbrev IsNoFeed : ℕ → Type 0
IsNoFeed byte = byte ≢ 10

abbrev HasNoFeed : List ℕ → Type 0
HasNoFeed line = All IsNoFeed line

no_feed-onto : (byte : ℕ) (ls : List (List ℕ)) → byte ≢ 10 → All HasNoFeed ls → All HasNoFeed (onto_first byte ls)
no_feed-onto byte [] other none = All-cons HasNoFeed (byte ∷ []) [] (All-cons IsNoFeed byte [] other (All-nil IsNoFeed)) (All-nil HasNoFeed)
no_feed-onto byte (l ∷ ls) other none =
    All-cons HasNoFeed (byte ∷ l) ls (All-cons IsNoFeed byte l other (All-head HasNoFeed l ls none)) (All-tail HasNoFeed l ls none)

no_feed-lines : (text : List ℕ) → All HasNoFeed (lines text)
no_feed-lines [] = All-nil HasNoFeed
no_feed-lines (byte ∷ text) =
    let there = no_feed-lines text in
    ⊎_elim
    (λ feed. rw feed (All-cons HasNoFeed [] (lines text) (All-nil IsNoFeed) there))
    (λ other. rw other (no_feed-onto byte (lines text) (eqb-false byte 10 other) there))
    (cases_Bool (eqb byte 10))

-- a byte before the first line stands before all of them
onto-onto : (byte next : ℕ) (ls : List (List ℕ)) → flat_map line_ended (onto_first byte (onto_first next ls)) ≡ byte ∷ flat_map line_ended (onto_first next ls)
onto-onto byte next [] = refl
onto-onto byte next (l ∷ ls) = refl

onto-some : (byte next : ℕ) (text : List ℕ) → flat_map line_ended (onto_first byte (lines (next ∷ text))) ≡ byte ∷ flat_map line_ended (lines (next ∷ text))
onto-some byte next text =
    ⊎_elim
    (λ feed. rw feed refl)
    (λ other. rw other (onto-onto byte next (lines text)))
    (cases_Bool (eqb next 10))

ended-lines : (text : List ℕ) → flat_map line_ended (lines text) ≡ ended text
ended-lines [] = refl
ended-lines (byte ∷ []) =
    ⊎_elim
    (λ feed. rw feed (ap (λ b. b ∷ []) (sym (eqb-true byte 10 feed))))
    (λ other. rw other refl)
    (cases_Bool (eqb byte 10))
ended-lines (byte ∷ next ∷ text) =
    let there = ended-lines (next ∷ text) in
    ⊎_elim
    (λ feed. rw feed (ap (λ s. 10 ∷ s) there ∙ ap (λ b. b ∷ ended (next ∷ text)) (sym (eqb-true byte 10 feed))))
    (λ other. rw other (onto-some byte next text ∙ ap (λ s. byte ∷ s) there))
    (cases_Bool (eqb byte 10))

pub lines-are : (text : List ℕ) → AreLinesOf text (lines text)
lines-are text = record { no_feed = no_feed-lines text; whole = ended-lines text }

-- two lines that end at their first LF
first-same : (x y rest others : List ℕ) → All IsNoFeed x → All IsNoFeed y → line_ended x ++ rest ≡ line_ended y ++ others → (x ≡ y) × (rest ≡ others)
first-same [] [] rest others p q e = (refl, cc)
first-same [] (b ∷ y) rest others p q e =
    let feed : b ≡ 10 = cc in
    absurd (All-head IsNoFeed b y q feed)
first-same (a ∷ x) [] rest others p q e =
    let feed : a ≡ 10 = cc in
    absurd (All-head IsNoFeed a x p feed)
first-same (a ∷ x) (b ∷ y) rest others p q e =
    let same : a ≡ b = cc in
    let tails : line_ended x ++ rest ≡ line_ended y ++ others = cc in
    let there = first-same x y rest others (All-tail IsNoFeed a x p) (All-tail IsNoFeed b y q) tails in
    (ap (λ s. s ∷ x) same ∙ ap (λ s. b ∷ s) there.0, there.1)

some-lines : (y : List ℕ) (ys : List (List ℕ)) → [] ≡ flat_map line_ended (y ∷ ys) → ⊥
some-lines [] ys e = cc
some-lines (b ∷ y) ys e = cc

cuts-same : (a b : List (List ℕ)) → All HasNoFeed a → All HasNoFeed b → flat_map line_ended a ≡ flat_map line_ended b → a ≡ b
cuts-same [] [] p q e = refl
cuts-same [] (y ∷ ys) p q e = absurd (some-lines y ys e)
cuts-same (x ∷ xs) [] p q e = absurd (some-lines x xs (sym e))
cuts-same (x ∷ xs) (y ∷ ys) p q e =
    let front = first-same x y (flat_map line_ended xs) (flat_map line_ended ys) (All-head HasNoFeed x xs p) (All-head HasNoFeed y ys q) e in
    let there = cuts-same xs ys (All-tail HasNoFeed x xs p) (All-tail HasNoFeed y ys q) front.1 in
    ap (λ l. l ∷ xs) front.0 ∙ ap (λ ls. y ∷ ls) there

pub lines-only : (text : List ℕ) (cut : List (List ℕ)) → AreLinesOf text cut → cut ≡ lines text
lines-only text cut are = cuts-same cut (lines text) are.no_feed (no_feed-lines text) (are.whole ∙ sym (ended-lines text))
