-- The words of a text are its maximal runs.
use Rattle.std.proofs.Common.{◌≡◌, ℕ, suc, ◌<◌, true, false, not, eqb, List, [], ◌∷◌, ◌++◌, length, get_or, refl, sym, ap, ⊎_elim, subst, arith}
use Rattle.std.specs.Prelude.{filter}
use Rattle.std.specs.List.{AllPass, onto_first, slice_split}
use Rattle.std.proofs.lemmas.Bool.{cases_Bool, ne_eqb, not_from_false}
use Rattle.std.proofs.lemmas.List.Elements.{All-nil, All-cons}
use Rattle.std.proofs.lemmas.List.Splits.{slice_split-cons_yes, slice_split-cons_no}
use Rattle.qtc_base.specs.Words.{parts, words_by, AreWords}

abbrev filled_of : List (List ℕ) → List (List ℕ)
filled_of runs = filter (λ run. not (eqb (length run) 0)) runs

-- what a split says of the text: its first part stands at the front and ends at a gap or the end, and the other parts that aren't empty are the words of what is after it
abbrev IsSplit : (gaps text : List ℕ) → List (List ℕ) → Type 0
IsSplit gaps text [] = ⊥
IsSplit gaps text (part ∷ others) =
    (rest : List ℕ) × (text ≡ part ++ rest) × AllPass (λ byte. not (parts gaps byte)) part
    × (0 < length rest → parts gaps (get_or rest 0 0) ≡ true) × AreWords gaps rest (filled_of others)

words-from_split : (gaps text : List ℕ) (all : List (List ℕ)) → IsSplit gaps text all → AreWords gaps text (filled_of all)
words-from_split gaps text [] s = absurd s
words-from_split gaps text ([] ∷ others) s = subst (λ i. AreWords gaps i (filled_of others)) (sym s.1) s.4
words-from_split gaps text ((byte ∷ part) ∷ others) s =
    let some : eqb (suc (length part)) 0 ≡ false = ne_eqb (suc (length part)) 0 (λ e. omega arith) in
    rw some (
      s.0,
      record {
        before = [];
        is = s.1;
        apart = All-nil (λ b. parts gaps b ≡ true);
        filled = s.2;
        some = omega arith;
        maximal = s.3;
      },
      s.4,
    )

words-after_gap : (gaps : List ℕ) (byte : ℕ) (text : List ℕ) (words : List (List ℕ)) → parts gaps byte ≡ true → AreWords gaps text words → AreWords gaps (byte ∷ text) words
words-after_gap gaps byte text [] gap f = All-cons (λ b. parts gaps b ≡ true) byte text gap f
words-after_gap gaps byte text (word ∷ words) gap f = (
  f.0,
  record {
    before = byte ∷ f.1.before;
    is = ap (λ s. byte ∷ s) f.1.is;
    apart = All-cons (λ b. parts gaps b ≡ true) byte f.1.before gap f.1.apart;
    filled = f.1.filled;
    some = f.1.some;
    maximal = f.1.maximal;
  },
  f.2,
)

split-onto : (gaps : List ℕ) (byte : ℕ) (text : List ℕ) (all : List (List ℕ)) → parts gaps byte ≡ false → IsSplit gaps text all → IsSplit gaps (byte ∷ text) (onto_first byte all)
split-onto gaps byte text [] filled s = absurd s
split-onto gaps byte text (part ∷ others) filled s =
    (s.0, ap (λ i. byte ∷ i) s.1, All-cons (λ b. not (parts gaps b) ≡ true) byte part (not_from_false _ filled) s.2, s.3, s.4)

split-says : (gaps text : List ℕ) → IsSplit gaps text (slice_split (parts gaps) text)
split-says gaps [] = ([], refl, All-nil (λ b. not (parts gaps b) ≡ true), λ some. absurd (omega arith), All-nil (λ b. parts gaps b ≡ true))
split-says gaps (byte ∷ text) =
    ⊎_elim
    (λ gap. rw (slice_split-cons_yes (parts gaps) byte text gap) (byte ∷ text, refl, All-nil (λ b. not (parts gaps b) ≡ true), λ some. gap, words-after_gap gaps byte text (words_by gaps text) gap (words-from_split gaps text (slice_split (parts gaps) text) (split-says gaps text))))
    (λ filled. rw (slice_split-cons_no (parts gaps) byte text filled) (split-onto gaps byte text (slice_split (parts gaps) text) filled (split-says gaps text)))
    (cases_Bool (parts gaps byte))

pub words-are : (gaps text : List ℕ) → AreWords gaps text (words_by gaps text)
words-are gaps text = words-from_split gaps text (slice_split (parts gaps) text) (split-says gaps text)
