-- What a line without codes says is lawful, and its canonical words are no longer than its own.
use Rattle.std.proofs.Common.{◌≡◌, ℕ, ◌+◌, ◌<◌, ◌≤◌, true, List, [], ◌∷◌, ◌++◌, length, map, Option, Some, refl, ap, sym, subst, ◌∙◌, length-append, arith}
use Rattle.std.specs.Prelude.{All}
use Rattle.std.proofs.lemmas.List.{length-map}
use Rattle.std.proofs.lemmas.List.Elements.{All-nil, All-cons}
use Rattle.qtc_base.specs.Decimal.{decimal_text, number_of}
use Rattle.qtc_job_file.specs.declared.jobs.ChainOp.TheVariants as chain
use Rattle.qtc_job_file.specs.declared.keywords.Keyword.{Keyword}
use Rattle.qtc_job_file.specs.declared.keywords.Keyword.TheVariants as word
use Rattle.qtc_job_file.specs.Canonical.{written, name_at, input_words, map_words, predicate_words, op_words, fold_words, list_words, chain_words, line_text}
use Rattle.qtc_job.specs.Codes.{form_codes, word_codes}
use Rattle.qtc_job.specs.Forms.{number, priority, literal, name, earlier, chosen, directive_form, workers_form, job_form, input_form, map_form, filter_form, predicate_form, fold_form, list_form}
use Rattle.qtc_job_file.specs.Keywords.{keyword_of, spelling}
use Rattle.qtc_job_file.specs.Lawful.{IsText, IsInput, IsMap, IsPredicate, IsOp, IsFold, IsStep, AreBlocks, IsPriority, IsWithin}
use Rattle.qtc_job.specs.Literals.{text_of, priority_of}
use Rattle.qtc_job_file.specs.Names.{is_name}
use Rattle.qtc_job.specs.Meaning.{by_word, place_of, input_kind, input_meant, map_kind, map_meant, filter_kind, filter_meant, predicate_kind, fold_kind, fold_meant, list_kind, list_meant, number_at, text_at, word_at}
use Rattle.qtc_job.specs.Tails.{tail}
use Rattle.qtc_job_file.proofs.KeywordLemmas.{keyword-is}
use Rattle.qtc_job.proofs.NumberLemmas.{number-short, within-is, priority-is}
use Rattle.qtc_job.proofs.PlaceLemmas.{HaveNoCodes, exactly-one_good, exactly-two_good, up_to-good, number-good, priority-good, literal-good, name-good, earlier-good, name-found, name-longer}
use Rattle.qtc_job.proofs.SourceLemmas.{IsCut, AreCut, IsSourced, join-size}
use Rattle.qtc_job.proofs.WrittenLemmas.{literal-reads}

-- ---- words

pub tail-size : (word : List ℕ) (words : List (List ℕ)) → length (tail (word ∷ words)) ≡ 1 + length word + length (tail words)
tail-size word words = let e = length-append (32 ∷ word) (tail words) in omega arith

text-said : (names : List (List ℕ)) (word : List ℕ) → IsCut word → word_codes names literal word ≡ [] → IsText (text_of word) × (length (written (text_of word)) ≤ length word)
text-said names word cut none =
    let reads = literal-reads word (text_of word) cut.1 (literal-good names word none) in
    (record { some = reads.some cut.0; bytes = reads.bytes }, reads.short)

number-said : (names : List (List ℕ)) (least most : ℕ) (word : List ℕ) → word_codes names (number least most) word ≡ [] → IsWithin least most (number_of word) × (length (decimal_text (number_of word)) ≤ length word)
number-said names least most word none =
    let good = number-good names least most word none in
    (within-is least most word good.1, number-short word good.0)

texts-said : (names : List (List ℕ)) (words : List (List ℕ)) → AreCut words → HaveNoCodes (word_codes names literal) words → All IsText (map text_of words) × (length (tail (map written (map text_of words))) ≤ length (tail words))
texts-said names [] cut none = (All-nil IsText, omega arith)
texts-said names (word ∷ words) cut none =
    let here = text-said names word cut.0 none.0 in
    let there = texts-said names words cut.1 none.1 in
    let a = tail-size word words in
    let b = tail-size (written (text_of word)) (map written (map text_of words)) in
    let short = here.1 in
    let shorter = there.1 in
    (All-cons IsText (text_of word) (map text_of words) here.0 there.0, omega arith)

-- the place of a name, and the name of that place
place-said : (names all more : List (List ℕ)) (word : List ℕ) → all ≡ names ++ more → word_codes names earlier word ≡ [] → (place_of names word < length names) × (name_at all (place_of names word) ≡ word)
place-said names all more word e none =
    let found = name-found names word (earlier-good names word none) in
    (found.0, name-longer names all more (place_of names word) e found.0 ∙ found.1)

places-said : (names all more : List (List ℕ)) (words : List (List ℕ)) → all ≡ names ++ more → HaveNoCodes (word_codes names earlier) words → All (λ p. p < length names) (map (place_of names) words) × (map (name_at all) (map (place_of names) words) ≡ words)
places-said names all more [] e none = (All-nil (λ p. p < length names), refl)
places-said names all more (word ∷ words) e none =
    let here = place-said names all more word e none.0 in
    let there = places-said names all more words e none.1 in
    (All-cons (λ p. p < length names) (place_of names word) (map (place_of names) words) here.0 there.0, ap (λ n. n ∷ map (name_at all) (map (place_of names) words)) here.1 ∙ ap (λ ns. word ∷ ns) there.1)

-- the words of a list that is chosen from have this length
abbrev IsOfSize : Option Keyword → ℕ → Type 0
IsOfSize o size = (k : Keyword) → o ≡ Some k → length (spelling k) ≡ size

of-size : (word : List ℕ) → IsOfSize (keyword_of word) (length word)
of-size word k e = ap length (sym (keyword-is word k e))

-- ---- inputs

input-kind : (names all more : List (List ℕ)) → all ≡ names ++ more → (o : Option Keyword) (size : ℕ) (args : List (List ℕ)) → IsOfSize o size → AreCut args → form_codes names (input_form o args) ≡ []
    → IsInput (length names) (input_kind names o args) × (length (tail (input_words all (input_kind names o args))) ≤ 1 + size + length (tail args))
input-kind names all more e (Some word.Lines) size args of cut none =
    let one = exactly-one_good names literal args none in
    let text = text-said names one.0 (subst AreCut one.1 cut).0 one.2 in
    let same : 5 ≡ size = of word.Lines refl in
    let a = tail-size (spelling word.Lines) (written (text_of one.0) ∷ []) in
    let b = tail-size (written (text_of one.0)) [] in
    let c = tail-size one.0 [] in
    let short = text.1 in
    rw one.1 (text.0, omega arith)
input-kind names all more e (Some word.Files) size args of cut none =
    let many = up_to-good names 64 literal args none in
    let texts = texts-said names args cut many.each in
    let same : 5 ≡ size = of word.Files refl in
    let a = tail-size (spelling word.Files) (map written (map text_of args)) in
    let count = length-map args text_of in
    let some = many.some in
    let few = many.few in
    let short = texts.1 in
    (record { some = omega arith; few = omega arith; each = texts.0 }, omega arith)
input-kind names all more e (Some word.Pieces) size args of cut none =
    let two = exactly-two_good names (number 1 67108864) literal args none in
    let count = number-said names 1 67108864 two.0 two.3 in
    let text = text-said names two.1 (subst AreCut two.2 cut).1.0 two.4 in
    let same : 6 ≡ size = of word.Pieces refl in
    let a = tail-size (spelling word.Pieces) (decimal_text (number_of two.0) ∷ written (text_of two.1) ∷ []) in
    let b = tail-size (decimal_text (number_of two.0)) (written (text_of two.1) ∷ []) in
    let c = tail-size (written (text_of two.1)) [] in
    let d = tail-size two.0 (two.1 ∷ []) in
    let f = tail-size two.1 [] in
    let short = text.1 in
    let shorter = count.1 in
    rw two.2 ((count.0, text.0), omega arith)
input-kind names all more e (Some word.Job) size args of cut none =
    let one = exactly-one_good names earlier args none in
    let place = place-said names all more one.0 e one.2 in
    let same : 3 ≡ size = of word.Job refl in
    let a = tail-size (spelling word.Job) (name_at all (place_of names one.0) ∷ []) in
    let b = tail-size (name_at all (place_of names one.0)) [] in
    let c = tail-size one.0 [] in
    let long = ap length place.1 in
    rw one.1 (place.0, omega arith)
input-kind names all more e (Some word.All) size args of cut none =
    let many = up_to-good names 64 earlier args none in
    let places = places-said names all more args e many.each in
    let same : 3 ≡ size = of word.All refl in
    let a = tail-size (spelling word.All) (map (name_at all) (map (place_of names) args)) in
    let long = ap (λ w. length (tail w)) places.1 in
    let count = length-map args (place_of names) in
    let some = many.some in
    let few = many.few in
    (record { some = omega arith; few = omega arith; each = places.0 }, omega arith)
input-kind names all more e (Some word.Any) size args of cut none =
    let many = up_to-good names 64 earlier args none in
    let places = places-said names all more args e many.each in
    let same : 3 ≡ size = of word.Any refl in
    let a = tail-size (spelling word.Any) (map (name_at all) (map (place_of names) args)) in
    let long = ap (λ w. length (tail w)) places.1 in
    let count = length-map args (place_of names) in
    let some = many.some in
    let few = many.few in
    (record { some = omega arith; few = omega arith; each = places.0 }, omega arith)
input-kind names all more e _ size args of cut none = cc

pub input-said : (names all more : List (List ℕ)) → all ≡ names ++ more → (args : List (List ℕ)) → IsSourced 5 args → form_codes names (directive_form word.Input args) ≡ []
    → IsInput (length names) (input_meant names args) × (length (line_text (spelling word.Input ∷ input_words all (input_meant names args))) ≤ 4096)
input-said names all more e [] from none = cc
input-said names all more e (first ∷ args) from none =
    let said = input-kind names all more e (keyword_of first) (length first) args (of-size first) from.cut.1 none in
    let size = tail-size first args in
    let joined = join-size (spelling word.Input) (input_words all (input_meant names (first ∷ args))) in
    let long = said.1 in
    let short = from.short in
    (said.0, omega arith)

-- ---- item functions

-- one word that chooses, alone or with one after it
alone-short : (k : Keyword) (size : ℕ) (args : List (List ℕ)) → length (spelling k) ≡ size → length (tail (spelling k ∷ [])) ≤ 1 + size + length (tail args)
alone-short k size args same = let a = tail-size (spelling k) [] in omega arith

one-short : (k : Keyword) (size : ℕ) (own written_as : List ℕ) → length (spelling k) ≡ size → length written_as ≤ length own → length (tail (spelling k ∷ written_as ∷ [])) ≤ 1 + size + length (tail (own ∷ []))
one-short k size own written_as same short =
    let a = tail-size (spelling k) (written_as ∷ []) in
    let b = tail-size written_as [] in
    let c = tail-size own [] in
    omega arith

map-kind : (names : List (List ℕ)) (o : Option Keyword) (size : ℕ) (args : List (List ℕ)) → IsOfSize o size → form_codes names (map_form o args) ≡ []
    → IsMap (map_kind o args) × (length (tail (map_words (map_kind o args))) ≤ 1 + size + length (tail args))
map-kind names (Some word.Same) size args of none = (tt, alone-short word.Same size args (of word.Same refl))
map-kind names (Some word.Length) size args of none = (tt, alone-short word.Length size args (of word.Length refl))
map-kind names (Some word.Digest) size args of none = (tt, alone-short word.Digest size args (of word.Digest refl))
map-kind names (Some word.Field) size args of none =
    let one = exactly-one_good names (number 1 1000) args none in
    let count = number-said names 1 1000 one.0 one.2 in
    rw one.1 (count.0, one-short word.Field size one.0 (decimal_text (number_of one.0)) (of word.Field refl) count.1)
map-kind names (Some word.Number) size args of none = (tt, alone-short word.Number size args (of word.Number refl))
map-kind names _ size args of none = cc

pub map-said : (names args : List (List ℕ)) → IsSourced 3 args → form_codes names (directive_form word.Map args) ≡ []
    → IsOp (map_meant args) × (length (line_text (op_words (map_meant args))) ≤ 4096)
map-said names [] from none = cc
map-said names (first ∷ args) from none =
    let said = map-kind names (keyword_of first) (length first) args (of-size first) none in
    let size = tail-size first args in
    let joined = join-size (spelling word.Map) (map_words (by_word map_kind (first ∷ args))) in
    let long = said.1 in
    let short = from.short in
    (said.0, omega arith)

predicate-kind : (names : List (List ℕ)) (o : Option Keyword) (size : ℕ) (args : List (List ℕ)) → IsOfSize o size → AreCut args → form_codes names (predicate_form o args) ≡ []
    → IsPredicate (predicate_kind o args) × (length (tail (predicate_words (predicate_kind o args))) ≤ 1 + size + length (tail args))
predicate-kind names (Some word.Contains) size args of cut none =
    let one = exactly-one_good names literal args none in
    let text = text-said names one.0 (subst AreCut one.1 cut).0 one.2 in
    rw one.1 (text.0, one-short word.Contains size one.0 (written (text_of one.0)) (of word.Contains refl) text.1)
predicate-kind names (Some word.Wildcard) size args of cut none =
    let one = exactly-one_good names literal args none in
    let text = text-said names one.0 (subst AreCut one.1 cut).0 one.2 in
    rw one.1 (text.0, one-short word.Wildcard size one.0 (written (text_of one.0)) (of word.Wildcard refl) text.1)
predicate-kind names (Some word.Longer) size args of cut none =
    let one = exactly-one_good names (number 0 67108864) args none in
    let count = number-said names 0 67108864 one.0 one.2 in
    rw one.1 (count.0.1, one-short word.Longer size one.0 (decimal_text (number_of one.0)) (of word.Longer refl) count.1)
predicate-kind names _ size args of cut none = cc

predicate-said : (names args : List (List ℕ)) → AreCut args → form_codes names (chosen predicate_form args) ≡ []
    → IsPredicate (by_word predicate_kind args) × (length (tail (predicate_words (by_word predicate_kind args))) ≤ length (tail args))
predicate-said names [] cut none = cc
predicate-said names (first ∷ args) cut none =
    let said = predicate-kind names (keyword_of first) (length first) args (of-size first) cut.1 none in
    let size = tail-size first args in
    let long = said.1 in
    (said.0, omega arith)

filter-line : (words : List (List ℕ)) (size : ℕ) → length (tail words) ≤ size → 6 + size ≤ 4096 → length (line_text (spelling word.Filter ∷ words)) ≤ 4096
filter-line words size short fits = let joined = join-size (spelling word.Filter) words in omega arith

filter-kind : (names : List (List ℕ)) (o : Option Keyword) (size : ℕ) (args : List (List ℕ)) → IsOfSize o size → AreCut args → 6 + (1 + size + length (tail args)) ≤ 4096 → form_codes names (filter_form o args) ≡ []
    → IsOp (filter_kind o args) × (length (line_text (op_words (filter_kind o args))) ≤ 4096)
filter-kind names (Some word.Not) size args of cut fits none =
    let said = predicate-said names args cut none in
    let same : 3 ≡ size = of word.Not refl in
    let a = tail-size (spelling word.Not) (predicate_words (by_word predicate_kind args)) in
    let long = said.1 in
    (said.0, filter-line (spelling word.Not ∷ predicate_words (by_word predicate_kind args)) (1 + size + length (tail args)) (omega arith) fits)
filter-kind names (Some word.Contains) size args of cut fits none =
    let said = predicate-kind names (Some word.Contains) size args of cut none in
    (said.0, filter-line (predicate_words (predicate_kind (Some word.Contains) args)) (1 + size + length (tail args)) said.1 fits)
filter-kind names (Some word.Wildcard) size args of cut fits none =
    let said = predicate-kind names (Some word.Wildcard) size args of cut none in
    (said.0, filter-line (predicate_words (predicate_kind (Some word.Wildcard) args)) (1 + size + length (tail args)) said.1 fits)
filter-kind names (Some word.Longer) size args of cut fits none =
    let said = predicate-kind names (Some word.Longer) size args of cut none in
    (said.0, filter-line (predicate_words (predicate_kind (Some word.Longer) args)) (1 + size + length (tail args)) said.1 fits)
filter-kind names _ size args of cut fits none = cc

pub filter-said : (names args : List (List ℕ)) → IsSourced 6 args → form_codes names (directive_form word.Filter args) ≡ []
    → IsOp (filter_meant args) × (length (line_text (op_words (filter_meant args))) ≤ 4096)
filter-said names [] from none = cc
filter-said names (first ∷ args) from none =
    let size = tail-size first args in
    let short = from.short in
    filter-kind names (keyword_of first) (length first) args (of-size first) from.cut.1 (omega arith) none

-- ---- folds

fold-kind : (names : List (List ℕ)) (o : Option Keyword) (size : ℕ) (args : List (List ℕ)) → IsOfSize o size → AreCut args → form_codes names (fold_form o args) ≡ []
    → IsFold (fold_kind o args) × (length (tail (fold_words (fold_kind o args))) ≤ 1 + size + length (tail args))
fold-kind names (Some word.Count) size args of cut none = (tt, alone-short word.Count size args (of word.Count refl))
fold-kind names (Some word.Bytes) size args of cut none = (tt, alone-short word.Bytes size args (of word.Bytes refl))
fold-kind names (Some word.Sum) size args of cut none = (tt, alone-short word.Sum size args (of word.Sum refl))
fold-kind names (Some word.Join) size args of cut none =
    let one = exactly-one_good names literal args none in
    let text = text-said names one.0 (subst AreCut one.1 cut).0 one.2 in
    rw one.1 (text.0, one-short word.Join size one.0 (written (text_of one.0)) (of word.Join refl) text.1)
fold-kind names (Some word.Chain) size args of cut none = (tt, alone-short word.Chain size args (of word.Chain refl))
fold-kind names (Some word.Greatest) size args of cut none = (tt, alone-short word.Greatest size args (of word.Greatest refl))
fold-kind names (Some word.Tally) size args of cut none = (tt, alone-short word.Tally size args (of word.Tally refl))
fold-kind names _ size args of cut none = cc

pub fold-said : (names args : List (List ℕ)) → IsSourced 6 args → form_codes names (directive_form word.Reduce args) ≡ []
    → IsFold (fold_meant args) × (length (line_text (spelling word.Reduce ∷ fold_words (fold_meant args))) ≤ 4096)
fold-said names [] from none = cc
fold-said names (first ∷ args) from none =
    let said = fold-kind names (keyword_of first) (length first) args (of-size first) from.cut.1 none in
    let size = tail-size first args in
    let joined = join-size (spelling word.Reduce) (fold_words (fold_meant (first ∷ args))) in
    let long = said.1 in
    let short = from.short in
    (said.0, omega arith)

-- ---- steps of a chain

list-kind : (names : List (List ℕ)) (o : Option Keyword) (size : ℕ) (args : List (List ℕ)) → IsOfSize o size → form_codes names (list_form o args) ≡ []
    → IsStep (chain.Then (list_kind o args)) × (length (tail (list_words (list_kind o args))) ≤ 1 + size + length (tail args))
list-kind names (Some word.First) size args of none =
    let one = exactly-one_good names (number 0 8388608) args none in
    let count = number-said names 0 8388608 one.0 one.2 in
    rw one.1 (count.0.1, one-short word.First size one.0 (decimal_text (number_of one.0)) (of word.First refl) count.1)
list-kind names (Some word.Sorted) size args of none = (tt, alone-short word.Sorted size args (of word.Sorted refl))
list-kind names (Some word.Concat) size args of none = (tt, alone-short word.Concat size args (of word.Concat refl))
list-kind names _ size args of none = cc

pub list-said : (names args : List (List ℕ)) → IsSourced 4 args → form_codes names (directive_form word.Then args) ≡ []
    → IsStep (chain.Then (list_meant args)) × (length (line_text (chain_words (chain.Then (list_meant args)))) ≤ 4096)
list-said names [] from none = cc
list-said names (first ∷ args) from none =
    let said = list-kind names (keyword_of first) (length first) args (of-size first) none in
    let size = tail-size first args in
    let joined = join-size (spelling word.Then) (list_words (list_meant (first ∷ args))) in
    let long = said.1 in
    let short = from.short in
    (said.0, omega arith)

pub failed-said : (names args : List (List ℕ)) → IsSourced 9 args → form_codes names (directive_form word.OnFailed args) ≡ []
    → IsStep (chain.OnFailed (text_at args 0)) × (length (line_text (chain_words (chain.OnFailed (text_at args 0)))) ≤ 4096)
failed-said names args from none =
    let one = exactly-one_good names literal args none in
    let text = text-said names one.0 (subst AreCut one.1 from.cut).0 one.2 in
    let a = tail-size (written (text_of one.0)) [] in
    let b = tail-size one.0 [] in
    let joined = join-size (spelling word.OnFailed) (written (text_of one.0) ∷ []) in
    let long = text.1 in
    let same = ap (λ w. length (tail w)) one.1 in
    let short = from.short in
    rw one.1 (text.0, omega arith)

pub canceled-said : (names args : List (List ℕ)) → IsSourced 11 args → form_codes names (directive_form word.OnCanceled args) ≡ []
    → IsStep (chain.OnCanceled (text_at args 0)) × (length (line_text (chain_words (chain.OnCanceled (text_at args 0)))) ≤ 4096)
canceled-said names args from none =
    let one = exactly-one_good names literal args none in
    let text = text-said names one.0 (subst AreCut one.1 from.cut).0 one.2 in
    let a = tail-size (written (text_of one.0)) [] in
    let b = tail-size one.0 [] in
    let joined = join-size (spelling word.OnCanceled) (written (text_of one.0) ∷ []) in
    let long = text.1 in
    let same = ap (λ w. length (tail w)) one.1 in
    let short = from.short in
    rw one.1 (text.0, omega arith)

-- ---- numbers

each-within : (names words : List (List ℕ)) → HaveNoCodes (word_codes names (number 1 65536)) words → All (IsWithin 1 65536) (map number_of words)
each-within names [] none = All-nil (IsWithin 1 65536)
each-within names (word ∷ words) none = All-cons (IsWithin 1 65536) (number_of word) (map number_of words) (number-said names 1 65536 word none.0).0 (each-within names words none.1)

pub blocks-said : (names args : List (List ℕ)) → form_codes names (directive_form word.Blocks args) ≡ [] → AreBlocks (map number_of args)
blocks-said names args none =
    let many = up_to-good names 16 (number 1 65536) args none in
    let count = length-map args number_of in
    let some = many.some in
    let few = many.few in
    record { some = omega arith; few = omega arith; each = each-within names args many.each }

pub priority-said : (names args : List (List ℕ)) → form_codes names (directive_form word.Priority args) ≡ [] → IsPriority (priority_of (word_at args 0))
priority-said names args none =
    let one = exactly-one_good names priority args none in
    rw one.1 (priority-is one.0 (priority-good names one.0 one.2))

pub cancel-said : (names args : List (List ℕ)) → form_codes names (directive_form word.CancelAfter args) ≡ [] → number_at args 0 ≤ 8388608
cancel-said names args none =
    let one = exactly-one_good names (number 1 8388608) args none in
    rw one.1 (number-said names 1 8388608 one.0 one.2).0.1

pub suspend-said : (names args : List (List ℕ)) → form_codes names (directive_form word.SuspendAfter args) ≡ [] → number_at args 0 ≤ 8388608
suspend-said names args none =
    let one = exactly-one_good names (number 1 8388608) args none in
    rw one.1 (number-said names 1 8388608 one.0 one.2).0.1

pub workers-said : (args : List (List ℕ)) → form_codes [] (workers_form args) ≡ [] → IsWithin 1 32 (number_at args 0)
workers-said args none =
    let one = exactly-one_good [] (number 1 32) args none in
    rw one.1 (number-said [] 1 32 one.0 one.2).0

pub job-said : (args : List (List ℕ)) → form_codes [] (job_form args) ≡ [] → (named : List ℕ) × (args ≡ named ∷ []) × (is_name named ≡ true)
job-said args none =
    let one = exactly-one_good [] name args none in
    (one.0, one.1, name-good [] one.0 one.2)
