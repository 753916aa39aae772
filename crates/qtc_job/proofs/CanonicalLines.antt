-- The words of a canonical line have no code, and mean what they were written from.
use Rattle.std.proofs.Common.{◌≡◌, ℕ, ◌<◌, ◌≤◌, Bool, true, false, cond, List, [], ◌∷◌, ◌++◌, length, get_or, map, unwrap_or, refl, ap, ◌∙◌, arith}
use Rattle.std.proofs.lemmas.List.{length-map}
use Rattle.std.specs.Prelude.{ℤ, All}
use Rattle.std.proofs.lemmas.List.Elements.{All-head, All-tail}
use Rattle.qtc_base.specs.Decimal.{decimal_text, number_of}
use Rattle.qtc_ops.specs.declared.operations.ItemOp.TheVariants as item
use Rattle.qtc_ops.specs.declared.operations.MapOp.{MapOp}
use Rattle.qtc_ops.specs.declared.operations.MapOp.TheVariants as mapped
use Rattle.qtc_ops.specs.declared.predicates.Pred.{Pred}
use Rattle.qtc_ops.specs.declared.predicates.Pred.TheVariants as kept
use Rattle.qtc_ops.specs.declared.fold_ops.FoldOp.{FoldOp}
use Rattle.qtc_ops.specs.declared.fold_ops.FoldOp.TheVariants as folded
use Rattle.qtc_ops.specs.declared.list_ops.ListOp.{ListOp}
use Rattle.qtc_ops.specs.declared.list_ops.ListOp.TheVariants as listed
use Rattle.qtc_job_file.specs.declared.jobs.Input.{Input}
use Rattle.qtc_job_file.specs.declared.jobs.Input.TheVariants as input
use Rattle.qtc_job_file.specs.declared.keywords.Keyword.TheVariants as word
use Rattle.qtc_job_file.specs.Canonical.{written, priority_text, name_at, input_words, map_words, predicate_words, fold_words, list_words}
use Rattle.qtc_job.specs.Codes.{form_codes, word_codes}
use Rattle.qtc_job.specs.Forms.{number, priority, literal, earlier, chosen, directive_form, predicate_form}
use Rattle.qtc_job_file.specs.Keywords.{keyword_of, spelling}
use Rattle.qtc_job_file.specs.Lawful.{IsText, IsInput, IsMap, IsPredicate, IsFold, AreBlocks, IsPriority, IsWithin}
use Rattle.qtc_job.specs.Literals.{text_of, priority_of}
use Rattle.qtc_job.specs.Meaning.{by_word, place_of, input_meant, map_meant, predicate_kind, filter_meant, fold_meant, order_meant, list_meant}
use Rattle.qtc_job.proofs.NumberLemmas.{number-read, number-numeral, number-within, priority-read}
use Rattle.qtc_job.proofs.PlaceLemmas.{AreApart, HaveNoCodes, number-none, priority-none, literal-none, earlier-none, exactly-one_none, exactly-two_none, up_to-none, name-longer, place-found}
use Rattle.qtc_job.proofs.WrittenLemmas.{written-read}

-- ---- words

text-read : (text : List ℕ) → IsText text → text_of (written text) ≡ text
text-read text is = ap (λ o. unwrap_or o []) (written-read text is.bytes)

text-none : (names : List (List ℕ)) (text : List ℕ) → IsText text → word_codes names literal (written text) ≡ []
text-none names text is = literal-none names (written text) text (written-read text is.bytes)

count-none : (names : List (List ℕ)) (least most n : ℕ) → most < 10000000000 → least ≤ n → n ≤ most → word_codes names (number least most) (decimal_text n) ≡ []
count-none names least most n fits low high = number-none names least most (decimal_text n) (number-numeral n (omega arith)) (number-within least most n (omega arith) low high)

texts-none : (names : List (List ℕ)) (texts : List (List ℕ)) → All IsText texts → HaveNoCodes (word_codes names literal) (map written texts)
texts-none names [] is = tt
texts-none names (text ∷ texts) is = (text-none names text (All-head IsText text texts is), texts-none names texts (All-tail IsText text texts is))

texts-read : (texts : List (List ℕ)) → All IsText texts → map text_of (map written texts) ≡ texts
texts-read [] is = refl
texts-read (text ∷ texts) is =
    ap (λ t. t ∷ map text_of (map written texts)) (text-read text (All-head IsText text texts is)) ∙ ap (λ ts. text ∷ ts) (texts-read texts (All-tail IsText text texts is))

-- ---- the names of earlier jobs

name-none : (names all more : List (List ℕ)) (place : ℕ) → all ≡ names ++ more → AreApart names → place < length names → word_codes names earlier (name_at all place) ≡ []
name-none names all more place e apart less =
    rw (name-longer names all more place e less) (earlier-none names (get_or names place []) (place-found names place apart less).1)

name-read : (names all more : List (List ℕ)) (place : ℕ) → all ≡ names ++ more → AreApart names → place < length names → place_of names (name_at all place) ≡ place
name-read names all more place e apart less =
    ap (place_of names) (name-longer names all more place e less) ∙ (place-found names place apart less).0

names-none : (names all more : List (List ℕ)) (places : List ℕ) → all ≡ names ++ more → AreApart names → All (λ p. p < length names) places → HaveNoCodes (word_codes names earlier) (map (name_at all) places)
names-none names all more [] e apart less = tt
names-none names all more (place ∷ places) e apart less =
    (name-none names all more place e apart (All-head (λ p. p < length names) place places less), names-none names all more places e apart (All-tail (λ p. p < length names) place places less))

names-read : (names all more : List (List ℕ)) (places : List ℕ) → all ≡ names ++ more → AreApart names → All (λ p. p < length names) places → map (place_of names) (map (name_at all) places) ≡ places
names-read names all more [] e apart less = refl
names-read names all more (place ∷ places) e apart less =
    ap (λ p. p ∷ map (place_of names) (map (name_at all) places)) (name-read names all more place e apart (All-head (λ p. p < length names) place places less))
    ∙ ap (λ ps. place ∷ ps) (names-read names all more places e apart (All-tail (λ p. p < length names) place places less))

few-mapped : {A B : Type 0} (f : A → B) (xs : List A) (most : ℕ) → length xs ≤ most → length (map f xs) ≤ most
few-mapped f xs most few = let size = length-map xs f in omega arith

some-mapped : {A B : Type 0} (f : A → B) (xs : List A) → 1 ≤ length xs → 1 ≤ length (map f xs)
some-mapped f xs some = let size = length-map xs f in omega arith

-- ---- what each line says

pub input-read : (names all more : List (List ℕ)) → all ≡ names ++ more → AreApart names → (said : Input) → IsInput (length names) said → (form_codes names (directive_form word.Input (input_words all said)) ≡ []) × (input_meant names (input_words all said) ≡ said)
unfolding keyword_of
input-read names all more e apart (input.Lines text) is =
    (exactly-one_none names literal (written text) (text-none names text is), ap input.Lines (text-read text is))
input-read names all more e apart (input.Files texts) is = (
  up_to-none names 64 literal (map written texts) (some-mapped written texts is.some) (few-mapped written texts 64 is.few) (texts-none names texts is.each),
  ap input.Files (texts-read texts is.each),
)
input-read names all more e apart (input.Pieces size text) is = (
  exactly-two_none names (number 1 67108864) literal (decimal_text size) (written text) (count-none names 1 67108864 size (omega arith) is.0.0 is.0.1) (text-none names text is.1),
  (let high = is.0.1 in ap (λ n. input.Pieces n (text_of (written text))) (number-read size (omega arith))) ∙ ap (input.Pieces size) (text-read text is.1),
)
input-read names all more e apart (input.Job place) is =
    (exactly-one_none names earlier (name_at all place) (name-none names all more place e apart is), ap input.Job (name-read names all more place e apart is))
input-read names all more e apart (input.All places) is = (
  up_to-none names 64 earlier (map (name_at all) places) (some-mapped (name_at all) places is.some) (few-mapped (name_at all) places 64 is.few) (names-none names all more places e apart is.each),
  ap input.All (names-read names all more places e apart is.each),
)
input-read names all more e apart (input.Any places) is = (
  up_to-none names 64 earlier (map (name_at all) places) (some-mapped (name_at all) places is.some) (few-mapped (name_at all) places 64 is.few) (names-none names all more places e apart is.each),
  ap input.Any (names-read names all more places e apart is.each),
)

pub map-read : (names : List (List ℕ)) (op : MapOp) → IsMap op → (form_codes names (directive_form word.Map (map_words op)) ≡ []) × (map_meant (map_words op) ≡ item.Map op)
unfolding keyword_of
map-read names mapped.Same is = (refl, refl)
map-read names mapped.Length is = (refl, refl)
map-read names mapped.Digest is = (refl, refl)
map-read names (mapped.Field n) is =
    (exactly-one_none names (number 1 1000) (decimal_text n) (count-none names 1 1000 n (omega arith) is.0 is.1), let high = is.1 in ap (λ m. item.Map (mapped.Field m)) (number-read n (omega arith)))
map-read names mapped.Number is = (refl, refl)

predicate-read : (names : List (List ℕ)) (pred : Pred) → IsPredicate pred → (form_codes names (chosen predicate_form (predicate_words pred)) ≡ []) × (by_word predicate_kind (predicate_words pred) ≡ pred)
unfolding keyword_of
predicate-read names (kept.Contains text) is =
    (exactly-one_none names literal (written text) (text-none names text is), ap kept.Contains (text-read text is))
predicate-read names (kept.Wildcard text) is =
    (exactly-one_none names literal (written text) (text-none names text is), ap kept.Wildcard (text-read text is))
predicate-read names (kept.Longer bound) is =
    (exactly-one_none names (number 0 67108864) (decimal_text bound) (count-none names 0 67108864 bound (omega arith) (omega arith) is), ap kept.Longer (number-read bound (omega arith)))

abbrev pub filter_words : Bool → Pred → List (List ℕ)
filter_words negated pred = cond negated (spelling word.Not ∷ predicate_words pred) (predicate_words pred)

pub filter-read : (names : List (List ℕ)) (negated : Bool) (pred : Pred) → IsPredicate pred → (form_codes names (directive_form word.Filter (filter_words negated pred)) ≡ []) × (filter_meant (filter_words negated pred) ≡ item.Keep negated pred)
unfolding keyword_of
filter-read names true pred is = let p = predicate-read names pred is in (p.0, ap (item.Keep true) p.1)
filter-read names false (kept.Contains text) is = let p = predicate-read names (kept.Contains text) is in (p.0, ap (item.Keep false) p.1)
filter-read names false (kept.Wildcard text) is = let p = predicate-read names (kept.Wildcard text) is in (p.0, ap (item.Keep false) p.1)
filter-read names false (kept.Longer bound) is = let p = predicate-read names (kept.Longer bound) is in (p.0, ap (item.Keep false) p.1)

pub fold-read : (names : List (List ℕ)) (fold : FoldOp) → IsFold fold → (form_codes names (directive_form word.Reduce (fold_words fold)) ≡ []) × (fold_meant (fold_words fold) ≡ fold)
unfolding keyword_of
fold-read names folded.Count is = (refl, refl)
fold-read names folded.Size is = (refl, refl)
fold-read names folded.Sum is = (refl, refl)
fold-read names (folded.Join separator) is =
    (exactly-one_none names literal (written separator) (text-none names separator is), ap folded.Join (text-read separator is))
fold-read names folded.Chain is = (refl, refl)
fold-read names folded.Greatest is = (refl, refl)
fold-read names folded.Tally is = (refl, refl)

abbrev pub order_args : Bool → List (List ℕ)
order_args true = spelling word.Ordered ∷ []
order_args false = spelling word.Unordered ∷ []

pub order-read : (names : List (List ℕ)) (ordered : Bool) → (form_codes names (directive_form word.Order (order_args ordered)) ≡ []) × (order_meant (order_args ordered) ≡ ordered)
unfolding keyword_of
order-read names true = (refl, refl)
order-read names false = (refl, refl)

pub list-read : (names : List (List ℕ)) (op : ListOp) → (count-fits : (n : ℕ) → op ≡ listed.First n → n ≤ 8388608) → (form_codes names (directive_form word.Then (list_words op)) ≡ []) × (list_meant (list_words op) ≡ op)
unfolding keyword_of
list-read names (listed.First count) fits =
    let high = fits count refl in
    (exactly-one_none names (number 0 8388608) (decimal_text count) (count-none names 0 8388608 count (omega arith) (omega arith) high), ap listed.First (number-read count (omega arith)))
list-read names listed.Sorted fits = (refl, refl)
list-read names listed.Concat fits = (refl, refl)

pub text-said : (names : List (List ℕ)) (text : List ℕ) → IsText text → (form_codes names (directive_form word.OnFailed (written text ∷ [])) ≡ []) × (form_codes names (directive_form word.OnCanceled (written text ∷ [])) ≡ []) × (text_of (written text) ≡ text)
text-said names text is =
    (exactly-one_none names literal (written text) (text-none names text is), exactly-one_none names literal (written text) (text-none names text is), text-read text is)

blocks-none : (names : List (List ℕ)) (blocks : List ℕ) → All (IsWithin 1 65536) blocks → HaveNoCodes (word_codes names (number 1 65536)) (map decimal_text blocks)
blocks-none names [] is = tt
blocks-none names (block ∷ blocks) is =
    let here = All-head (IsWithin 1 65536) block blocks is in
    (count-none names 1 65536 block (omega arith) here.0 here.1, blocks-none names blocks (All-tail (IsWithin 1 65536) block blocks is))

blocks-are : (blocks : List ℕ) → All (IsWithin 1 65536) blocks → map number_of (map decimal_text blocks) ≡ blocks
blocks-are [] is = refl
blocks-are (block ∷ blocks) is =
    let here = All-head (IsWithin 1 65536) block blocks is in
    let high = here.1 in
    ap (λ n. n ∷ map number_of (map decimal_text blocks)) (number-read block (omega arith)) ∙ ap (λ ns. block ∷ ns) (blocks-are blocks (All-tail (IsWithin 1 65536) block blocks is))

pub blocks-read : (names : List (List ℕ)) (blocks : List ℕ) → AreBlocks blocks → (form_codes names (directive_form word.Blocks (map decimal_text blocks)) ≡ []) × (map number_of (map decimal_text blocks) ≡ blocks)
blocks-read names blocks is = (
  up_to-none names 16 (number 1 65536) (map decimal_text blocks) (some-mapped decimal_text blocks is.some) (few-mapped decimal_text blocks 16 is.few) (blocks-none names blocks is.each),
  blocks-are blocks is.each,
)

pub priority-said : (names : List (List ℕ)) (z : ℤ) → IsPriority z → (form_codes names (directive_form word.Priority (priority_text z ∷ [])) ≡ []) × (priority_of (priority_text z) ≡ z)
priority-said names z is =
    let read = priority-read z is in
    (exactly-one_none names priority (priority_text z) (priority-none names (priority_text z) read.numeral read.within), read.read)

pub after-read : (names : List (List ℕ)) (count : ℕ) → 1 ≤ count → count ≤ 8388608 → (form_codes names (directive_form word.CancelAfter (decimal_text count ∷ [])) ≡ []) × (form_codes names (directive_form word.SuspendAfter (decimal_text count ∷ [])) ≡ []) × (number_of (decimal_text count) ≡ count)
after-read names count some few = (
  exactly-one_none names (number 1 8388608) (decimal_text count) (count-none names 1 8388608 count (omega arith) some few),
  exactly-one_none names (number 1 8388608) (decimal_text count) (count-none names 1 8388608 count (omega arith) some few),
  number-read count (omega arith),
)
