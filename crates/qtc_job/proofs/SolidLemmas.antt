-- The words of canonical lines are whole in their lines.
use Rattle.std.proofs.Common.{◌≡◌, ℕ, suc, ◌+◌, ◌/◌, ◌%◌, ◌<◌, ◌≤◌, Bool, true, false, eqb, ltb, leb, List, [], ◌∷◌, ◌++◌, length, map, Option, Some, None, refl, ⊎_elim, length-append, arith}
use Rattle.std.specs.Prelude.{◌&&◌, All, IfSome}
use Rattle.std.specs.List.{flat_map, list_all}
use Rattle.std.proofs.lemmas.Bool.{cases_Bool, and_parts, leb-true}
use Rattle.std.proofs.lemmas.Bool.Decides.{nat_tests, Decides-by_and, Decides-ltb}
use Rattle.std.proofs.lemmas.List.Elements.{All-nil, All-cons, All-head, All-tail, All-append, All-weaker}
use Rattle.std.proofs.lemmas.List.{length-map}
use Rattle.qtc_base.specs.Decimal.{decimal_text}
use Rattle.qtc_base.specs.Escape.{hex_escape, hex_glyph}
use Rattle.qtc_ops.specs.declared.operations.ItemOp.{ItemOp}
use Rattle.qtc_ops.specs.declared.operations.ItemOp.TheVariants as item
use Rattle.qtc_ops.specs.declared.operations.MapOp.TheVariants as mapped
use Rattle.qtc_ops.specs.declared.predicates.Pred.{Pred}
use Rattle.qtc_ops.specs.declared.predicates.Pred.TheVariants as kept
use Rattle.qtc_ops.specs.declared.fold_ops.FoldOp.{FoldOp}
use Rattle.qtc_ops.specs.declared.fold_ops.FoldOp.TheVariants as folded
use Rattle.qtc_ops.specs.declared.list_ops.ListOp.TheVariants as listed
use Rattle.qtc_job_file.specs.declared.jobs.ChainOp.{ChainOp}
use Rattle.qtc_job_file.specs.declared.jobs.ChainOp.TheVariants as chain
use Rattle.qtc_job_file.specs.declared.jobs.Input.{Input}
use Rattle.qtc_job_file.specs.declared.jobs.Input.TheVariants as input
use Rattle.qtc_job_file.specs.declared.jobs.Job.{Job}
use Rattle.qtc_job_file.specs.declared.jobs.JobFile.{JobFile}
use Rattle.qtc_job_file.specs.declared.keywords.Keyword.{Keyword}
use Rattle.qtc_job_file.specs.declared.keywords.Keyword.TheVariants as word
use Rattle.qtc_job_file.specs.Canonical.{is_plain, written, written_byte, name_at, input_words, predicate_words, op_words, fold_words, chain_words, order_words, fold_lines, after_lines, watch_lines, job_lines, names_of, file_lines, line_text}
use Rattle.qtc_job_file.specs.Keywords.{spelling}
use Rattle.qtc_job_file.specs.Lawful.{IsText, IsInput, IsPredicate, IsOp, IsFold, IsStep, IsWithin, IsJob, Lawful}
use Rattle.qtc_job_file.specs.Names.{is_name, is_name_byte}
use Rattle.qtc_job.proofs.CutLemmas.{IsSolid, AreSolid, AreWhole}
use Rattle.qtc_job.proofs.CanonicalFiles.{AreJobs}
use Rattle.qtc_job.proofs.NumberLemmas.{number-solid, priority-solid}

-- ---- words

abbrev IsHigh : ℕ → Type 0
IsHigh byte = 32 < byte

high-decides : (word : List ℕ) → list_all (λ byte. ltb 32 byte) word ≡ true → All IsHigh word
high-decides word e = (Decides-by_and (λ byte. ltb 32 byte) IsHigh (list_all (λ byte. ltb 32 byte)) (λ byte. Decides-ltb 32 byte) refl (λ _ _. refl) word).0 e

solid-test : (word : List ℕ) → (leb 1 (length word) && list_all (λ byte. ltb 32 byte) word) ≡ true → IsSolid word
solid-test word e =
    let parts = and_parts _ _ e in
    (leb-true 1 (length word) parts.0, high-decides word parts.1)

pub keyword-solid : (k : Keyword) → IsSolid (spelling k)
keyword-solid word.Workers = solid-test (spelling word.Workers) refl
keyword-solid word.Job = solid-test (spelling word.Job) refl
keyword-solid word.Input = solid-test (spelling word.Input) refl
keyword-solid word.Map = solid-test (spelling word.Map) refl
keyword-solid word.Filter = solid-test (spelling word.Filter) refl
keyword-solid word.Reduce = solid-test (spelling word.Reduce) refl
keyword-solid word.Order = solid-test (spelling word.Order) refl
keyword-solid word.Blocks = solid-test (spelling word.Blocks) refl
keyword-solid word.Priority = solid-test (spelling word.Priority) refl
keyword-solid word.CancelAfter = solid-test (spelling word.CancelAfter) refl
keyword-solid word.SuspendAfter = solid-test (spelling word.SuspendAfter) refl
keyword-solid word.Watch = solid-test (spelling word.Watch) refl
keyword-solid word.Then = solid-test (spelling word.Then) refl
keyword-solid word.OnFailed = solid-test (spelling word.OnFailed) refl
keyword-solid word.OnCanceled = solid-test (spelling word.OnCanceled) refl
keyword-solid word.Lines = solid-test (spelling word.Lines) refl
keyword-solid word.Files = solid-test (spelling word.Files) refl
keyword-solid word.Pieces = solid-test (spelling word.Pieces) refl
keyword-solid word.All = solid-test (spelling word.All) refl
keyword-solid word.Any = solid-test (spelling word.Any) refl
keyword-solid word.Same = solid-test (spelling word.Same) refl
keyword-solid word.Length = solid-test (spelling word.Length) refl
keyword-solid word.Digest = solid-test (spelling word.Digest) refl
keyword-solid word.Field = solid-test (spelling word.Field) refl
keyword-solid word.Number = solid-test (spelling word.Number) refl
keyword-solid word.Not = solid-test (spelling word.Not) refl
keyword-solid word.Contains = solid-test (spelling word.Contains) refl
keyword-solid word.Wildcard = solid-test (spelling word.Wildcard) refl
keyword-solid word.Longer = solid-test (spelling word.Longer) refl
keyword-solid word.Count = solid-test (spelling word.Count) refl
keyword-solid word.Bytes = solid-test (spelling word.Bytes) refl
keyword-solid word.Sum = solid-test (spelling word.Sum) refl
keyword-solid word.Join = solid-test (spelling word.Join) refl
keyword-solid word.Chain = solid-test (spelling word.Chain) refl
keyword-solid word.Greatest = solid-test (spelling word.Greatest) refl
keyword-solid word.Tally = solid-test (spelling word.Tally) refl
keyword-solid word.Ordered = solid-test (spelling word.Ordered) refl
keyword-solid word.Unordered = solid-test (spelling word.Unordered) refl
keyword-solid word.First = solid-test (spelling word.First) refl
keyword-solid word.Sorted = solid-test (spelling word.Sorted) refl
keyword-solid word.Concat = solid-test (spelling word.Concat) refl

glyph-high : (value : ℕ) → value < 16 → IsHigh (hex_glyph value)
glyph-high value small = grind (arith, nat_tests)

plain-high : (byte : ℕ) → is_plain byte ≡ true → IsHigh byte
plain-high byte plain = grind (arith, nat_tests)

escape-high : (byte : ℕ) → byte < 256 → All IsHigh (hex_escape byte)
escape-high byte small =
    All-cons IsHigh 92 (120 ∷ hex_glyph (byte / 16) ∷ hex_glyph (byte % 16) ∷ []) (omega arith)
    (All-cons IsHigh 120 (hex_glyph (byte / 16) ∷ hex_glyph (byte % 16) ∷ []) (omega arith)
    (All-cons IsHigh (hex_glyph (byte / 16)) (hex_glyph (byte % 16) ∷ []) (glyph-high (byte / 16) (omega arith))
    (All-cons IsHigh (hex_glyph (byte % 16)) [] (glyph-high (byte % 16) (omega arith)) (All-nil IsHigh))))

byte-high : (byte : ℕ) → byte < 256 → All IsHigh (written_byte byte)
byte-high byte small = ⊎_elim
    (λ (plain : is_plain byte ≡ true). rw plain (All-cons IsHigh byte [] (plain-high byte plain) (All-nil IsHigh)))
    (λ (other : is_plain byte ≡ false). rw other (escape-high byte small))
    (cases_Bool (is_plain byte))

byte-some : (byte : ℕ) → 1 ≤ length (written_byte byte)
byte-some byte = ⊎_elim
    (λ (plain : is_plain byte ≡ true). rw plain (omega arith))
    (λ (other : is_plain byte ≡ false). rw other (omega arith))
    (cases_Bool (is_plain byte))

written-high : (text : List ℕ) → All (λ byte. byte < 256) text → All IsHigh (written text)
written-high [] small = All-nil IsHigh
written-high (byte ∷ text) small =
    All-append IsHigh (written_byte byte) (written text) (byte-high byte (All-head (λ byte. byte < 256) byte text small)) (written-high text (All-tail (λ byte. byte < 256) byte text small))

written-some : (text : List ℕ) → 1 ≤ length text → 1 ≤ length (written text)
written-some [] some = absurd (omega arith)
written-some (byte ∷ text) some =
    let here = byte-some byte in
    let size = length-append (written_byte byte) (written text) in
    omega arith

pub written-solid : (text : List ℕ) → IsText text → IsSolid (written text)
written-solid text is = (written-some text is.some, written-high text is.bytes)

name-high : (byte : ℕ) → is_name_byte byte ≡ true → IsHigh byte
name-high byte e = grind (arith, nat_tests)

name-bytes : (word : List ℕ) → list_all is_name_byte word ≡ true → All IsHigh word
name-bytes word e = All-weaker (λ byte. is_name_byte byte ≡ true) IsHigh name-high word
    ((Decides-by_and is_name_byte (λ byte. is_name_byte byte ≡ true) (list_all is_name_byte) (λ byte. ((λ h. h), (λ h. h))) refl (λ _ _. refl) word).0 e)

pub name-solid : (word : List ℕ) → is_name word ≡ true → IsSolid word
name-solid word e =
    let parts = and_parts _ _ e in
    let more = and_parts _ _ parts.1 in
    (leb-true 1 (length word) parts.0, name-bytes word more.1)

number-whole : (most n : ℕ) → most < 10000000000 → n ≤ most → IsSolid (decimal_text n)
number-whole most n fits few = number-solid n (omega arith)

-- ---- the words of lines

texts-solid : (texts : List (List ℕ)) → All IsText texts → AreSolid (map written texts)
texts-solid [] is = tt
texts-solid (text ∷ texts) is = (written-solid text (All-head IsText text texts is), texts-solid texts (All-tail IsText text texts is))

names-solid : (all : List (List ℕ)) (below : ℕ) (places : List ℕ) → All IsSolid all → below ≤ length all → All (λ p. p < below) places → AreSolid (map (name_at all) places)
names-solid all below [] solid within less = tt
names-solid all below (place ∷ places) solid within less =
    let here = All-head (λ p. p < below) place places less in
    (solid place [] (omega arith), names-solid all below places solid within (All-tail (λ p. p < below) place places less))

blocks-solid : (blocks : List ℕ) → All (IsWithin 1 65536) blocks → AreSolid (map decimal_text blocks)
blocks-solid [] is = tt
blocks-solid (block ∷ blocks) is =
    (number-whole 65536 block (omega arith) (All-head (IsWithin 1 65536) block blocks is).1, blocks-solid blocks (All-tail (IsWithin 1 65536) block blocks is))

input-solid : (all : List (List ℕ)) (place : ℕ) (said : Input) → All IsSolid all → place ≤ length all → IsInput place said → AreSolid (input_words all said)
input-solid all place (input.Lines text) solid within is = (keyword-solid word.Lines, (written-solid text is, tt))
input-solid all place (input.Files texts) solid within is = (keyword-solid word.Files, texts-solid texts is.each)
input-solid all place (input.Pieces size text) solid within is = (keyword-solid word.Pieces, (number-whole 67108864 size (omega arith) is.0.1, (written-solid text is.1, tt)))
input-solid all place (input.Job p) solid within is = (keyword-solid word.Job, (solid p [] (omega arith), tt))
input-solid all place (input.All places) solid within is = (keyword-solid word.All, names-solid all place places solid within is.each)
input-solid all place (input.Any places) solid within is = (keyword-solid word.Any, names-solid all place places solid within is.each)

predicate-solid : (pred : Pred) → IsPredicate pred → AreSolid (predicate_words pred)
predicate-solid (kept.Contains text) is = (keyword-solid word.Contains, (written-solid text is, tt))
predicate-solid (kept.Wildcard text) is = (keyword-solid word.Wildcard, (written-solid text is, tt))
predicate-solid (kept.Longer bound) is = (keyword-solid word.Longer, (number-whole 67108864 bound (omega arith) is, tt))

op-solid : (op : ItemOp) → IsOp op → AreSolid (op_words op)
op-solid (item.Map mapped.Same) is = (keyword-solid word.Map, (keyword-solid word.Same, tt))
op-solid (item.Map mapped.Length) is = (keyword-solid word.Map, (keyword-solid word.Length, tt))
op-solid (item.Map mapped.Digest) is = (keyword-solid word.Map, (keyword-solid word.Digest, tt))
op-solid (item.Map (mapped.Field n)) is = (keyword-solid word.Map, (keyword-solid word.Field, (number-whole 1000 n (omega arith) is.1, tt)))
op-solid (item.Map mapped.Number) is = (keyword-solid word.Map, (keyword-solid word.Number, tt))
op-solid (item.Keep true pred) is = (keyword-solid word.Filter, (keyword-solid word.Not, predicate-solid pred is))
op-solid (item.Keep false pred) is = (keyword-solid word.Filter, predicate-solid pred is)

fold-solid : (fold : FoldOp) → IsFold fold → AreSolid (fold_words fold)
fold-solid folded.Count is = (keyword-solid word.Count, tt)
fold-solid folded.Size is = (keyword-solid word.Bytes, tt)
fold-solid folded.Sum is = (keyword-solid word.Sum, tt)
fold-solid (folded.Join separator) is = (keyword-solid word.Join, (written-solid separator is, tt))
fold-solid folded.Chain is = (keyword-solid word.Chain, tt)
fold-solid folded.Greatest is = (keyword-solid word.Greatest, tt)
fold-solid folded.Tally is = (keyword-solid word.Tally, tt)

step-solid : (step : ChainOp) → IsStep step → AreSolid (chain_words step)
step-solid (chain.Then (listed.First count)) is = (keyword-solid word.Then, (keyword-solid word.First, (number-whole 8388608 count (omega arith) is, tt)))
step-solid (chain.Then listed.Sorted) is = (keyword-solid word.Then, (keyword-solid word.Sorted, tt))
step-solid (chain.Then listed.Concat) is = (keyword-solid word.Then, (keyword-solid word.Concat, tt))
step-solid (chain.OnFailed text) is = (keyword-solid word.OnFailed, (written-solid text is, tt))
step-solid (chain.OnCanceled text) is = (keyword-solid word.OnCanceled, (written-solid text is, tt))

-- ---- lines

abbrev pub AreAllSolid : List (List (List ℕ)) → Type 0
AreAllSolid [] = Unit {0}
AreAllSolid (ws ∷ ls) = AreSolid ws × AreAllSolid ls

solid-append : (a b : List (List (List ℕ))) → AreAllSolid a → AreAllSolid b → AreAllSolid (a ++ b)
solid-append [] b p q = q
solid-append (ws ∷ a) b p q = (p.0, solid-append a b p.1 q)

chain-solid : (steps : List ChainOp) → All IsStep steps → AreAllSolid (map chain_words steps)
chain-solid [] is = tt
chain-solid (step ∷ steps) is = (step-solid step (All-head IsStep step steps is), chain-solid steps (All-tail IsStep step steps is))

order-solid : (ordered : Bool) → AreSolid (order_words ordered)
order-solid true = (keyword-solid word.Order, (keyword-solid word.Ordered, tt))
order-solid false = (keyword-solid word.Order, (keyword-solid word.Unordered, tt))

folds-solid : (fold : Option FoldOp) (ordered : Bool) → IfSome fold IsFold → AreAllSolid (fold_lines fold ordered)
folds-solid None ordered is = tt
folds-solid (Some fold) ordered is = ((keyword-solid word.Reduce, fold-solid fold is), (order-solid ordered, tt))

after-solid : (k : Keyword) (count : ℕ) → count ≤ 8388608 → AreAllSolid (after_lines (spelling k) count)
after-solid k count few = ⊎_elim
    (λ (never : eqb count 0 ≡ true). rw never tt)
    (λ (some : eqb count 0 ≡ false). rw some ((keyword-solid k, (number-whole 8388608 count (omega arith) few, tt)), tt))
    (cases_Bool (eqb count 0))

watch-solid : (watched : Bool) → AreAllSolid (watch_lines watched)
watch-solid true = ((keyword-solid word.Watch, tt), tt)
watch-solid false = tt

job-solid : (all : List (List ℕ)) (place : ℕ) (j : Job) → All IsSolid all → place ≤ length all → IsJob place j → AreAllSolid (job_lines all j)
job-solid all place j solid within is =
    let later = solid-append (after_lines (spelling word.CancelAfter) j.cancel_after) _ (after-solid word.CancelAfter j.cancel_after is.cancel_after)
    (solid-append (after_lines (spelling word.SuspendAfter) j.suspend_after) _ (after-solid word.SuspendAfter j.suspend_after is.suspend_after)
    (solid-append (watch_lines j.watch) (map chain_words j.chain) (watch-solid j.watch) (chain-solid j.chain is.chain.each))) in
    let back = solid-append (fold_lines j.fold j.ordered) _ (folds-solid j.fold j.ordered is.fold)
    ((keyword-solid word.Blocks, blocks-solid j.blocks is.blocks.each), ((keyword-solid word.Priority, (priority-solid j.priority is.priority, tt)), later)) in
    ((keyword-solid word.Job, (name-solid j.name is.name, tt)), ((keyword-solid word.Input, input-solid all place j.input solid within is.input), (op-solid j.op is.op, back)))

jobs-solid : (all : List (List ℕ)) (place : ℕ) (jobs : List Job) → All IsSolid all → place + length jobs ≤ length all → AreJobs place jobs → AreAllSolid (flat_map (job_lines all) jobs)
jobs-solid all place [] solid within are = tt
jobs-solid all place (j ∷ jobs) solid within are =
    solid-append (job_lines all j) (flat_map (job_lines all) jobs) (job-solid all place j solid (omega arith) are.0) (jobs-solid all (suc place) jobs solid (omega arith) are.1)

pub jobs-named : (place : ℕ) (jobs : List Job) → AreJobs place jobs → All IsSolid (names_of jobs)
jobs-named place [] are = All-nil IsSolid
jobs-named place (j ∷ jobs) are = All-cons IsSolid j.name (names_of jobs) (name-solid j.name are.0.name) (jobs-named (suc place) jobs are.1)

whole-from : (ls : List (List (List ℕ))) → AreAllSolid ls → All (λ ws. length (line_text ws) ≤ 4096) ls → AreWhole ls
whole-from [] solid short = tt
whole-from (ws ∷ ls) solid short =
    (solid.0, All-head (λ ws. length (line_text ws) ≤ 4096) ws ls short, whole-from ls solid.1 (All-tail (λ ws. length (line_text ws) ≤ 4096) ws ls short))

pub file-whole : (file : JobFile) → Lawful file → AreJobs 0 file.jobs → AreWhole (file_lines file)
file-whole file lawful are =
    let all = names_of file.jobs in
    let size : length all ≡ length file.jobs = length-map file.jobs (λ j. j.name) in
    whole-from (file_lines file) ((keyword-solid word.Workers, (number-whole 32 file.workers (omega arith) lawful.workers.1, tt)), jobs-solid all 0 file.jobs (jobs-named 0 file.jobs are) (omega arith) are) lawful.short
