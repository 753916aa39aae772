-- A job whose lines have no codes is lawful, and its canonical lines are short.
use Rattle.std.proofs.Common.{◌≡◌, ℕ, ◌+◌, ◌*◌, ◌≤◌, Bool, true, false, cond, eqb, leb, List, [], ◌∷◌, ◌++◌, length, map, Option, Some, None, is_some, refl, ap, sym, subst, ⊎_elim, arith}
use Rattle.std.specs.Prelude.{◌&&◌, ◌||◌, ℤ, pos, All, IfSome, not}
use Rattle.std.specs.List.{list_all}
use Rattle.std.proofs.lemmas.Bool.{cases_Bool, and_parts, leb-true, not-false}
use Rattle.std.proofs.lemmas.Int.{ints}
use Rattle.std.proofs.lemmas.List.Elements.{All-nil, All-cons, All-head, All-tail}
use Rattle.qtc_base.specs.Decimal.{decimal_text, number_of}
use Rattle.qtc_ops.specs.declared.fold_ops.FoldOp.{FoldOp}
use Rattle.qtc_job_file.specs.declared.jobs.ChainOp.{ChainOp}
use Rattle.qtc_job_file.specs.declared.jobs.ChainOp.TheVariants as chain
use Rattle.qtc_job_file.specs.declared.keywords.Keyword.{Keyword}
use Rattle.qtc_job_file.specs.declared.keywords.Keyword.TheVariants as word
use Rattle.qtc_job_file.specs.Canonical.{after_lines, chain_words, fold_lines, job_lines, line_text, op_words, order_words, priority_text, watch_lines}
use Rattle.qtc_job.specs.Codes.{form_codes, job_codes, lacks_input, lacks_one_function, orders_no_fold, stands, where_}
use Rattle.qtc_job.specs.Forms.{directive_form}
use Rattle.qtc_job_file.specs.Keywords.{spelling}
use Rattle.qtc_job_file.specs.Lawful.{AreBlocks, IsFold, IsJob, IsOp, IsPriority, IsStep, IsWithin}
use Rattle.qtc_base.specs.Limits.{default_block}
use Rattle.qtc_job.specs.Lines.{Line, too_long, silent, unknown, workers, job, says, args_in, begins}
use Rattle.qtc_job.specs.Literals.{priority_of}
use Rattle.qtc_job_file.specs.Names.{is_name, is_name_byte}
use Rattle.qtc_job.specs.Meaning.{args_of, chain_of, job_of, map_meant, filter_meant, fold_meant, order_meant, list_meant, number_at, text_at, word_at}
use Rattle.qtc_job.specs.Tails.{tail}
use Rattle.qtc_job_file.proofs.KeywordLemmas.{spelling-same}
use Rattle.qtc_job.proofs.NumberLemmas.{number-size, priority-size}
use Rattle.qtc_job.proofs.PlaceLemmas.{append-none, where-none}
use Rattle.qtc_job.proofs.LawfulLines.{tail-size, input-said, map-said, filter-said, fold-said, list-said, failed-said, canceled-said, blocks-said, priority-said, cancel-said, suspend-said}
use Rattle.qtc_job.proofs.SourceLemmas.{IsSourced, join-size}

-- ---- the lines of a job

-- a line of a job whose form has no code, and which a text has
abbrev pub IsOwnGood : List (List ℕ) → Line → Type 0
IsOwnGood names (says k args) = (form_codes names (directive_form k args) ≡ []) × IsSourced (length (spelling k)) args
IsOwnGood names _ = Unit {0}

abbrev pub AreOwnGood : List (List ℕ) → List Line → Type 0
AreOwnGood names [] = Unit {0}
AreOwnGood names (l ∷ own) = IsOwnGood names l × AreOwnGood names own

own-here : (names : List (List ℕ)) (k : Keyword) (l : Line) → begins k l ≡ true → IsOwnGood names l → (args : List (List ℕ)) × (l ≡ says k args) × IsOwnGood names (says k args)
own-here names k too_long e good = cc
own-here names k silent e good = cc
own-here names k unknown e good = cc
own-here names k (workers args) e good = cc
own-here names k (job args) e good = cc
own-here names k (says named args) e good =
    let same = spelling-same k named e in
    (args, ap (λ n. says n args) (sym same), subst (λ (n : Keyword). IsOwnGood names (says n args)) (sym same) good)

-- the line of the job that begins with a word
own-at : (names : List (List ℕ)) (k : Keyword) (own : List Line) → AreOwnGood names own → stands k own ≡ true → IsOwnGood names (says k (args_of k own))
own-at names k [] good there = cc
own-at names k (l ∷ own) good there = ⊎_elim
    (λ (here : begins k l ≡ true).
    let line = own-here names k l here good.0 in
    let same : args_of k (l ∷ own) ≡ line.0 = rw here (ap args_in line.1) in
    rw same line.2)
    (λ (other : begins k l ≡ false).
    let more : stands k own ≡ true = rw other at there in
    let same : args_of k (l ∷ own) ≡ args_of k own = rw other refl in
    rw same (own-at names k own good.1 more))
    (cases_Bool (begins k l))

-- ---- canonical lines that are short by themselves

abbrev pub AreShort : List (List (List ℕ)) → Type 0
AreShort [] = Unit {0}
AreShort (ws ∷ ls) = (length (line_text ws) ≤ 4096) × AreShort ls

pub short-append : (a b : List (List (List ℕ))) → AreShort a → AreShort b → AreShort (a ++ b)
short-append [] b p q = q
short-append (ws ∷ a) b p q = (p.0, short-append a b p.1 q)

pub two-short : (first second : List ℕ) → length first + length second ≤ 4095 → length (line_text (first ∷ second ∷ [])) ≤ 4096
two-short first second fits =
    let joined = join-size first (second ∷ []) in
    let size = tail-size second [] in
    omega arith

blocks-size : (blocks : List ℕ) → All (IsWithin 1 65536) blocks → length (tail (map decimal_text blocks)) ≤ 6 * length blocks
blocks-size [] is = omega arith
blocks-size (block ∷ blocks) is =
    let high = (All-head (IsWithin 1 65536) block blocks is).1 in
    let here = number-size 5 block (omega arith) (omega arith) (omega arith) in
    let there = blocks-size blocks (All-tail (IsWithin 1 65536) block blocks is) in
    let size = tail-size (decimal_text block) (map decimal_text blocks) in
    omega arith

blocks-short : (blocks : List ℕ) → AreBlocks blocks → length (line_text (spelling word.Blocks ∷ map decimal_text blocks)) ≤ 4096
blocks-short blocks is =
    let few = is.few in
    let size = blocks-size blocks is.each in
    let joined = join-size (spelling word.Blocks) (map decimal_text blocks) in
    omega arith

priority-short : (priority : ℤ) → IsPriority priority → length (line_text (spelling word.Priority ∷ priority_text priority ∷ [])) ≤ 4096
priority-short priority is = let size = priority-size priority is in two-short (spelling word.Priority) (priority_text priority) (omega arith)

after-short : (k : Keyword) (count : ℕ) → length (spelling k) ≤ 100 → count ≤ 8388608 → AreShort (after_lines (spelling k) count)
after-short k count few small = ⊎_elim
    (λ (never : eqb count 0 ≡ true). rw never tt)
    (λ (some : eqb count 0 ≡ false).
    let size = number-size 7 count (omega arith) (omega arith) (omega arith) in
    rw some (two-short (spelling k) (decimal_text count) (omega arith), tt))
    (cases_Bool (eqb count 0))

watch-short : (watched : Bool) → AreShort (watch_lines watched)
watch-short true = (omega arith, tt)
watch-short false = tt

order-short : (ordered : Bool) → length (line_text (order_words ordered)) ≤ 4096
order-short true = omega arith
order-short false = omega arith

-- ---- what the lines of a job say

one-function : (a b : Bool) → ((a && b) || (not a && not b)) ≡ false → a ≡ false → b ≡ true
one-function true b e none = cc
one-function false true e none = refl
one-function false false e none = cc

op-own : (names : List (List ℕ)) (own : List Line) → AreOwnGood names own → lacks_one_function own ≡ false → (stood : Bool) → stands word.Map own ≡ stood
    → IsOp (cond stood (map_meant (args_of word.Map own)) (filter_meant (args_of word.Filter own))) × (length (line_text (op_words (cond stood (map_meant (args_of word.Map own)) (filter_meant (args_of word.Filter own))))) ≤ 4096)
op-own names own good one true e =
    let line = own-at names word.Map own good e in
    map-said names (args_of word.Map own) line.1 line.0
op-own names own good one false e =
    let there = one-function (stands word.Map own) (stands word.Filter own) one e in
    let line = own-at names word.Filter own good there in
    filter-said names (args_of word.Filter own) line.1 line.0

fold-own : (names : List (List ℕ)) (own : List Line) (ordered : Bool) → AreOwnGood names own → (stood : Bool) → stands word.Reduce own ≡ stood
    → IfSome (let o : Option FoldOp = cond stood (Some (fold_meant (args_of word.Reduce own))) None in o) IsFold × AreShort (fold_lines (cond stood (Some (fold_meant (args_of word.Reduce own))) None) ordered)
fold-own names own ordered good true e =
    let line = own-at names word.Reduce own good e in
    let said = fold-said names (args_of word.Reduce own) line.1 line.0 in
    (said.0, (said.1, (order-short ordered, tt)))
fold-own names own ordered good false e = (tt, tt)

order-own : (ordered stood folded : Bool) (fold : FoldOp) → (stood && not folded) ≡ false → cond stood ordered false ≡ true → is_some (let o : Option FoldOp = cond folded (Some fold) None in o) ≡ true
order-own ordered true true fold none is = refl
order-own ordered true false fold none is = cc
order-own ordered false folded fold none is = cc

default-blocks : AreBlocks (16 ∷ [])
default-blocks = record { some = omega arith; few = omega arith; each = All-cons (IsWithin 1 65536) 16 [] (omega arith, omega arith) (All-nil (IsWithin 1 65536)) }

blocks-own : (names : List (List ℕ)) (own : List Line) → AreOwnGood names own → (stood : Bool) → stands word.Blocks own ≡ stood → AreBlocks (cond stood (map number_of (args_of word.Blocks own)) (default_block ∷ []))
blocks-own names own good true e = blocks-said names (args_of word.Blocks own) (own-at names word.Blocks own good e).0
blocks-own names own good false e = default-blocks

zero-priority : IsPriority (pos 0)
zero-priority = record { least = omega (arith, ints); most = omega (arith, ints) }

priority-own : (names : List (List ℕ)) (own : List Line) → AreOwnGood names own → (stood : Bool) → stands word.Priority own ≡ stood → IsPriority (cond stood (priority_of (word_at (args_of word.Priority own) 0)) (pos 0))
priority-own names own good true e = priority-said names (args_of word.Priority own) (own-at names word.Priority own good e).0
priority-own names own good false e = zero-priority

cancel-own : (names : List (List ℕ)) (own : List Line) → AreOwnGood names own → (stood : Bool) → stands word.CancelAfter own ≡ stood → cond stood (number_at (args_of word.CancelAfter own) 0) 0 ≤ 8388608
cancel-own names own good true e = cancel-said names (args_of word.CancelAfter own) (own-at names word.CancelAfter own good e).0
cancel-own names own good false e = omega arith

suspend-own : (names : List (List ℕ)) (own : List Line) → AreOwnGood names own → (stood : Bool) → stands word.SuspendAfter own ≡ stood → cond stood (number_at (args_of word.SuspendAfter own) 0) 0 ≤ 8388608
suspend-own names own good true e = suspend-said names (args_of word.SuspendAfter own) (own-at names word.SuspendAfter own good e).0
suspend-own names own good false e = omega arith

-- the steps of a chain, and their lines
abbrev AreSteps : List ChainOp → Type 0
AreSteps steps = All IsStep steps × AreShort (map chain_words steps)

steps-one : (step : ChainOp) (steps : List ChainOp) → IsStep step → length (line_text (chain_words step)) ≤ 4096 → AreSteps steps → AreSteps (step ∷ steps)
steps-one step steps is short more = (All-cons IsStep step steps is more.0, (short, more.1))

chain-own : (names : List (List ℕ)) (own : List Line) → AreOwnGood names own → AreSteps (chain_of own)
chain-own names [] good = (All-nil IsStep, tt)
chain-own names (says word.Then args ∷ own) good =
    let said = list-said names args good.0.1 good.0.0 in
    steps-one (chain.Then (list_meant args)) (chain_of own) said.0 said.1 (chain-own names own good.1)
chain-own names (says word.OnFailed args ∷ own) good =
    let said = failed-said names args good.0.1 good.0.0 in
    steps-one (chain.OnFailed (text_at args 0)) (chain_of own) said.0 said.1 (chain-own names own good.1)
chain-own names (says word.OnCanceled args ∷ own) good =
    let said = canceled-said names args good.0.1 good.0.0 in
    steps-one (chain.OnCanceled (text_at args 0)) (chain_of own) said.0 said.1 (chain-own names own good.1)
chain-own names (says _ args ∷ own) good = chain-own names own good.1
chain-own names (too_long ∷ own) good = chain-own names own good.1
chain-own names (silent ∷ own) good = chain-own names own good.1
chain-own names (unknown ∷ own) good = chain-own names own good.1
chain-own names (workers args ∷ own) good = chain-own names own good.1
chain-own names (job args ∷ own) good = chain-own names own good.1

name-short : (named : List ℕ) → is_name named ≡ true → length (line_text (spelling word.Job ∷ named ∷ [])) ≤ 4096
name-short named is =
    let parts = and_parts (leb 1 (length named)) (leb (length named) 64 && list_all is_name_byte named) is in
    let more = and_parts (leb (length named) 64) (list_all is_name_byte named) parts.1 in
    let few : length named ≤ 64 = leb-true (length named) 64 more.0 in
    two-short (spelling word.Job) named (omega arith)

pub job-own : (names all more : List (List ℕ)) (named : List ℕ) (own : List Line) → all ≡ names ++ more → is_name named ≡ true → AreOwnGood names own → job_codes own ≡ [] → length (chain_of own) ≤ 8
    → IsJob (length names) (job_of names named own) × AreShort (job_lines all (job_of names named own))
job-own names all more named own e is good none few =
    let a = append-none (where_ (lacks_input own) 8) _ none in
    let b = append-none (where_ (lacks_one_function own) 9) _ a.1 in
    let there = not-false (stands word.Input own) (where-none (lacks_input own) 8 a.0) in
    let one = where-none (lacks_one_function own) 9 b.0 in
    let folds = where-none (orders_no_fold own) 10 b.1 in
    let line = own-at names word.Input own good there in
    let input = input-said names all more e (args_of word.Input own) line.1 line.0 in
    let op = op-own names own good one (stands word.Map own) refl in
    let j = job_of names named own in
    let fold = fold-own names own j.ordered good (stands word.Reduce own) refl in
    let blocks = blocks-own names own good (stands word.Blocks own) refl in
    let priority = priority-own names own good (stands word.Priority own) refl in
    let cancel = cancel-own names own good (stands word.CancelAfter own) refl in
    let suspend = suspend-own names own good (stands word.SuspendAfter own) refl in
    let steps = chain-own names own good in (
      record {
        name = is;
        input = input.0;
        op = op.0;
        fold = fold.0;
        ordered = order-own (order_meant (args_of word.Order own)) (stands word.Order own) (stands word.Reduce own) (fold_meant (args_of word.Reduce own)) folds;
        blocks = blocks;
        priority = priority;
        cancel_after = cancel;
        suspend_after = suspend;
        chain = record { few = few; each = steps.0 };
      },
      (
        name-short named is,
        (
          input.1,
          (
            op.1,
            short-append (fold_lines j.fold j.ordered) _ fold.1 (
              blocks-short j.blocks blocks,
              (
                priority-short j.priority priority,
                short-append (after_lines (spelling word.CancelAfter) j.cancel_after) _ (after-short word.CancelAfter j.cancel_after (omega arith) cancel)
                    (short-append (after_lines (spelling word.SuspendAfter) j.suspend_after) _ (after-short word.SuspendAfter j.suspend_after (omega arith) suspend)
                    (short-append (watch_lines j.watch) (map chain_words j.chain) (watch-short j.watch) steps.1)),
              ),
            ),
          ),
        ),
      ),
    )
