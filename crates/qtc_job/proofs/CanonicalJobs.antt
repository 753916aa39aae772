-- The canonical lines of a job from its fold on, and all of them.
use Rattle.std.proofs.Common.{◌≡◌, ℕ, ◌+◌, ◌<◌, ◌≤◌, Bool, true, false, cond, eqb, List, [], ◌∷◌, ◌++◌, length, map, Option, Some, None, refl, ap, sym, subst, ⊎_elim, append_assoc, append-nil, arith}
use Rattle.std.specs.Prelude.{ℤ, All, IfSome}
use Rattle.std.proofs.lemmas.Bool.{cases_Bool, eqb-false}
use Rattle.std.proofs.lemmas.Grind.{common_steps}
use Rattle.std.proofs.lemmas.List.Elements.{All-head, All-tail}
use Rattle.qtc_base.specs.Decimal.{decimal_text, number_of}
use Rattle.qtc_ops.specs.declared.operations.ItemOp.{ItemOp}
use Rattle.qtc_ops.specs.declared.fold_ops.FoldOp.{FoldOp}
use Rattle.qtc_ops.specs.declared.list_ops.ListOp.{ListOp}
use Rattle.qtc_ops.specs.declared.list_ops.ListOp.TheVariants as listed
use Rattle.qtc_job.specs.declared.drafts.Draft.{Draft}
use Rattle.qtc_job_file.specs.declared.jobs.ChainOp.{ChainOp}
use Rattle.qtc_job_file.specs.declared.jobs.ChainOp.TheVariants as chain
use Rattle.qtc_job_file.specs.declared.jobs.Input.{Input}
use Rattle.qtc_job_file.specs.declared.jobs.Job.{Job}
use Rattle.qtc_job_file.specs.declared.keywords.Keyword.TheVariants as word
use Rattle.qtc_job.specs.declared.statements.Statement.TheVariants as statement
use Rattle.qtc_job_file.specs.Canonical.{after_lines, chain_words, fold_lines, fold_words, order_words, input_words, op_words, own_lines, priority_text, watch_lines}
use Rattle.qtc_job_file.specs.Keywords.{keyword_of, spelling}
use Rattle.qtc_job_file.specs.Lawful.{AreBlocks, IsFold, IsJob, IsPriority, IsStep}
use Rattle.qtc_job.specs.Lines.{says, line_of_words}
use Rattle.qtc_job.specs.Meaning.{fold_meant, order_meant, number_at, word_at}
use Rattle.qtc_job.specs.Literals.{priority_of}
use Rattle.qtc_job.proofs.DraftLemmas.{kept-isnt}
use Rattle.qtc_job.proofs.PlaceLemmas.{AreApart}
use Rattle.qtc_job.proofs.CanonicalLines.{fold-read, order-read, order_args, list-read, text-said, blocks-read, priority-said, after-read}
use Rattle.qtc_job.proofs.CanonicalSteps.{Goes, goes-none, goes-map, goes-says, no-chain, draft_of, goes-input, goes-op, map_of, filter_of}

abbrev pub order_of : Option FoldOp → Bool → Option Bool
order_of None ordered = None
order_of (Some fold) ordered = Some ordered

order-line : (ordered : Bool) → line_of_words (order_words ordered) ≡ says word.Order (order_args ordered)
unfolding keyword_of
order-line true = refl
order-line false = refl

goes-order : (names : List (List ℕ)) (line : ℕ) (name : List ℕ) (i : Option Input) (m f : Option ItemOp) (fold : FoldOp) (ordered : Bool)
    → Goes names (draft_of line name i m f (Some fold) None None None None None false []) (map line_of_words (order_words ordered ∷ [])) (draft_of line name i m f (Some fold) (Some ordered) None None None None false [])
goes-order names line name i m f fold ordered =
    let read = order-read names ordered in
    rw (order-line ordered) (goes-says names (draft_of line name i m f (Some fold) None None None None None false []) word.Order (order_args ordered) (statement.Order ordered) tt read.0 (ap statement.Order read.1)
    (λ own d. kept-isnt word.Order order_meant own None d.order refl) no-chain)

goes-fold : (names : List (List ℕ)) (line : ℕ) (name : List ℕ) (i : Option Input) (m f : Option ItemOp) (fold : Option FoldOp) (ordered : Bool) → IfSome fold IsFold
    → Goes names (draft_of line name i m f None None None None None None false []) (map line_of_words (fold_lines fold ordered)) (draft_of line name i m f fold (order_of fold ordered) None None None None false [])
unfolding keyword_of
goes-fold names line name i m f None ordered is = goes-none names (draft_of line name i m f None None None None None None false [])
goes-fold names line name i m f (Some fold) ordered is =
    let read = fold-read names fold is in
    let first = goes-says names (draft_of line name i m f None None None None None None false []) word.Reduce (fold_words fold) (statement.Reduce fold) tt read.0 (ap statement.Reduce read.1)
    (λ own d. kept-isnt word.Reduce fold_meant own None d.fold refl) no-chain in
    goes-map names (draft_of line name i m f None None None None None None false []) (draft_of line name i m f (Some fold) None None None None None false []) (draft_of line name i m f (Some fold) (Some ordered) None None None None false [])
    ((spelling word.Reduce ∷ fold_words fold) ∷ []) (order_words ordered ∷ []) first (goes-order names line name i m f fold ordered)

goes-blocks : (names : List (List ℕ)) (line : ℕ) (name : List ℕ) (i : Option Input) (m f : Option ItemOp) (fold : Option FoldOp) (order : Option Bool) (blocks : List ℕ) → AreBlocks blocks
    → Goes names (draft_of line name i m f fold order None None None None false []) (map line_of_words ((spelling word.Blocks ∷ map decimal_text blocks) ∷ [])) (draft_of line name i m f fold order (Some blocks) None None None false [])
unfolding keyword_of
goes-blocks names line name i m f fold order blocks is =
    let read = blocks-read names blocks is in
    goes-says names (draft_of line name i m f fold order None None None None false []) word.Blocks (map decimal_text blocks) (statement.Blocks blocks) tt read.0 (ap statement.Blocks read.1)
    (λ own d. kept-isnt word.Blocks (map number_of) own None d.blocks refl) no-chain

goes-priority : (names : List (List ℕ)) (line : ℕ) (name : List ℕ) (i : Option Input) (m f : Option ItemOp) (fold : Option FoldOp) (order : Option Bool) (blocks : Option (List ℕ)) (priority : ℤ) → IsPriority priority
    → Goes names (draft_of line name i m f fold order blocks None None None false []) (map line_of_words ((spelling word.Priority ∷ priority_text priority ∷ []) ∷ [])) (draft_of line name i m f fold order blocks (Some priority) None None false [])
unfolding keyword_of
goes-priority names line name i m f fold order blocks priority is =
    let read = priority-said names priority is in
    goes-says names (draft_of line name i m f fold order blocks None None None false []) word.Priority (priority_text priority ∷ []) (statement.Priority priority) tt read.0 (ap statement.Priority read.1)
    (λ own d. kept-isnt word.Priority (λ args. priority_of (word_at args 0)) own None d.priority refl) no-chain

-- a number of items, where it isn't 0
abbrev pub count_of : ℕ → Option ℕ
count_of count = cond (eqb count 0) None (Some count)

goes-cancel : (names : List (List ℕ)) (line : ℕ) (name : List ℕ) (i : Option Input) (m f : Option ItemOp) (fold : Option FoldOp) (order : Option Bool) (blocks : Option (List ℕ)) (priority : Option ℤ) (count : ℕ) → count ≤ 8388608
    → Goes names (draft_of line name i m f fold order blocks priority None None false []) (map line_of_words (after_lines (spelling word.CancelAfter) count)) (draft_of line name i m f fold order blocks priority (count_of count) None false [])
unfolding keyword_of
goes-cancel names line name i m f fold order blocks priority count few = ⊎_elim
    (λ (never : eqb count 0 ≡ true). rw never (goes-none names (draft_of line name i m f fold order blocks priority None None false [])))
    (λ (some : eqb count 0 ≡ false).
    let other = eqb-false count 0 some in
    let read = after-read names count (omega arith) few in
    rw some (goes-says names (draft_of line name i m f fold order blocks priority None None false []) word.CancelAfter (decimal_text count ∷ []) (statement.CancelAfter count) tt read.0 (ap statement.CancelAfter read.2)
    (λ own d. kept-isnt word.CancelAfter (λ args. number_at args 0) own None d.cancel_after refl) no-chain))
    (cases_Bool (eqb count 0))

goes-suspend : (names : List (List ℕ)) (line : ℕ) (name : List ℕ) (i : Option Input) (m f : Option ItemOp) (fold : Option FoldOp) (order : Option Bool) (blocks : Option (List ℕ)) (priority : Option ℤ) (cancel : Option ℕ) (count : ℕ) → count ≤ 8388608
    → Goes names (draft_of line name i m f fold order blocks priority cancel None false []) (map line_of_words (after_lines (spelling word.SuspendAfter) count)) (draft_of line name i m f fold order blocks priority cancel (count_of count) false [])
unfolding keyword_of
goes-suspend names line name i m f fold order blocks priority cancel count few = ⊎_elim
    (λ (never : eqb count 0 ≡ true). rw never (goes-none names (draft_of line name i m f fold order blocks priority cancel None false [])))
    (λ (some : eqb count 0 ≡ false).
    let other = eqb-false count 0 some in
    let read = after-read names count (omega arith) few in
    rw some (goes-says names (draft_of line name i m f fold order blocks priority cancel None false []) word.SuspendAfter (decimal_text count ∷ []) (statement.SuspendAfter count) tt read.1 (ap statement.SuspendAfter read.2)
    (λ own d. kept-isnt word.SuspendAfter (λ args. number_at args 0) own None d.suspend_after refl) no-chain))
    (cases_Bool (eqb count 0))

goes-watch : (names : List (List ℕ)) (line : ℕ) (name : List ℕ) (i : Option Input) (m f : Option ItemOp) (fold : Option FoldOp) (order : Option Bool) (blocks : Option (List ℕ)) (priority : Option ℤ) (cancel suspend : Option ℕ) (watched : Bool)
    → Goes names (draft_of line name i m f fold order blocks priority cancel suspend false []) (map line_of_words (watch_lines watched)) (draft_of line name i m f fold order blocks priority cancel suspend watched [])
unfolding keyword_of
goes-watch names line name i m f fold order blocks priority cancel suspend false = goes-none names (draft_of line name i m f fold order blocks priority cancel suspend false [])
goes-watch names line name i m f fold order blocks priority cancel suspend true =
    goes-says names (draft_of line name i m f fold order blocks priority cancel suspend false []) word.Watch [] statement.Watch tt refl refl
    (λ own d. sym d.watch) no-chain

first-few : (n : ℕ) (op : ListOp) → op ≡ listed.First n → IsStep (chain.Then op) → n ≤ 8388608
first-few n (listed.First count) e is = let same : count ≡ n = cc in omega arith
first-few n listed.Sorted e is = cc
first-few n listed.Concat e is = cc

goes-step : (names : List (List ℕ)) (line : ℕ) (name : List ℕ) (i : Option Input) (m f : Option ItemOp) (fold : Option FoldOp) (order : Option Bool) (blocks : Option (List ℕ)) (priority : Option ℤ) (cancel suspend : Option ℕ) (watched : Bool) (before : List ChainOp) (step : ChainOp) → IsStep step → length before < 8
    → Goes names (draft_of line name i m f fold order blocks priority cancel suspend watched before) (map line_of_words (chain_words step ∷ [])) (draft_of line name i m f fold order blocks priority cancel suspend watched (before ++ step ∷ []))
unfolding keyword_of
goes-step names line name i m f fold order blocks priority cancel suspend watched before (chain.Then op) is few =
    let read = list-read names op (λ n e. first-few n op e is) in
    goes-says names (draft_of line name i m f fold order blocks priority cancel suspend watched before) word.Then _ (statement.Chain (chain.Then op)) tt read.0 (ap (λ o. statement.Chain (chain.Then o)) read.1)
    (λ own d. refl) (λ _. few)
goes-step names line name i m f fold order blocks priority cancel suspend watched before (chain.OnFailed text) is few =
    let read = text-said names text is in
    goes-says names (draft_of line name i m f fold order blocks priority cancel suspend watched before) word.OnFailed _ (statement.Chain (chain.OnFailed text)) tt read.0 (ap (λ t. statement.Chain (chain.OnFailed t)) read.2)
    (λ own d. refl) (λ _. few)
goes-step names line name i m f fold order blocks priority cancel suspend watched before (chain.OnCanceled text) is few =
    let read = text-said names text is in
    goes-says names (draft_of line name i m f fold order blocks priority cancel suspend watched before) word.OnCanceled _ (statement.Chain (chain.OnCanceled text)) tt read.1 (ap (λ t. statement.Chain (chain.OnCanceled t)) read.2)
    (λ own d. refl) (λ _. few)

goes-chain : (names : List (List ℕ)) (line : ℕ) (name : List ℕ) (i : Option Input) (m f : Option ItemOp) (fold : Option FoldOp) (order : Option Bool) (blocks : Option (List ℕ)) (priority : Option ℤ) (cancel suspend : Option ℕ) (watched : Bool) (before steps : List ChainOp) → All IsStep steps → length before + length steps ≤ 8
    → Goes names (draft_of line name i m f fold order blocks priority cancel suspend watched before) (map line_of_words (map chain_words steps)) (draft_of line name i m f fold order blocks priority cancel suspend watched (before ++ steps))
goes-chain names line name i m f fold order blocks priority cancel suspend watched before [] is few =
    rw (append-nil before) (goes-none names (draft_of line name i m f fold order blocks priority cancel suspend watched before))
goes-chain names line name i m f fold order blocks priority cancel suspend watched before (step ∷ steps) is few =
    let size : length (before ++ step ∷ []) + length steps ≤ 8 = grind (arith, common_steps) in
    let here = goes-step names line name i m f fold order blocks priority cancel suspend watched before step (All-head IsStep step steps is) (omega arith) in
    let there = goes-chain names line name i m f fold order blocks priority cancel suspend watched (before ++ step ∷ []) steps (All-tail IsStep step steps is) size in
    let joined = goes-map names (draft_of line name i m f fold order blocks priority cancel suspend watched before) (draft_of line name i m f fold order blocks priority cancel suspend watched (before ++ step ∷ [])) (draft_of line name i m f fold order blocks priority cancel suspend watched ((before ++ step ∷ []) ++ steps)) (chain_words step ∷ []) (map chain_words steps) here there in
    subst (λ (c : List ChainOp). Goes names (draft_of line name i m f fold order blocks priority cancel suspend watched before) (map line_of_words (map chain_words (step ∷ steps))) (draft_of line name i m f fold order blocks priority cancel suspend watched c)) (append_assoc before (step ∷ []) steps) joined

-- ---- all of them

abbrev pub begun : List ℕ → Draft
begun name = draft_of 0 name None None None None None None None None None false []

abbrev pub ended_draft : Job → Draft
ended_draft j = draft_of 0 j.name (Some j.input) (map_of j.op) (filter_of j.op) j.fold (order_of j.fold j.ordered) (Some j.blocks) (Some j.priority) (count_of j.cancel_after) (count_of j.suspend_after) j.watch j.chain

pub goes-job : (names all more : List (List ℕ)) (j : Job) → all ≡ names ++ more → AreApart names → IsJob (length names) j → Goes names (begun j.name) (map line_of_words (own_lines all j)) (ended_draft j)
goes-job names all more j e apart is =
    let n = j.name in
    let i : Option Input = Some j.input in
    let m = map_of j.op in
    let f = filter_of j.op in
    let o = order_of j.fold j.ordered in
    let b : Option (List ℕ) = Some j.blocks in
    let p : Option ℤ = Some j.priority in
    let c = count_of j.cancel_after in
    let s = count_of j.suspend_after in
    let d1 = draft_of 0 n i None None None None None None None None false [] in
    let d2 = draft_of 0 n i m f None None None None None None false [] in
    let d3 = draft_of 0 n i m f j.fold o None None None None false [] in
    let d4 = draft_of 0 n i m f j.fold o b None None None false [] in
    let d5 = draft_of 0 n i m f j.fold o b p None None false [] in
    let d6 = draft_of 0 n i m f j.fold o b p c None false [] in
    let d7 = draft_of 0 n i m f j.fold o b p c s false [] in
    let d8 = draft_of 0 n i m f j.fold o b p c s j.watch [] in
    let d9 = ended_draft j in
    let steps = map chain_words j.chain in
    let watched = watch_lines j.watch ++ steps in
    let suspended = after_lines (spelling word.SuspendAfter) j.suspend_after ++ watched in
    let canceled = after_lines (spelling word.CancelAfter) j.cancel_after ++ suspended in
    let few = is.chain.few in
    let g9 = goes-chain names 0 n i m f j.fold o b p c s j.watch [] j.chain is.chain.each (omega arith) in
    let g8 = goes-map names d7 d8 d9 (watch_lines j.watch) steps (goes-watch names 0 n i m f j.fold o b p c s j.watch) g9 in
    let g7 = goes-map names d6 d7 d9 (after_lines (spelling word.SuspendAfter) j.suspend_after) watched (goes-suspend names 0 n i m f j.fold o b p c j.suspend_after is.suspend_after) g8 in
    let g6 = goes-map names d5 d6 d9 (after_lines (spelling word.CancelAfter) j.cancel_after) suspended (goes-cancel names 0 n i m f j.fold o b p j.cancel_after is.cancel_after) g7 in
    let g5 = goes-map names d4 d5 d9 ((spelling word.Priority ∷ priority_text j.priority ∷ []) ∷ []) canceled (goes-priority names 0 n i m f j.fold o b j.priority is.priority) g6 in
    let g4 = goes-map names d3 d4 d9 ((spelling word.Blocks ∷ map decimal_text j.blocks) ∷ []) ((spelling word.Priority ∷ priority_text j.priority ∷ []) ∷ canceled) (goes-blocks names 0 n i m f j.fold o j.blocks is.blocks) g5 in
    let g3 = goes-map names d2 d3 d9 (fold_lines j.fold j.ordered) ((spelling word.Blocks ∷ map decimal_text j.blocks) ∷ (spelling word.Priority ∷ priority_text j.priority ∷ []) ∷ canceled) (goes-fold names 0 n i m f j.fold j.ordered is.fold) g4 in
    let back = fold_lines j.fold j.ordered ++ ((spelling word.Blocks ∷ map decimal_text j.blocks) ∷ (spelling word.Priority ∷ priority_text j.priority ∷ []) ∷ canceled) in
    let g2 = goes-map names d1 d2 d9 (op_words j.op ∷ []) back (goes-op names 0 n i j.op is.op) g3 in
    goes-map names (begun n) d1 d9 ((spelling word.Input ∷ input_words all j.input) ∷ []) (op_words j.op ∷ back) (goes-input names all more 0 n j.input e apart is.input) g2
