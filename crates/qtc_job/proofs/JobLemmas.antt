-- What the lines of a job come to at its end.
use Rattle.std.proofs.Common.{◌≡◌, ℕ, ◌≤◌, Bool, true, false, cond, List, [], ◌∷◌, ◌++◌, map as map_list, Option, Some, None, is_some, unwrap_or, refl, ap, sym, ◌∙◌, arith}
use Rattle.std.specs.Prelude.{◌&&◌, ◌||◌, not, pos, ℤ}
use Rattle.qtc_base.specs.Decimal.{number_of}
use Rattle.qtc_ops.specs.declared.operations.ItemOp.{ItemOp}
use Rattle.qtc_job.specs.declared.drafts.Draft.{Draft}
use Rattle.qtc_job_file.specs.declared.jobs.Input.{Input}
use Rattle.qtc_job_file.specs.declared.jobs.Job.{Job}
use Rattle.qtc_job_file.specs.declared.keywords.Keyword.TheVariants as word
use Rattle.qtc_job.specs.Answers.{least, IsLeast}
use Rattle.qtc_job.specs.Codes.{where_, stands, job_codes, lacks_one_function, orders_no_fold}
use Rattle.qtc_job.specs.Drafts.{IsDraft, one_of, kept}
use Rattle.qtc_job.specs.Lines.{Line}
use Rattle.qtc_job.specs.Literals.{priority_of}
use Rattle.qtc_job.specs.Meaning.{args_of, job_of, input_meant, map_meant, filter_meant, fold_meant, order_meant, number_at, word_at}
use Rattle.qtc_job.proofs.DraftLemmas.{kept-is, kept-isnt, kept-some, kept-or}
use Rattle.qtc_job.proofs.LeastLemmas.{least-append}

least-where : (b : Bool) (code n : ℕ) → n ≤ code → n ≤ 100 → n ≤ least (where_ b code)
least-where true code n p q = omega arith
least-where false code n p q = omega arith

least-where_two : (a b : Bool) (i j n : ℕ) → n ≤ i → n ≤ j → n ≤ 100 → n ≤ least (where_ a i ++ where_ b j)
least-where_two a b i j n p q r =
    let e = least-append (where_ a i) (where_ b j) in
    let x = least-where a i n p r in
    let y = least-where b j n q r in
    omega arith

pub no_input : (names : List (List ℕ)) (own : List Line) (draft : Draft) → IsDraft names own draft → draft.input ≡ None → IsLeast (job_codes own) 8
no_input names own draft d none =
    let e = kept-isnt word.Input (input_meant names) own draft.input d.input none in
    let rest = least-where_two (lacks_one_function own) (orders_no_fold own) 9 10 8 (omega arith) (omega arith) (omega arith) in
    record { is = rw e (omega arith); some = omega arith }

-- just one of the two stands, where one was kept
one-of_some : (a b : Option ItemOp) (op : ItemOp) → one_of a b ≡ Some op → ((is_some a && is_some b) || (not (is_some a) && not (is_some b))) ≡ false
one-of_some (Some a) (Some b) op e = cc
one-of_some (Some a) None op e = refl
one-of_some None (Some b) op e = refl
one-of_some None None op e = cc

one-of_none : (a b : Option ItemOp) → one_of a b ≡ None → ((is_some a && is_some b) || (not (is_some a) && not (is_some b))) ≡ true
one-of_none (Some a) (Some b) e = refl
one-of_none (Some a) None e = cc
one-of_none None (Some b) e = cc
one-of_none None None e = refl

stands-of : {T : Type 0} (k : _) (f : List (List ℕ) → T) (own : List Line) (o : Option T) → o ≡ kept k f own → stands k own ≡ is_some o
stands-of k f own o e = sym (ap is_some e ∙ kept-some k f own)

lacks-is : (names : List (List ℕ)) (own : List Line) (draft : Draft) → IsDraft names own draft → lacks_one_function own ≡ ((is_some draft.map && is_some draft.filter) || (not (is_some draft.map) && not (is_some draft.filter)))
lacks-is names own draft d =
    let m = stands-of word.Map map_meant own draft.map d.map in
    let f = stands-of word.Filter filter_meant own draft.filter d.filter in
    rw (m, f) refl

orders-is : (names : List (List ℕ)) (own : List Line) (draft : Draft) → IsDraft names own draft → orders_no_fold own ≡ (is_some draft.order && not (is_some draft.fold))
orders-is names own draft d =
    let o = stands-of word.Order order_meant own draft.order d.order in
    let f = stands-of word.Reduce fold_meant own draft.fold d.fold in
    rw (o, f) refl

pub no_function : (names : List (List ℕ)) (own : List Line) (draft : Draft) (input : Input) → IsDraft names own draft → draft.input ≡ Some input → one_of draft.map draft.filter ≡ None → IsLeast (job_codes own) 9
no_function names own draft input d is none =
    let i = (kept-is word.Input (input_meant names) own draft.input input d.input is).0 in
    let e = lacks-is names own draft d ∙ one-of_none draft.map draft.filter none in
    let rest = least-where (orders_no_fold own) 10 9 (omega arith) (omega arith) in
    record { is = rw (i, e) (omega arith); some = omega arith }

pub no_fold : (names : List (List ℕ)) (own : List Line) (draft : Draft) (input : Input) (op : ItemOp) → IsDraft names own draft → draft.input ≡ Some input → one_of draft.map draft.filter ≡ Some op → (is_some draft.order && not (is_some draft.fold)) ≡ true → IsLeast (job_codes own) 10
no_fold names own draft input op d is one alone =
    let i = (kept-is word.Input (input_meant names) own draft.input input d.input is).0 in
    let e = lacks-is names own draft d ∙ one-of_some draft.map draft.filter op one in
    let o = orders-is names own draft d ∙ alone in
    record { is = rw (i, e, o) refl; some = omega arith }

pub good : (names : List (List ℕ)) (own : List Line) (draft : Draft) (input : Input) (op : ItemOp) → IsDraft names own draft → draft.input ≡ Some input → one_of draft.map draft.filter ≡ Some op → (is_some draft.order && not (is_some draft.fold)) ≡ false → job_codes own ≡ []
good names own draft input op d is one alone =
    let i = (kept-is word.Input (input_meant names) own draft.input input d.input is).0 in
    let e = lacks-is names own draft d ∙ one-of_some draft.map draft.filter op one in
    let o = orders-is names own draft d ∙ alone in
    rw (i, e, o) refl

op-is : (a b : Option ItemOp) (op : ItemOp) (own : List Line) → a ≡ kept word.Map map_meant own → b ≡ kept word.Filter filter_meant own → one_of a b ≡ Some op → op ≡ cond (stands word.Map own) (map_meant (args_of word.Map own)) (filter_meant (args_of word.Filter own))
op-is (Some a) (Some b) op own p q e = cc
op-is (Some a) None op own p q e =
    let k = kept-is word.Map map_meant own (Some a) a p refl in
    let same : a ≡ op = cc in
    rw k.0 (sym same ∙ k.1)
op-is None (Some b) op own p q e =
    let no = kept-isnt word.Map map_meant own None p refl in
    let k = kept-is word.Filter filter_meant own (Some b) b q refl in
    let same : b ≡ op = cc in
    rw no (sym same ∙ k.1)
op-is None None op own p q e = cc

-- the job that the draft says
pub job-is : (names : List (List ℕ)) (own : List Line) (draft : Draft) (input : Input) (op : ItemOp) (ordered : Bool) (blocks : List ℕ) (priority : ℤ) (cancel_after suspend_after : ℕ) → IsDraft names own draft → draft.input ≡ Some input → one_of draft.map draft.filter ≡ Some op → ordered ≡ unwrap_or draft.order false → blocks ≡ unwrap_or draft.blocks (16 ∷ []) → priority ≡ unwrap_or draft.priority (pos 0) → cancel_after ≡ unwrap_or draft.cancel_after 0 → suspend_after ≡ unwrap_or draft.suspend_after 0
    → (let job : Job = record { name = draft.name; input = input; op = op; fold = draft.fold; ordered = ordered; blocks = blocks; priority = priority; cancel_after = cancel_after; suspend_after = suspend_after; watch = draft.watch; chain = draft.chain } in job) ≡ job_of names draft.name own
job-is names own draft input op ordered blocks priority cancel_after suspend_after d is one eo eb ep ec es =
    let i = (kept-is word.Input (input_meant names) own draft.input input d.input is).1 in
    let o = op-is draft.map draft.filter op own d.map d.filter one in
    let f = d.fold in
    let r = eo ∙ kept-or word.Order order_meant own false draft.order d.order in
    let b = eb ∙ kept-or word.Blocks (map_list number_of) own (16 ∷ []) draft.blocks d.blocks in
    let p = ep ∙ kept-or word.Priority (λ args. priority_of (word_at args 0)) own (pos 0) draft.priority d.priority in
    let c = ec ∙ kept-or word.CancelAfter (λ args. number_at args 0) own 0 draft.cancel_after d.cancel_after in
    let s = es ∙ kept-or word.SuspendAfter (λ args. number_at args 0) own 0 draft.suspend_after d.suspend_after in
    let w = d.watch in
    let h = d.chain in
    cc
