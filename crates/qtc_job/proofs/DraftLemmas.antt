-- What one line more says of a job.
use Rattle.std.proofs.Common.{◌≡◌, ℕ, Bool, true, false, cond, List, [], ◌∷◌, ◌++◌, map as map_list, Option, Some, None, is_some, unwrap_or, refl, ap, sym, ◌∙◌, append_assoc, append-nil}
use Rattle.std.specs.Prelude.{◌&&◌, ◌||◌}
use Rattle.qtc_base.specs.Decimal.{number_of}
use Rattle.qtc_job.specs.declared.drafts.Draft.{Draft}
use Rattle.qtc_job_file.specs.declared.keywords.Keyword.{Keyword}
use Rattle.qtc_job_file.specs.declared.keywords.Keyword.TheVariants as word
use Rattle.qtc_job.specs.Lines.{Line, silent, says, begins, args_in}
use Rattle.qtc_job.specs.Literals.{priority_of}
use Rattle.qtc_job.specs.Codes.{stands, is_single}
use Rattle.qtc_job.specs.Meaning.{args_of, chain_of, chain_meant, input_meant, map_meant, filter_meant, fold_meant, order_meant, number_at, word_at}
use Rattle.qtc_job.specs.Statements.{statement_of}
use Rattle.qtc_job.specs.Drafts.{IsDraft, IsOneOfJob, kept, with_statement}

pub stands-push_other : (k : Keyword) (own : List Line) (l : Line) → begins k l ≡ false → stands k (own ++ l ∷ []) ≡ stands k own
stands-push_other k [] l e = rw e refl
stands-push_other k (o ∷ own) l e = ap (λ b. begins k o || b) (stands-push_other k own l e)

or-true : (b : Bool) → (b || true) ≡ true
or-true true = refl
or-true false = refl

pub stands-push_same : (k : Keyword) (own : List Line) (l : Line) → begins k l ≡ true → stands k (own ++ l ∷ []) ≡ true
stands-push_same k [] l e = rw e refl
stands-push_same k (o ∷ own) l e = ap (λ b. begins k o || b) (stands-push_same k own l e) ∙ or-true (begins k o)

or-parts : (a b : Bool) → (a || b) ≡ false → (a ≡ false) × (b ≡ false)
or-parts true b e = cc
or-parts false b e = (refl, e)

args_of-push_other : (k : Keyword) (own : List Line) (l : Line) → begins k l ≡ false → args_of k (own ++ l ∷ []) ≡ args_of k own
args_of-push_other k [] l e = rw e refl
args_of-push_other k (o ∷ own) l e = ap (λ a. cond (begins k o) (args_in o) a) (args_of-push_other k own l e)

args_of-push_same : (k : Keyword) (own : List Line) (l : Line) → stands k own ≡ false → begins k l ≡ true → args_of k (own ++ l ∷ []) ≡ args_in l
args_of-push_same k [] l none e = rw e refl
args_of-push_same k (o ∷ own) l none e =
    let parts = or-parts (begins k o) (stands k own) none in
    rw parts.0 (args_of-push_same k own l parts.1 e)

pub kept-other : {T : Type 0} (k : Keyword) (f : List (List ℕ) → T) (own : List Line) (l : Line) → begins k l ≡ false → kept k f own ≡ kept k f (own ++ l ∷ [])
kept-other k f own l e = rw (stands-push_other k own l e, args_of-push_other k own l e) refl

pub kept-same : {T : Type 0} (k : Keyword) (f : List (List ℕ) → T) (own : List Line) (l : Line) → stands k own ≡ false → begins k l ≡ true → Some (f (args_in l)) ≡ kept k f (own ++ l ∷ [])
kept-same k f own l none e = rw (stands-push_same k own l e, args_of-push_same k own l none e) refl

kept-some_at : {T : Type 0} (b : Bool) (v : T) → is_some (cond b (Some v) None) ≡ b
kept-some_at true v = refl
kept-some_at false v = refl

pub kept-some : {T : Type 0} (k : Keyword) (f : List (List ℕ) → T) (own : List Line) → is_some (kept k f own) ≡ stands k own
kept-some k f own = kept-some_at (stands k own) (f (args_of k own))

kept-or_at : {T : Type 0} (b : Bool) (v d : T) → unwrap_or (cond b (Some v) None) d ≡ cond b v d
kept-or_at true v d = refl
kept-or_at false v d = refl

-- what a line says, or else the default
pub kept-or : {T : Type 0} (k : Keyword) (f : List (List ℕ) → T) (own : List Line) (d : T) (o : Option T) → o ≡ kept k f own → unwrap_or o d ≡ cond (stands k own) (f (args_of k own)) d
kept-or k f own d o e = ap (λ o. unwrap_or o d) e ∙ kept-or_at (stands k own) (f (args_of k own)) d

kept-is_at : {T : Type 0} (b : Bool) (v w : T) → Some w ≡ cond b (Some v) None → (b ≡ true) × (w ≡ v)
kept-is_at true v w e = (refl, cc)
kept-is_at false v w e = cc

pub kept-is : {T : Type 0} (k : Keyword) (f : List (List ℕ) → T) (own : List Line) (o : Option T) (w : T) → o ≡ kept k f own → o ≡ Some w → (stands k own ≡ true) × (w ≡ f (args_of k own))
kept-is k f own o w e is = kept-is_at (stands k own) (f (args_of k own)) w (sym is ∙ e)

kept-isnt_at : {T : Type 0} (b : Bool) (v : T) → None ≡ cond b (Some v) None → b ≡ false
kept-isnt_at true v e = cc
kept-isnt_at false v e = refl

pub kept-isnt : {T : Type 0} (k : Keyword) (f : List (List ℕ) → T) (own : List Line) (o : Option T) → o ≡ kept k f own → o ≡ None → stands k own ≡ false
kept-isnt k f own o e is = kept-isnt_at (stands k own) (f (args_of k own)) (sym is ∙ e)

pub chain_of-push : (own : List Line) (l : Line) → chain_of (own ++ l ∷ []) ≡ chain_of own ++ chain_meant l
chain_of-push [] l = append-nil (chain_meant l)
chain_of-push (o ∷ own) l = ap (λ s. chain_meant o ++ s) (chain_of-push own l) ∙ sym (append_assoc (chain_meant o) (chain_of own) (chain_meant l))

pub draft-silent : (names : List (List ℕ)) (own : List Line) (draft : Draft) → IsDraft names own draft → IsDraft names (own ++ silent ∷ []) draft
draft-silent names own draft d = record {
  input = d.input ∙ kept-other word.Input (input_meant names) own silent refl;
  map = d.map ∙ kept-other word.Map map_meant own silent refl;
  filter = d.filter ∙ kept-other word.Filter filter_meant own silent refl;
  fold = d.fold ∙ kept-other word.Reduce fold_meant own silent refl;
  order = d.order ∙ kept-other word.Order order_meant own silent refl;
  blocks = d.blocks ∙ kept-other word.Blocks (map_list number_of) own silent refl;
  priority = d.priority ∙ kept-other word.Priority (λ args. priority_of (word_at args 0)) own silent refl;
  cancel_after = d.cancel_after ∙ kept-other word.CancelAfter (λ args. number_at args 0) own silent refl;
  suspend_after = d.suspend_after ∙ kept-other word.SuspendAfter (λ args. number_at args 0) own silent refl;
  watch = d.watch ∙ sym (stands-push_other word.Watch own silent refl);
  chain = d.chain ∙ (sym (append-nil (chain_of own)) ∙ sym (chain_of-push own silent));
}

pub draft-says : (names : List (List ℕ)) (own : List Line) (draft : Draft) (k : Keyword) (args : List (List ℕ)) → IsOneOfJob k → IsDraft names own draft → (is_single k && stands k own) ≡ false → IsDraft names (own ++ says k args ∷ []) (with_statement draft (statement_of names k args))
draft-says names own draft word.Input args one d none = record {
  input = kept-same word.Input (input_meant names) own (says word.Input args) none refl;
  map = d.map ∙ kept-other word.Map map_meant own (says word.Input args) refl;
  filter = d.filter ∙ kept-other word.Filter filter_meant own (says word.Input args) refl;
  fold = d.fold ∙ kept-other word.Reduce fold_meant own (says word.Input args) refl;
  order = d.order ∙ kept-other word.Order order_meant own (says word.Input args) refl;
  blocks = d.blocks ∙ kept-other word.Blocks (map_list number_of) own (says word.Input args) refl;
  priority = d.priority ∙ kept-other word.Priority (λ args. priority_of (word_at args 0)) own (says word.Input args) refl;
  cancel_after = d.cancel_after ∙ kept-other word.CancelAfter (λ args. number_at args 0) own (says word.Input args) refl;
  suspend_after = d.suspend_after ∙ kept-other word.SuspendAfter (λ args. number_at args 0) own (says word.Input args) refl;
  watch = d.watch ∙ sym (stands-push_other word.Watch own (says word.Input args) refl);
  chain = d.chain ∙ (sym (append-nil (chain_of own)) ∙ sym (chain_of-push own (says word.Input args)));
}
draft-says names own draft word.Map args one d none = record {
  input = d.input ∙ kept-other word.Input (input_meant names) own (says word.Map args) refl;
  map = kept-same word.Map map_meant own (says word.Map args) none refl;
  filter = d.filter ∙ kept-other word.Filter filter_meant own (says word.Map args) refl;
  fold = d.fold ∙ kept-other word.Reduce fold_meant own (says word.Map args) refl;
  order = d.order ∙ kept-other word.Order order_meant own (says word.Map args) refl;
  blocks = d.blocks ∙ kept-other word.Blocks (map_list number_of) own (says word.Map args) refl;
  priority = d.priority ∙ kept-other word.Priority (λ args. priority_of (word_at args 0)) own (says word.Map args) refl;
  cancel_after = d.cancel_after ∙ kept-other word.CancelAfter (λ args. number_at args 0) own (says word.Map args) refl;
  suspend_after = d.suspend_after ∙ kept-other word.SuspendAfter (λ args. number_at args 0) own (says word.Map args) refl;
  watch = d.watch ∙ sym (stands-push_other word.Watch own (says word.Map args) refl);
  chain = d.chain ∙ (sym (append-nil (chain_of own)) ∙ sym (chain_of-push own (says word.Map args)));
}
draft-says names own draft word.Filter args one d none = record {
  input = d.input ∙ kept-other word.Input (input_meant names) own (says word.Filter args) refl;
  map = d.map ∙ kept-other word.Map map_meant own (says word.Filter args) refl;
  filter = kept-same word.Filter filter_meant own (says word.Filter args) none refl;
  fold = d.fold ∙ kept-other word.Reduce fold_meant own (says word.Filter args) refl;
  order = d.order ∙ kept-other word.Order order_meant own (says word.Filter args) refl;
  blocks = d.blocks ∙ kept-other word.Blocks (map_list number_of) own (says word.Filter args) refl;
  priority = d.priority ∙ kept-other word.Priority (λ args. priority_of (word_at args 0)) own (says word.Filter args) refl;
  cancel_after = d.cancel_after ∙ kept-other word.CancelAfter (λ args. number_at args 0) own (says word.Filter args) refl;
  suspend_after = d.suspend_after ∙ kept-other word.SuspendAfter (λ args. number_at args 0) own (says word.Filter args) refl;
  watch = d.watch ∙ sym (stands-push_other word.Watch own (says word.Filter args) refl);
  chain = d.chain ∙ (sym (append-nil (chain_of own)) ∙ sym (chain_of-push own (says word.Filter args)));
}
draft-says names own draft word.Reduce args one d none = record {
  input = d.input ∙ kept-other word.Input (input_meant names) own (says word.Reduce args) refl;
  map = d.map ∙ kept-other word.Map map_meant own (says word.Reduce args) refl;
  filter = d.filter ∙ kept-other word.Filter filter_meant own (says word.Reduce args) refl;
  fold = kept-same word.Reduce fold_meant own (says word.Reduce args) none refl;
  order = d.order ∙ kept-other word.Order order_meant own (says word.Reduce args) refl;
  blocks = d.blocks ∙ kept-other word.Blocks (map_list number_of) own (says word.Reduce args) refl;
  priority = d.priority ∙ kept-other word.Priority (λ args. priority_of (word_at args 0)) own (says word.Reduce args) refl;
  cancel_after = d.cancel_after ∙ kept-other word.CancelAfter (λ args. number_at args 0) own (says word.Reduce args) refl;
  suspend_after = d.suspend_after ∙ kept-other word.SuspendAfter (λ args. number_at args 0) own (says word.Reduce args) refl;
  watch = d.watch ∙ sym (stands-push_other word.Watch own (says word.Reduce args) refl);
  chain = d.chain ∙ (sym (append-nil (chain_of own)) ∙ sym (chain_of-push own (says word.Reduce args)));
}
draft-says names own draft word.Order args one d none = record {
  input = d.input ∙ kept-other word.Input (input_meant names) own (says word.Order args) refl;
  map = d.map ∙ kept-other word.Map map_meant own (says word.Order args) refl;
  filter = d.filter ∙ kept-other word.Filter filter_meant own (says word.Order args) refl;
  fold = d.fold ∙ kept-other word.Reduce fold_meant own (says word.Order args) refl;
  order = kept-same word.Order order_meant own (says word.Order args) none refl;
  blocks = d.blocks ∙ kept-other word.Blocks (map_list number_of) own (says word.Order args) refl;
  priority = d.priority ∙ kept-other word.Priority (λ args. priority_of (word_at args 0)) own (says word.Order args) refl;
  cancel_after = d.cancel_after ∙ kept-other word.CancelAfter (λ args. number_at args 0) own (says word.Order args) refl;
  suspend_after = d.suspend_after ∙ kept-other word.SuspendAfter (λ args. number_at args 0) own (says word.Order args) refl;
  watch = d.watch ∙ sym (stands-push_other word.Watch own (says word.Order args) refl);
  chain = d.chain ∙ (sym (append-nil (chain_of own)) ∙ sym (chain_of-push own (says word.Order args)));
}
draft-says names own draft word.Blocks args one d none = record {
  input = d.input ∙ kept-other word.Input (input_meant names) own (says word.Blocks args) refl;
  map = d.map ∙ kept-other word.Map map_meant own (says word.Blocks args) refl;
  filter = d.filter ∙ kept-other word.Filter filter_meant own (says word.Blocks args) refl;
  fold = d.fold ∙ kept-other word.Reduce fold_meant own (says word.Blocks args) refl;
  order = d.order ∙ kept-other word.Order order_meant own (says word.Blocks args) refl;
  blocks = kept-same word.Blocks (map_list number_of) own (says word.Blocks args) none refl;
  priority = d.priority ∙ kept-other word.Priority (λ args. priority_of (word_at args 0)) own (says word.Blocks args) refl;
  cancel_after = d.cancel_after ∙ kept-other word.CancelAfter (λ args. number_at args 0) own (says word.Blocks args) refl;
  suspend_after = d.suspend_after ∙ kept-other word.SuspendAfter (λ args. number_at args 0) own (says word.Blocks args) refl;
  watch = d.watch ∙ sym (stands-push_other word.Watch own (says word.Blocks args) refl);
  chain = d.chain ∙ (sym (append-nil (chain_of own)) ∙ sym (chain_of-push own (says word.Blocks args)));
}
draft-says names own draft word.Priority args one d none = record {
  input = d.input ∙ kept-other word.Input (input_meant names) own (says word.Priority args) refl;
  map = d.map ∙ kept-other word.Map map_meant own (says word.Priority args) refl;
  filter = d.filter ∙ kept-other word.Filter filter_meant own (says word.Priority args) refl;
  fold = d.fold ∙ kept-other word.Reduce fold_meant own (says word.Priority args) refl;
  order = d.order ∙ kept-other word.Order order_meant own (says word.Priority args) refl;
  blocks = d.blocks ∙ kept-other word.Blocks (map_list number_of) own (says word.Priority args) refl;
  priority = kept-same word.Priority (λ args. priority_of (word_at args 0)) own (says word.Priority args) none refl;
  cancel_after = d.cancel_after ∙ kept-other word.CancelAfter (λ args. number_at args 0) own (says word.Priority args) refl;
  suspend_after = d.suspend_after ∙ kept-other word.SuspendAfter (λ args. number_at args 0) own (says word.Priority args) refl;
  watch = d.watch ∙ sym (stands-push_other word.Watch own (says word.Priority args) refl);
  chain = d.chain ∙ (sym (append-nil (chain_of own)) ∙ sym (chain_of-push own (says word.Priority args)));
}
draft-says names own draft word.CancelAfter args one d none = record {
  input = d.input ∙ kept-other word.Input (input_meant names) own (says word.CancelAfter args) refl;
  map = d.map ∙ kept-other word.Map map_meant own (says word.CancelAfter args) refl;
  filter = d.filter ∙ kept-other word.Filter filter_meant own (says word.CancelAfter args) refl;
  fold = d.fold ∙ kept-other word.Reduce fold_meant own (says word.CancelAfter args) refl;
  order = d.order ∙ kept-other word.Order order_meant own (says word.CancelAfter args) refl;
  blocks = d.blocks ∙ kept-other word.Blocks (map_list number_of) own (says word.CancelAfter args) refl;
  priority = d.priority ∙ kept-other word.Priority (λ args. priority_of (word_at args 0)) own (says word.CancelAfter args) refl;
  cancel_after = kept-same word.CancelAfter (λ args. number_at args 0) own (says word.CancelAfter args) none refl;
  suspend_after = d.suspend_after ∙ kept-other word.SuspendAfter (λ args. number_at args 0) own (says word.CancelAfter args) refl;
  watch = d.watch ∙ sym (stands-push_other word.Watch own (says word.CancelAfter args) refl);
  chain = d.chain ∙ (sym (append-nil (chain_of own)) ∙ sym (chain_of-push own (says word.CancelAfter args)));
}
draft-says names own draft word.SuspendAfter args one d none = record {
  input = d.input ∙ kept-other word.Input (input_meant names) own (says word.SuspendAfter args) refl;
  map = d.map ∙ kept-other word.Map map_meant own (says word.SuspendAfter args) refl;
  filter = d.filter ∙ kept-other word.Filter filter_meant own (says word.SuspendAfter args) refl;
  fold = d.fold ∙ kept-other word.Reduce fold_meant own (says word.SuspendAfter args) refl;
  order = d.order ∙ kept-other word.Order order_meant own (says word.SuspendAfter args) refl;
  blocks = d.blocks ∙ kept-other word.Blocks (map_list number_of) own (says word.SuspendAfter args) refl;
  priority = d.priority ∙ kept-other word.Priority (λ args. priority_of (word_at args 0)) own (says word.SuspendAfter args) refl;
  cancel_after = d.cancel_after ∙ kept-other word.CancelAfter (λ args. number_at args 0) own (says word.SuspendAfter args) refl;
  suspend_after = kept-same word.SuspendAfter (λ args. number_at args 0) own (says word.SuspendAfter args) none refl;
  watch = d.watch ∙ sym (stands-push_other word.Watch own (says word.SuspendAfter args) refl);
  chain = d.chain ∙ (sym (append-nil (chain_of own)) ∙ sym (chain_of-push own (says word.SuspendAfter args)));
}
draft-says names own draft word.Watch args one d none = record {
  input = d.input ∙ kept-other word.Input (input_meant names) own (says word.Watch args) refl;
  map = d.map ∙ kept-other word.Map map_meant own (says word.Watch args) refl;
  filter = d.filter ∙ kept-other word.Filter filter_meant own (says word.Watch args) refl;
  fold = d.fold ∙ kept-other word.Reduce fold_meant own (says word.Watch args) refl;
  order = d.order ∙ kept-other word.Order order_meant own (says word.Watch args) refl;
  blocks = d.blocks ∙ kept-other word.Blocks (map_list number_of) own (says word.Watch args) refl;
  priority = d.priority ∙ kept-other word.Priority (λ args. priority_of (word_at args 0)) own (says word.Watch args) refl;
  cancel_after = d.cancel_after ∙ kept-other word.CancelAfter (λ args. number_at args 0) own (says word.Watch args) refl;
  suspend_after = d.suspend_after ∙ kept-other word.SuspendAfter (λ args. number_at args 0) own (says word.Watch args) refl;
  watch = sym (stands-push_same word.Watch own (says word.Watch args) refl);
  chain = d.chain ∙ (sym (append-nil (chain_of own)) ∙ sym (chain_of-push own (says word.Watch args)));
}
draft-says names own draft word.Then args one d none = record {
  input = d.input ∙ kept-other word.Input (input_meant names) own (says word.Then args) refl;
  map = d.map ∙ kept-other word.Map map_meant own (says word.Then args) refl;
  filter = d.filter ∙ kept-other word.Filter filter_meant own (says word.Then args) refl;
  fold = d.fold ∙ kept-other word.Reduce fold_meant own (says word.Then args) refl;
  order = d.order ∙ kept-other word.Order order_meant own (says word.Then args) refl;
  blocks = d.blocks ∙ kept-other word.Blocks (map_list number_of) own (says word.Then args) refl;
  priority = d.priority ∙ kept-other word.Priority (λ args. priority_of (word_at args 0)) own (says word.Then args) refl;
  cancel_after = d.cancel_after ∙ kept-other word.CancelAfter (λ args. number_at args 0) own (says word.Then args) refl;
  suspend_after = d.suspend_after ∙ kept-other word.SuspendAfter (λ args. number_at args 0) own (says word.Then args) refl;
  watch = d.watch ∙ sym (stands-push_other word.Watch own (says word.Then args) refl);
  chain = ap (λ s. s ++ chain_meant (says word.Then args)) d.chain ∙ sym (chain_of-push own (says word.Then args));
}
draft-says names own draft word.OnFailed args one d none = record {
  input = d.input ∙ kept-other word.Input (input_meant names) own (says word.OnFailed args) refl;
  map = d.map ∙ kept-other word.Map map_meant own (says word.OnFailed args) refl;
  filter = d.filter ∙ kept-other word.Filter filter_meant own (says word.OnFailed args) refl;
  fold = d.fold ∙ kept-other word.Reduce fold_meant own (says word.OnFailed args) refl;
  order = d.order ∙ kept-other word.Order order_meant own (says word.OnFailed args) refl;
  blocks = d.blocks ∙ kept-other word.Blocks (map_list number_of) own (says word.OnFailed args) refl;
  priority = d.priority ∙ kept-other word.Priority (λ args. priority_of (word_at args 0)) own (says word.OnFailed args) refl;
  cancel_after = d.cancel_after ∙ kept-other word.CancelAfter (λ args. number_at args 0) own (says word.OnFailed args) refl;
  suspend_after = d.suspend_after ∙ kept-other word.SuspendAfter (λ args. number_at args 0) own (says word.OnFailed args) refl;
  watch = d.watch ∙ sym (stands-push_other word.Watch own (says word.OnFailed args) refl);
  chain = ap (λ s. s ++ chain_meant (says word.OnFailed args)) d.chain ∙ sym (chain_of-push own (says word.OnFailed args));
}
draft-says names own draft word.OnCanceled args one d none = record {
  input = d.input ∙ kept-other word.Input (input_meant names) own (says word.OnCanceled args) refl;
  map = d.map ∙ kept-other word.Map map_meant own (says word.OnCanceled args) refl;
  filter = d.filter ∙ kept-other word.Filter filter_meant own (says word.OnCanceled args) refl;
  fold = d.fold ∙ kept-other word.Reduce fold_meant own (says word.OnCanceled args) refl;
  order = d.order ∙ kept-other word.Order order_meant own (says word.OnCanceled args) refl;
  blocks = d.blocks ∙ kept-other word.Blocks (map_list number_of) own (says word.OnCanceled args) refl;
  priority = d.priority ∙ kept-other word.Priority (λ args. priority_of (word_at args 0)) own (says word.OnCanceled args) refl;
  cancel_after = d.cancel_after ∙ kept-other word.CancelAfter (λ args. number_at args 0) own (says word.OnCanceled args) refl;
  suspend_after = d.suspend_after ∙ kept-other word.SuspendAfter (λ args. number_at args 0) own (says word.OnCanceled args) refl;
  watch = d.watch ∙ sym (stands-push_other word.Watch own (says word.OnCanceled args) refl);
  chain = ap (λ s. s ++ chain_meant (says word.OnCanceled args)) d.chain ∙ sym (chain_of-push own (says word.OnCanceled args));
}
draft-says names own draft _ args one d none = absurd one
