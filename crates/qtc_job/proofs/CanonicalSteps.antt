-- The canonical lines of a job, read one after the other.
use Rattle.std.proofs.Common.{◌≡◌, ℕ, ◌<◌, Bool, true, false, List, [], ◌∷◌, ◌++◌, length, map, Option, Some, None, refl, ap, sym, subst, ◌∙◌, append_assoc}
use Rattle.std.specs.Prelude.{◌&&◌, ℤ}
use Rattle.std.specs.List.{list_any}
use Rattle.std.proofs.lemmas.Bool.{or_parts, or_from}
use Rattle.std.proofs.lemmas.List.{map-append}
use Rattle.qtc_ops.specs.declared.operations.ItemOp.{ItemOp}
use Rattle.qtc_ops.specs.declared.operations.ItemOp.TheVariants as item
use Rattle.qtc_ops.specs.declared.fold_ops.FoldOp.{FoldOp}
use Rattle.qtc_job.specs.declared.drafts.Draft.{Draft}
use Rattle.qtc_job_file.specs.declared.jobs.ChainOp.{ChainOp}
use Rattle.qtc_job_file.specs.declared.jobs.Input.{Input}
use Rattle.qtc_job_file.specs.declared.keywords.Keyword.{Keyword}
use Rattle.qtc_job_file.specs.declared.keywords.Keyword.TheVariants as word
use Rattle.qtc_job.specs.declared.statements.Statement.{Statement}
use Rattle.qtc_job.specs.declared.statements.Statement.TheVariants as statement
use Rattle.qtc_job_file.specs.Canonical.{input_words, op_words}
use Rattle.qtc_job.specs.Codes.{earlier_names, form_codes, is_chain, is_in_job, is_single, own_above, stands}
use Rattle.qtc_job.specs.Drafts.{IsDraft, IsOneOfJob, with_statement}
use Rattle.qtc_job.specs.Forms.{directive_form}
use Rattle.qtc_job_file.specs.Keywords.{keyword_of, spelling}
use Rattle.qtc_job_file.specs.Lawful.{IsInput, IsOp}
use Rattle.qtc_job.specs.Lines.{Line, says, is_job, line_of_words}
use Rattle.qtc_job.specs.Meaning.{input_meant, map_meant, filter_meant}
use Rattle.qtc_job.specs.Statements.{statement_of}
use Rattle.qtc_job.proofs.DraftLemmas.{draft-says, kept-isnt}
use Rattle.qtc_job.proofs.StepLemmas.{above-none}
use Rattle.qtc_job.proofs.GoodLemmas.{AreGood}
use Rattle.qtc_job.proofs.PlaceLemmas.{AreApart}
use Rattle.qtc_job.proofs.CanonicalLines.{input-read, map-read, filter-read, filter_words}

-- these lines below those, nearest first
abbrev pub down : List Line → List Line → List Line
down above [] = above
down above (l ∷ ls) = down (l ∷ above) ls

-- the lines above are in a job, whose draft this is
pub record IsAt (names : List (List ℕ)) (above : List Line) (draft : Draft) : Type 0 where
  pub in_job : is_in_job above ≡ true
  pub earlier : earlier_names above ≡ names
  pub says : IsDraft names (own_above above) draft

-- lines of a job without codes, which make of the one draft the other
pub record Goes (names : List (List ℕ)) (before : Draft) (ls : List Line) (after : Draft) : Type 0 where
  pub no_job : list_any is_job ls ≡ false
  pub good : (above : List Line) → IsAt names above before → (rest : List Line) → AreGood (down above ls) rest → AreGood above (ls ++ rest)
  pub at : (above : List Line) → IsAt names above before → IsAt names (down above ls) after

down-append : (above a b : List Line) → down above (a ++ b) ≡ down (down above a) b
down-append above [] b = refl
down-append above (l ∷ a) b = down-append (l ∷ above) a b

no_job-append : (a b : List Line) → list_any is_job a ≡ false → list_any is_job b ≡ false → list_any is_job (a ++ b) ≡ false
no_job-append [] b p q = q
no_job-append (l ∷ a) b p q =
    let parts = or_parts (is_job l) (list_any is_job a) p in
    or_from (is_job l) (list_any is_job (a ++ b)) parts.0 (no_job-append a b parts.1 q)

pub goes-none : (names : List (List ℕ)) (draft : Draft) → Goes names draft [] draft
goes-none names draft = record { no_job = refl; good = λ above at rest good. good; at = λ above at. at }

pub goes-append : (names : List (List ℕ)) (before middle after : Draft) (a b : List Line) → Goes names before a middle → Goes names middle b after → Goes names before (a ++ b) after
goes-append names before middle after a b first second = record {
  no_job = no_job-append a b first.no_job second.no_job;
  good = λ above at rest good.
      let mid = first.at above at in
      let later = second.good (down above a) mid rest (subst (λ (l : List Line). AreGood l rest) (down-append above a b) good) in
      subst (λ (l : List Line). AreGood above l) (sym (append_assoc a b rest)) (first.good above at (b ++ rest) later);
  at = λ above at. subst (λ (l : List Line). IsAt names l after) (sym (down-append above a b)) (second.at (down above a) (first.at above at));
}

pub goes-map : (names : List (List ℕ)) (before middle after : Draft) (a b : List (List (List ℕ))) → Goes names before (map line_of_words a) middle → Goes names middle (map line_of_words b) after → Goes names before (map line_of_words (a ++ b)) after
goes-map names before middle after a b first second =
    subst (λ (l : List Line). Goes names before l after) (sym (map-append line_of_words a b)) (goes-append names before middle after (map line_of_words a) (map line_of_words b) first second)

pub goes-says : (names : List (List ℕ)) (draft : Draft) (k : Keyword) (args : List (List ℕ)) (said : Statement) → IsOneOfJob k → form_codes names (directive_form k args) ≡ [] → statement_of names k args ≡ said → ((own : List Line) → IsDraft names own draft → (is_single k && stands k own) ≡ false) → (is_chain (says k args) ≡ true → length draft.chain < 8) → Goes names draft (says k args ∷ []) (with_statement draft said)
goes-says names draft k args said one none e single short = record {
  no_job = refl;
  good = λ above at rest good.
      let form : form_codes (earlier_names above) (directive_form k args) ≡ [] = ap (λ n. form_codes n (directive_form k args)) at.earlier ∙ none in
      let line = above-none args above k draft.chain at.in_job (single (own_above above) at.says) at.says.chain short in
      (rw (form, line) refl, good);
  at = λ above at. record {
    in_job = at.in_job;
    earlier = at.earlier;
    says = subst (λ (s : Statement). IsDraft names (own_above above ++ says k args ∷ []) (with_statement draft s)) e (draft-says names (own_above above) draft k args one at.says (single (own_above above) at.says));
  };
}

-- ---- each kind of line

abbrev pub draft_of : ℕ → List ℕ → Option Input → Option ItemOp → Option ItemOp → Option FoldOp → Option Bool → Option (List ℕ) → Option ℤ → Option ℕ → Option ℕ → Bool → List ChainOp → Draft
draft_of line name input map filter fold order blocks priority cancel_after suspend_after watch chain = record {
  line = line;
  name = name;
  input = input;
  map = map;
  filter = filter;
  fold = fold;
  order = order;
  blocks = blocks;
  priority = priority;
  cancel_after = cancel_after;
  suspend_after = suspend_after;
  watch = watch;
  chain = chain;
}

pub no-chain : {T : Type 0} → false ≡ true → T
no-chain e = cc

pub goes-input : (names all more : List (List ℕ)) (line : ℕ) (name : List ℕ) (said : Input) → all ≡ names ++ more → AreApart names → IsInput (length names) said
    → Goes names (draft_of line name None None None None None None None None None false []) (map line_of_words ((spelling word.Input ∷ input_words all said) ∷ [])) (draft_of line name (Some said) None None None None None None None None false [])
unfolding keyword_of
goes-input names all more line name said e apart is =
    let read = input-read names all more e apart said is in
    goes-says names (draft_of line name None None None None None None None None None false []) word.Input (input_words all said) (statement.Input said) tt read.0 (ap statement.Input read.1)
    (λ own d. kept-isnt word.Input (input_meant names) own None d.input refl) no-chain

abbrev pub map_of : ItemOp → Option ItemOp
map_of (item.Map op) = Some (item.Map op)
map_of (item.Keep negated pred) = None

abbrev pub filter_of : ItemOp → Option ItemOp
filter_of (item.Map op) = None
filter_of (item.Keep negated pred) = Some (item.Keep negated pred)

pub goes-op : (names : List (List ℕ)) (line : ℕ) (name : List ℕ) (i : Option Input) (op : ItemOp) → IsOp op
    → Goes names (draft_of line name i None None None None None None None None false []) (map line_of_words (op_words op ∷ [])) (draft_of line name i (map_of op) (filter_of op) None None None None None None false [])
unfolding keyword_of
goes-op names line name i (item.Map op) is =
    let read = map-read names op is in
    goes-says names (draft_of line name i None None None None None None None None false []) word.Map _ (statement.Map (item.Map op)) tt read.0 (ap statement.Map read.1)
    (λ own d. kept-isnt word.Map map_meant own None d.map refl) no-chain
goes-op names line name i (item.Keep negated pred) is =
    let read = filter-read names negated pred is in
    goes-says names (draft_of line name i None None None None None None None None false []) word.Filter (filter_words negated pred) (statement.Filter (item.Keep negated pred)) tt read.0 (ap statement.Filter read.1)
    (λ own d. kept-isnt word.Filter filter_meant own None d.filter refl) no-chain
