-- The form of each directive: which words stand after it. (Own.)
use Rattle.std.specs.Prelude.{ℕ, List, [], ◌∷◌, take, map, Option, Some}
use Rattle.std.specs.List.{zip}
use Rattle.qtc_job_file.specs.declared.keywords.Keyword.{Keyword}
use Rattle.qtc_job_file.specs.declared.keywords.Keyword.TheVariants as word
use Rattle.qtc_job_file.specs.Keywords.{keyword_of}
use Rattle.qtc_base.specs.Limits.{most_workers, most_sources, most_blocks, most_block, most_text, most_field, most_text, most_items}

-- what a word may be: a number from the one to the other, a priority, a literal or name of a text, the name of this
-- job, or that of an earlier one
pub data Place : Type 0 where
  number : ℕ → ℕ → Place
  priority : Place
  literal : Place
  name : Place
  earlier : Place

-- the words that are still to be placed: after a word that isn't in its list; where the line ends before a word that
-- chooses; just these places; or from one place of a kind up to so many
pub data Form : Type 0 where
  none : Form
  early : Form
  exactly : List Place → List (List ℕ) → Form
  up_to : ℕ → Place → List (List ℕ) → Form

-- the next word chooses the form of those after it
abbrev pub chosen : (Option Keyword → List (List ℕ) → Form) → List (List ℕ) → Form
chosen form [] = early
chosen form (word ∷ args) = form (keyword_of word) args

abbrev pub input_form : Option Keyword → List (List ℕ) → Form
input_form (Some word.Lines) args = exactly (literal ∷ []) args
input_form (Some word.Files) args = up_to most_sources literal args
input_form (Some word.Pieces) args = exactly (number 1 most_text ∷ literal ∷ []) args
input_form (Some word.Job) args = exactly (earlier ∷ []) args
input_form (Some word.All) args = up_to most_sources earlier args
input_form (Some word.Any) args = up_to most_sources earlier args
input_form _ args = none

abbrev pub map_form : Option Keyword → List (List ℕ) → Form
map_form (Some word.Same) args = exactly [] args
map_form (Some word.Length) args = exactly [] args
map_form (Some word.Digest) args = exactly [] args
map_form (Some word.Field) args = exactly (number 1 most_field ∷ []) args
map_form (Some word.Number) args = exactly [] args
map_form _ args = none

abbrev pub predicate_form : Option Keyword → List (List ℕ) → Form
predicate_form (Some word.Contains) args = exactly (literal ∷ []) args
predicate_form (Some word.Wildcard) args = exactly (literal ∷ []) args
predicate_form (Some word.Longer) args = exactly (number 0 most_text ∷ []) args
predicate_form _ args = none

abbrev pub filter_form : Option Keyword → List (List ℕ) → Form
filter_form (Some word.Not) args = chosen predicate_form args
filter_form other args = predicate_form other args

abbrev pub fold_form : Option Keyword → List (List ℕ) → Form
fold_form (Some word.Count) args = exactly [] args
fold_form (Some word.Bytes) args = exactly [] args
fold_form (Some word.Sum) args = exactly [] args
fold_form (Some word.Join) args = exactly (literal ∷ []) args
fold_form (Some word.Chain) args = exactly [] args
fold_form (Some word.Greatest) args = exactly [] args
fold_form (Some word.Tally) args = exactly [] args
fold_form _ args = none

abbrev pub order_form : Option Keyword → List (List ℕ) → Form
order_form (Some word.Ordered) args = exactly [] args
order_form (Some word.Unordered) args = exactly [] args
order_form _ args = none

abbrev pub list_form : Option Keyword → List (List ℕ) → Form
list_form (Some word.First) args = exactly (number 0 most_items ∷ []) args
list_form (Some word.Sorted) args = exactly [] args
list_form (Some word.Concat) args = exactly [] args
list_form _ args = none

-- the form of the words after a directive that stands in a job
abbrev pub directive_form : Keyword → List (List ℕ) → Form
directive_form word.Input args = chosen input_form args
directive_form word.Map args = chosen map_form args
directive_form word.Filter args = chosen filter_form args
directive_form word.Reduce args = chosen fold_form args
directive_form word.Order args = chosen order_form args
directive_form word.Blocks args = up_to most_blocks (number 1 most_block) args
directive_form word.Priority args = exactly (priority ∷ []) args
directive_form word.CancelAfter args = exactly (number 1 most_items ∷ []) args
directive_form word.SuspendAfter args = exactly (number 1 most_items ∷ []) args
directive_form word.Watch args = exactly [] args
directive_form word.Then args = chosen list_form args
directive_form word.OnFailed args = exactly (literal ∷ []) args
directive_form word.OnCanceled args = exactly (literal ∷ []) args
directive_form _ args = none

abbrev pub workers_form : List (List ℕ) → Form
workers_form args = exactly (number 1 most_workers ∷ []) args

abbrev pub job_form : List (List ℕ) → Form
job_form args = exactly (name ∷ []) args

-- each word that stands in a place, with its place
abbrev pub placed : Form → List (Place × List ℕ)
placed none = []
placed early = []
placed (exactly places args) = zip places args
placed (up_to most place args) = map (λ word. (place, word)) (take most args)
