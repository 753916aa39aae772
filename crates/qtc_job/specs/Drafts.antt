-- What the lines of a job have said of it so far. (Own.)
use Rattle.std.specs.Prelude.{◌≡◌, ℕ, true, List, [], ◌∷◌, ◌++◌, map as map_list, Option, Some, None, if◌then◌else◌}
use Rattle.qtc_base.specs.Decimal.{number_of}
use Rattle.qtc_job.specs.declared.drafts.Draft.{Draft}
use Rattle.qtc_job.specs.declared.statements.Statement.{Statement}
use Rattle.qtc_job.specs.declared.statements.Statement.TheVariants as says
use Rattle.qtc_job_file.specs.declared.keywords.Keyword.{Keyword}
use Rattle.qtc_job_file.specs.declared.keywords.Keyword.TheVariants as word
use Rattle.qtc_job.specs.Lines.{Line}
use Rattle.qtc_job.specs.Literals.{priority_of}
use Rattle.qtc_job.specs.Codes.{stands}
use Rattle.qtc_job.specs.Meaning.{args_of, chain_of, input_meant, map_meant, filter_meant, fold_meant, order_meant, number_at, word_at}

-- what the line that begins with the word says, where there is one
abbrev pub kept : {T : Type 0} → Keyword → (List (List ℕ) → T) → List Line → Option T
kept keyword meant own = if stands keyword own then Some (meant (args_of keyword own)) else None

-- a draft says what the lines say
pub record IsDraft (names : List (List ℕ)) (own : List Line) (draft : Draft) : Type 0 where
  pub input : draft.input ≡ kept word.Input (input_meant names) own
  pub map : draft.map ≡ kept word.Map map_meant own
  pub filter : draft.filter ≡ kept word.Filter filter_meant own
  pub fold : draft.fold ≡ kept word.Reduce fold_meant own
  pub order : draft.order ≡ kept word.Order order_meant own
  pub blocks : draft.blocks ≡ kept word.Blocks (map_list number_of) own
  pub priority : draft.priority ≡ kept word.Priority (λ args. priority_of (word_at args 0)) own
  pub cancel_after : draft.cancel_after ≡ kept word.CancelAfter (λ args. number_at args 0) own
  pub suspend_after : draft.suspend_after ≡ kept word.SuspendAfter (λ args. number_at args 0) own
  pub watch : draft.watch ≡ stands word.Watch own
  pub chain : draft.chain ≡ chain_of own

-- the draft after one statement more
abbrev pub with_statement : Draft → Statement → Draft
with_statement draft (says.Input input) = record draft { input = Some input }
with_statement draft (says.Map op) = record draft { map = Some op }
with_statement draft (says.Filter op) = record draft { filter = Some op }
with_statement draft (says.Reduce fold) = record draft { fold = Some fold }
with_statement draft (says.Order ordered) = record draft { order = Some ordered }
with_statement draft (says.Blocks blocks) = record draft { blocks = Some blocks }
with_statement draft (says.Priority value) = record draft { priority = Some value }
with_statement draft (says.CancelAfter count) = record draft { cancel_after = Some count }
with_statement draft (says.SuspendAfter count) = record draft { suspend_after = Some count }
with_statement draft says.Watch = record draft { watch = true }
with_statement draft (says.Chain step) = record draft { chain = draft.chain ++ step ∷ [] }

-- the directives that stand in a job
abbrev pub IsOneOfJob : Keyword → Type 0
IsOneOfJob word.Input = Unit {0}
IsOneOfJob word.Map = Unit {0}
IsOneOfJob word.Filter = Unit {0}
IsOneOfJob word.Reduce = Unit {0}
IsOneOfJob word.Order = Unit {0}
IsOneOfJob word.Blocks = Unit {0}
IsOneOfJob word.Priority = Unit {0}
IsOneOfJob word.CancelAfter = Unit {0}
IsOneOfJob word.SuspendAfter = Unit {0}
IsOneOfJob word.Watch = Unit {0}
IsOneOfJob word.Then = Unit {0}
IsOneOfJob word.OnFailed = Unit {0}
IsOneOfJob word.OnCanceled = Unit {0}
IsOneOfJob _ = ⊥

-- that which is there, where just one is
abbrev pub one_of : {T : Type 0} → Option T → Option T → Option T
one_of (Some a) (Some b) = None
one_of (Some a) None = Some a
one_of None b = b
