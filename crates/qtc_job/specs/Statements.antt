-- What one line of a job says, where nothing is wrong with it. (Own.)
use Rattle.std.specs.Prelude.{ℕ, List, map}
use Rattle.qtc_base.specs.Decimal.{number_of}
use Rattle.qtc_job_file.specs.declared.jobs.ChainOp.TheVariants as chain
use Rattle.qtc_job_file.specs.declared.keywords.Keyword.{Keyword}
use Rattle.qtc_job_file.specs.declared.keywords.Keyword.TheVariants as word
use Rattle.qtc_job.specs.declared.statements.Statement.{Statement}
use Rattle.qtc_job.specs.declared.statements.Statement.TheVariants as says
use Rattle.qtc_job.specs.Literals.{priority_of}
use Rattle.qtc_job.specs.Meaning.{input_meant, map_meant, filter_meant, fold_meant, order_meant, list_meant, number_at, text_at, word_at}

abbrev pub statement_of : List (List ℕ) → Keyword → List (List ℕ) → Statement
statement_of names word.Input args = says.Input (input_meant names args)
statement_of names word.Map args = says.Map (map_meant args)
statement_of names word.Filter args = says.Filter (filter_meant args)
statement_of names word.Reduce args = says.Reduce (fold_meant args)
statement_of names word.Order args = says.Order (order_meant args)
statement_of names word.Blocks args = says.Blocks (map number_of args)
statement_of names word.Priority args = says.Priority (priority_of (word_at args 0))
statement_of names word.CancelAfter args = says.CancelAfter (number_at args 0)
statement_of names word.SuspendAfter args = says.SuspendAfter (number_at args 0)
statement_of names word.Then args = says.Chain (chain.Then (list_meant args))
statement_of names word.OnFailed args = says.Chain (chain.OnFailed (text_at args 0))
statement_of names word.OnCanceled args = says.Chain (chain.OnCanceled (text_at args 0))
statement_of names _ args = says.Watch
