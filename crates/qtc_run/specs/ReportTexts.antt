-- How a report is written. (Own.)
use Rattle.std.specs.Prelude.{ℕ, List, [], ◌∷◌, ◌++◌, length, codes, Option, None, Some}
use Rattle.std.specs.List.{flat_map, zip}
use Rattle.qtc_base.specs.Decimal.{decimal_text}
use Rattle.qtc_base.specs.Escape.{escaped}
use Rattle.qtc_events.specs.Text.{event_line}
use Rattle.qtc_future.specs.declared.replies.Outcome.{Outcome}
use Rattle.qtc_future.specs.declared.replies.Outcome.TheVariants.{Values, Failed, Canceled}
use Rattle.qtc_job_file.specs.declared.jobs.JobFile.{JobFile}
use Rattle.qtc_run.specs.declared.reports.Placed.{Placed}
use Rattle.qtc_run.specs.declared.reports.JobReport.{JobReport}
use Rattle.qtc_run.specs.declared.reports.Report.{Report}

-- one value on a line
abbrev pub value_line : List ℕ → List ℕ
value_line value = escaped value ++ 10 ∷ []

-- a result of a canceled job, with its index or position
abbrev pub placed_line : Placed → List ℕ
placed_line placed = decimal_text placed.index ++ (codes " " ++ value_line placed.value)

-- job NAME
abbrev pub job_words : List ℕ → List ℕ
job_words name = codes "job " ++ name

-- finished N, and N lines; canceled A, and A lines; failed I ITEM
abbrev pub ended_text : List Placed → Outcome (List ℕ) → List ℕ
ended_text partial (Values values) =
    codes " finished " ++ (decimal_text (length values) ++ 10 ∷ flat_map value_line values)
ended_text partial Canceled =
    codes " canceled " ++ (decimal_text (length partial) ++ 10 ∷ flat_map placed_line partial)
ended_text partial (Failed failure) =
    codes " failed " ++ (decimal_text failure.index ++ (codes " " ++ value_line failure.item))

abbrev pub begin_word : ℕ → List ℕ
begin_word begin = codes " " ++ decimal_text begin

-- order B1 B2 .., the begins of the folded blocks
abbrev pub order_line : Option (List ℕ) → List ℕ
order_line None = []
order_line (Some begins) = codes "order" ++ (flat_map begin_word begins ++ 10 ∷ [])

-- any I
abbrev pub any_line : Option ℕ → List ℕ
any_line None = []
any_line (Some place) = codes "any " ++ (decimal_text place ++ 10 ∷ [])

-- the lines of a job
abbrev pub job_text : List ℕ → JobReport → List ℕ
job_text name report =
    job_words name ++ (ended_text report.partial report.ended
    ++ (order_line report.order ++ (any_line report.any ++ flat_map event_line report.events)))

-- those of all jobs, in the order of the file
abbrev pub report_text : JobFile → Report → List ℕ
report_text file report = flat_map (λ pair. job_text pair.0.name pair.1) (zip file.jobs report.jobs)
