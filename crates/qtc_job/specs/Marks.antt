-- Which of its directives a job has, as far as the codes of its job line ask. (Own.)
use Rattle.std.specs.Prelude.{◌≡◌, List}
use Rattle.qtc_job.specs.declared.marks.Marks.{Marks}
use Rattle.qtc_job_file.specs.declared.keywords.Keyword.TheVariants as word
use Rattle.qtc_job.specs.Codes.{stands}
use Rattle.qtc_job.specs.Lines.{Line}

pub record IsMarks (own : List Line) (marks : Marks) : Type 0 where
  pub input : marks.input ≡ stands word.Input own
  pub map : marks.map ≡ stands word.Map own
  pub filter : marks.filter ≡ stands word.Filter own
  pub reduce : marks.reduce ≡ stands word.Reduce own
  pub order : marks.order ≡ stands word.Order own
