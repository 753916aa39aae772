-- Which texts a run may work on: those of the job file.
pub use Rattle.qtc_base.specs.Limits.{most_text}
pub use Rattle.qtc_job_file.specs.Texts.{AreTexts, HasAll}
