use Rattle.std.proofs.Common.{◌≡◌, ◌+◌, length}
use Rattle.std.specs.List.{list_any}
use Rattle.std.specs.Str.{bytes_eq}
use Rattle.qtc_job_file.specs.Canonical.{names_of}
use Rattle.qtc_job.specs.Meaning.{place_of}
use Rattle.qtc_job.proofs.earlier_jobs.place_among.Given as goal

abbrev pub invariant-loop-left : goal.invariant-loop-left
invariant-loop-left l = record {
  any : list_any (bytes_eq l.word) (names_of l.jobs) ≡ list_any (bytes_eq l.word) (names_of l.left);
  at : place_of (names_of l.jobs) l.word ≡ l.place + place_of (names_of l.left) l.word;
  size : l.place + length l.left ≡ length l.jobs;
}

abbrev pub decreases-loop-left : goal.decreases-loop-left
decreases-loop-left l = length l.left
