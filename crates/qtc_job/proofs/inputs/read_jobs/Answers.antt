use Rattle.std.proofs.Common.{ℕ, List, map, subst, sym}
use Rattle.qtc_base.specs.Words.{words_left}
use Rattle.qtc_job.specs.Answers.{Gives}
use Rattle.qtc_job_file.specs.Canonical.{names_of}
use Rattle.qtc_job.specs.Forms.{earlier}
use Rattle.qtc_job.specs.Meaning.{place_of}
use Rattle.qtc_job.proofs.FormLemmas.{up_to-many}
use Rattle.qtc_job.proofs.inputs.read_jobs.Goals as goal

pub returns : goal.returns
returns c =
    let names = names_of c.args.jobs.now.jobs.now in
    subst (λ (codes : List ℕ). Gives codes (map (place_of names) (words_left c.args.words.now)) c.read_many.result) (sym (up_to-many names 64 earlier (words_left c.args.words.now))) c.read_many.ensures
