-- Words that choose no form of their own.
use Rattle.std.proofs.Common.{◌≡◌, ℕ, List, Some, refl}
use Rattle.qtc_ops.specs.declared.operations.ItemOp.TheVariants.{Keep}
use Rattle.std.specs.Prelude.{false}
use Rattle.qtc_job_file.specs.declared.keywords.Keyword.{Keyword}
use Rattle.qtc_job_file.specs.declared.keywords.Keyword.TheVariants as word
use Rattle.qtc_job.specs.Forms.{filter_form, predicate_form}
use Rattle.qtc_job.specs.Meaning.{filter_kind, predicate_kind}

pub filter-form_other : (kind : Keyword) (args : List (List ℕ)) → (kind ≡ word.Not → ⊥) → filter_form (Some kind) args ≡ predicate_form (Some kind) args
filter-form_other word.Not args ne = absurd (ne refl)
filter-form_other _ args ne = refl

pub filter-kind_other : (kind : Keyword) (args : List (List ℕ)) → (kind ≡ word.Not → ⊥) → filter_kind (Some kind) args ≡ Keep false (predicate_kind (Some kind) args)
filter-kind_other word.Not args ne = absurd (ne refl)
filter-kind_other _ args ne = refl
