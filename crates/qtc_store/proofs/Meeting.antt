-- The batches that meet.
use Rattle.std.proofs.Common.{◌≡◌, ◌≢◌, ℕ, List, [], ◌∷◌, refl, eq-eqb}
use Rattle.std.proofs.lemmas.Bool.{ne_eqb}
use Rattle.qtc_store.specs.declared.batch.Batch.{Batch}
use Rattle.qtc_store.specs.Batches.{end_of}
use Rattle.qtc_store.specs.Visible.{meeting, meeting_end}

-- ---- one step
pub meeting-next : {V : Type 0} (b : Batch V) (batches : List (Batch V)) (place : ℕ) → b.begin ≡ place → meeting place (b ∷ batches) ≡ b ∷ meeting (end_of b) batches
meeting-next b batches place e = rw (eq-eqb b.begin place e) refl

pub meeting-stop : {V : Type 0} (b : Batch V) (batches : List (Batch V)) (place : ℕ) → b.begin ≢ place → meeting place (b ∷ batches) ≡ []
meeting-stop b batches place ne = rw (ne_eqb b.begin place ne) refl

pub meeting_end-next : {V : Type 0} (b : Batch V) (batches : List (Batch V)) (place : ℕ) → b.begin ≡ place → meeting_end place (b ∷ batches) ≡ meeting_end (end_of b) batches
meeting_end-next b batches place e = rw (eq-eqb b.begin place e) refl

pub meeting_end-stop : {V : Type 0} (b : Batch V) (batches : List (Batch V)) (place : ℕ) → b.begin ≢ place → meeting_end place (b ∷ batches) ≡ place
meeting_end-stop b batches place ne = rw (ne_eqb b.begin place ne) refl
