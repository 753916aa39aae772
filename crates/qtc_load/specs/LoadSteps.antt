-- How the loading of texts goes on, name by name. (Own.)
use Rattle.std.specs.Prelude.{◌≡◌, ◌⊎◌, ℕ, List, [], ◌∷◌, ◌++◌, IsSome, None}
use Rattle.qtc_outside.specs.Shelf.{text_under}
use Rattle.qtc_outside.specs.Source.{Source, IsCalm}
use Rattle.qtc_outside.specs.Loading.{Loads, NotLoaded}
use Rattle.qtc_outside.specs.declared.loading.LoadFault.{LoadFault}
use Rattle.qtc_outside.specs.declared.loading.LoadFault.TheVariants.{Read, TooLong, Memory}
use Rattle.qtc_job_file.specs.Texts.{Texts}
use Rattle.qtc_load.specs.Loads.{room_after}

-- a name that has a text asks for nothing; another one is loaded
pub record IsThere (old : Texts) (source : Source) (name : List ℕ) (new : Texts) (after : Source) : Type 0 where
  pub there : IsSome (text_under old name)
  pub texts : new ≡ old
  pub same : after ≡ source

pub record IsLoaded (old : Texts) (source : Source) (name : List ℕ) (new : Texts) (after : Source) : Type 0 where
  pub missing : text_under old name ≡ None
  pub text : List ℕ
  pub loads : Loads (room_after old) source name text after
  pub texts : new ≡ old ++ (name, text) ∷ []

abbrev pub LoadsNext : Texts → Source → List ℕ → Texts → Source → Type 0
LoadsNext old source name new after = IsThere old source name new after ⊎ IsLoaded old source name new after

-- one name after the other
abbrev pub LoadsMore : List (List ℕ) → Texts → Source → Texts → Source → Type 0
LoadsMore [] old source new after = (new ≡ old) × (after ≡ source)
LoadsMore (name ∷ names) old source new after =
    (texts : Texts) × (between : Source) × LoadsNext old source name texts between × LoadsMore names texts between new after

-- the next name has no text, and its text was not loaded; want of memory says no more than that no fault came
abbrev pub NextStops : Texts → Source → List ℕ → LoadFault → Source → Type 0
NextStops texts source name Read after = (text_under texts name ≡ None) × NotLoaded (room_after texts) source name Read after
NextStops texts source name TooLong after = (text_under texts name ≡ None) × NotLoaded (room_after texts) source name TooLong after
NextStops texts source name Memory after = IsCalm source after

-- one of the names stopped the loading
pub record NamesStop (names : List (List ℕ)) (old : Texts) (source : Source) (fault : LoadFault) (after : Source) : Type 0 where
  pub before : List (List ℕ)
  pub name : List ℕ
  pub others : List (List ℕ)
  pub names_are : names ≡ before ++ name ∷ others
  pub texts : Texts
  pub between : Source
  pub loads : LoadsMore before old source texts between
  pub stops : NextStops texts between name fault after
