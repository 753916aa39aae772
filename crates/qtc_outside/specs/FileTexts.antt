-- What is told of the files by path: no content. (Own.)
use Rattle.std.specs.Prelude.{◌≡◌, None}
use Rattle.qtc_outside.specs.Source.{Source}
use Rattle.qtc_outside.specs.declared.file_texts.FileTexts.{FileTexts}

module _ {R File Dir : Type 0} where
  abbrev pub files_source : FileTexts R File Dir → Source
  files_source texts = record {
    held = λ name. None;
    rest = None;
    taken = texts.taken;
    faults = texts.faults;
    blamed = texts.blamed;
    chosen = texts.chosen;
  }

  -- nothing was asked of the files yet
  pub record IsFreshFiles (texts : FileTexts R File Dir) : Type 0 where
    pub taken : texts.taken ≡ 0
    pub faults : texts.faults ≡ 0
    pub blamed : texts.blamed ≡ None
    pub chosen : texts.chosen ≡ None
