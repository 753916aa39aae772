-- What texts that never fail tell. (Own.)
use Rattle.std.specs.Prelude.{◌≡◌, ℕ, List, [], length, min, None, Some, unwrap_or}
use Rattle.qtc_outside.specs.Source.{Source}
use Rattle.qtc_outside.specs.declared.sure_texts.SureTexts.{SureTexts}
use Rattle.qtc_outside.specs.Shelf.{text_under}
use Rattle.qtc_outside.specs.ShelfLeft.{left_of}

abbrev pub pairs_of : SureTexts → List (List ℕ × List ℕ)
pairs_of texts = texts.shelf.texts

-- a name that isn't there holds the empty text, and no fault comes
abbrev pub sure_source : SureTexts → Source
sure_source texts = record {
  held = λ name. Some (unwrap_or (text_under (pairs_of texts) name) []);
  rest = Some (left_of texts.shelf);
  taken = texts.taken;
  faults = 0;
  blamed = None;
  chosen = texts.chosen;
}

-- how many bytes a read gives: what is left, as far as there is room
abbrev pub give_len : SureTexts → ℕ → ℕ
give_len texts room = min (length (left_of texts.shelf)) room

-- nothing was asked of the texts yet
pub record IsFreshSure (pairs : List (List ℕ × List ℕ)) (texts : SureTexts) : Type 0 where
  pub held : pairs_of texts ≡ pairs
  pub taken : texts.taken ≡ 0
  pub chosen : texts.chosen ≡ None
