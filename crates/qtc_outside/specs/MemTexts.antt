-- What texts in memory tell. (Own.)
use Rattle.std.specs.Prelude.{◌≡◌, ℕ, ◌⊎◌, List, length, min, None, Some, IsNone, Contains}
use Rattle.qtc_outside.specs.Counts.{risen}
use Rattle.qtc_outside.specs.Source.{Source}
use Rattle.qtc_outside.specs.declared.mem_texts.MemTexts.{MemTexts}
use Rattle.qtc_outside.specs.Shelf.{text_under}
use Rattle.qtc_outside.specs.ShelfLeft.{left_of}

abbrev pub texts_source : MemTexts → Source
texts_source texts = record {
  held = λ name. text_under texts.shelf.texts name;
  rest = Some (left_of texts.shelf);
  taken = texts.taken;
  faults = texts.plan.faults;
  blamed = texts.blamed;
  chosen = texts.chosen;
}

-- nothing was asked of the texts yet
pub record IsFresh (pairs : List (List ℕ × List ℕ)) (most : ℕ) (plan : List ℕ) (texts : MemTexts) : Type 0 where
  pub held : texts.shelf.texts ≡ pairs
  pub at_most : texts.most ≡ most
  pub fails : texts.plan.fails ≡ plan
  pub calls : texts.plan.calls ≡ 0
  pub faults : texts.plan.faults ≡ 0
  pub taken : texts.taken ≡ 0
  pub chosen : texts.chosen ≡ None
  pub blamed : texts.blamed ≡ None

-- a call of choose fails exactly here: its number is planned, or no text has the name
abbrev pub ChooseFails : MemTexts → List ℕ → Type 0
ChooseFails texts name = Contains texts.plan.fails texts.plan.calls ⊎ IsNone (text_under texts.shelf.texts name)

-- a call of read fails exactly here
abbrev pub ReadFails : MemTexts → Type 0
ReadFails texts = Contains texts.plan.fails texts.plan.calls

-- how many bytes a read gives where it doesn't fail: what is left, as far as the room and the most allow
abbrev pub give_len : MemTexts → ℕ → ℕ
give_len texts room = min (min (length (left_of texts.shelf)) room) texts.most

-- one call was counted, with so many faults then, and what was set at the start stays
pub record IsCallAfter (old : MemTexts) (count : ℕ) (new : MemTexts) : Type 0 where
  pub calls : new.plan.calls ≡ risen old.plan.calls 1
  pub faults : new.plan.faults ≡ count
  pub fails : new.plan.fails ≡ old.plan.fails
  pub held : new.shelf.texts ≡ old.shelf.texts
  pub most : new.most ≡ old.most
