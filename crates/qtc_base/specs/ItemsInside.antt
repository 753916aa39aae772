-- How a list of items lies in its text.
use Rattle.std.specs.Prelude.{◌≡◌, ℕ, ◌+◌, ◌≤◌, List, [], ◌∷◌, ◌++◌, Option, None, Some, IfSome, length}
use Rattle.std.specs.Arc.{arc_value}
use Rattle.std.specs.declared.sync.Arc.{Arc}
use Rattle.qtc_base.specs.Items.{total_bytes}
use Rattle.qtc_base.specs.Limits.{most_items, most_bytes}
use Rattle.qtc_base.specs.Parts.{AreWithin, parts_of}
use Rattle.qtc_base.specs.declared.item_list.Items.TheInside.{Inside}
use Rattle.qtc_base.specs.declared.ranges.Range.{Range}

-- the text: one that others share, or the list's own
abbrev pub text_in : {Z : Type 0} → Option (Arc (List ℕ) Z) → List ℕ → List ℕ
text_in None own = own
text_in (Some text) own = arc_value text

abbrev pub text_of : Inside → List ℕ
text_of s = text_in s.shared s.own.items

abbrev pub cut_items : Inside → List (List ℕ)
cut_items s = parts_of (text_of s) s.parts.items

pub record IsCut (s : Inside) : Type 0 where
  pub alone : IfSome s.shared (λ text. s.own.items ≡ [])
  pub within : AreWithin (text_of s) s.parts.items
  pub total_is : s.total ≡ total_bytes (cut_items s)
  pub few_items : length s.parts.items ≤ most_items
  pub few_bytes : s.total ≤ most_bytes
  pub short : length (text_of s) ≤ most_bytes + s.total

-- one part more, in which an item lies that was appended to the text
pub record IsOneMore (text item : List ℕ) (old new : List Range) : Type 0 where
  pub part : Range
  pub begin : part.begin ≡ length text
  pub end : part.end ≡ length text + length item
  pub parts : new ≡ old ++ part ∷ []
