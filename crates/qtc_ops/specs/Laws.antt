-- What the definitions that compute come to, in words that compute nothing. (Own.)
use Rattle.std.specs.Prelude.{◌≡◌, ◌≤◌, ◌<◌, ◌↔◌, ℕ, Bool, List, [], ◌∷◌, ◌++◌, Contains, Option, IsTrue, length, sum_by, slice_index_or, slice_range}
use Rattle.std.specs.List.Sorted.{IsPermutation, IsSorted}
use Rattle.qtc_base.specs.Decimal.{IsNumber, number_of}
use Rattle.qtc_ops.specs.declared.accumulators.FoldAcc.TheVariants.{Number, Text, Counts}
use Rattle.qtc_ops.specs.declared.fold_ops.FoldOp.{FoldOp}
use Rattle.qtc_ops.specs.declared.fold_ops.FoldOp.TheVariants.{Count, Size, Sum, Join, Greatest, Tally}
use Rattle.qtc_ops.specs.declared.predicates.Pred.{Pred}
use Rattle.qtc_ops.specs.Counts.{AreCounts}
use Rattle.qtc_ops.specs.Folds.{folded, next_of, shown_of}
use Rattle.qtc_ops.specs.ItemValue.{ItemValue, kept}
use Rattle.qtc_ops.specs.Kept.{fails, fails_at, pairs, pairs_between, pairs_from}
use Rattle.qtc_ops.specs.ListOps.{sorted}
use Rattle.qtc_ops.specs.Numbers.{is_number}
use Rattle.qtc_base.specs.Limits.{most_number_digits}
use Rattle.qtc_ops.specs.Order.{bytes_cmp, capped}
use Rattle.qtc_ops.specs.Predicates.{keeps, Keeps}
use Rattle.qtc_ops.specs.Texts.{joined_by, IsGreatestOf}
use Rattle.qtc_ops.specs.Wildcards.{Matches}

-- ---- items

abbrev pub DigitsAreNumbers : Type 0
DigitsAreNumbers = (item : List ℕ) → IsTrue (is_number item) ↔ IsNumber most_number_digits item

abbrev pub TestsDecidePredicates : Type 0
TestsDecidePredicates = (pred : Pred) (item : List ℕ) → IsTrue (keeps pred item) ↔ Keeps pred item

-- the item is a front that the first pattern matches and a rest that the second does
abbrev pub MatchesBoth : (front back item : List ℕ) → Type 0
MatchesBoth front back item =
    (first : List ℕ) × (rest : List ℕ) × (item ≡ first ++ rest) × Matches front first × Matches back rest

abbrev pub PatternsMatchPartByPart : Type 0
PatternsMatchPartByPart = (front back item : List ℕ) → Matches (front ++ back) item ↔ MatchesBoth front back item

-- ---- what is kept of a list of items

-- the value of the item at an index
abbrev pub value_at : (List ℕ → ItemValue) → List (List ℕ) → ℕ → ItemValue
value_at value items index = value (slice_index_or items index [])

abbrev pub PairsAreWhatIsKept : Type 0
PairsAreWhatIsKept = (value : List ℕ → ItemValue) (items : List (List ℕ)) (index : ℕ) (text : List ℕ) →
    Contains (pairs value items) (index, text) ↔ ((index < length items) × (value_at value items index ≡ kept text))

abbrev pub FailsAreWhatFails : Type 0
FailsAreWhatFails = (value : List ℕ → ItemValue) (refuses : List ℕ → Bool) (items : List (List ℕ)) (index : ℕ) →
    Contains (fails value refuses items) index
    ↔ ((index < length items) × IsTrue (fails_at refuses (value_at value items index)))

abbrev pub PairsStandByRange : Type 0
PairsStandByRange = (value : List ℕ → ItemValue) (items : List (List ℕ)) (begin end : ℕ) →
    begin ≤ end → end ≤ length items →
    pairs_between value items begin end ≡ pairs_from value begin (slice_range items begin end)

-- ---- folds and lists

abbrev pub FoldsGoFromTheLeft : Type 0
FoldsGoFromTheLeft = (op : FoldOp) (values : List (List ℕ)) (value : List ℕ) →
    folded op (values ++ value ∷ []) ≡ next_of op (folded op values) value

-- the numbers of the folds are those of the whole list, up to the greatest
pub record FoldsCountAndAdd : Type 0 where
  pub count : (values : List (List ℕ)) → folded Count values ≡ Number (capped (length values))
  pub size : (values : List (List ℕ)) → folded Size values ≡ Number (capped (sum_by length values))
  pub sum : (values : List (List ℕ)) → folded Sum values ≡ Number (capped (sum_by number_of values))

abbrev pub JoinsSeparate : Type 0
JoinsSeparate = (separator : List ℕ) (values : List (List ℕ)) →
    shown_of (folded (Join separator) values) ≡ joined_by separator values

abbrev pub GreatestIsGreatest : Type 0
GreatestIsGreatest = (values : List (List ℕ)) →
    (best : Option (List ℕ)) × (folded Greatest values ≡ Text best) × IsGreatestOf values best

abbrev pub TalliesCount : Type 0
TalliesCount = (values : List (List ℕ)) →
    (counts : List (List ℕ × ℕ)) × (folded Tally values ≡ Counts counts) × AreCounts values counts

abbrev pub SortedValuesAscend : Type 0
SortedValuesAscend = (values : List (List ℕ)) →
    IsPermutation values (sorted values) × IsSorted bytes_cmp (sorted values)
