-- What each fold makes of the kept values. (Own; SHA-256 by FIPS 180-4.)
use Rattle.std.specs.Prelude.{ℕ, ◌+◌, Bool, false, not, List, [], ◌++◌, length, replicate, fold, Some, None, unwrap_or}
use Rattle.sha2.specs.Sha256.{sha256}
use Rattle.hex.specs.Hex.{encode_lower}
use Rattle.qtc_base.specs.Decimal.{decimal_text, number_of}
use Rattle.qtc_ops.specs.Counts.{counted, counts_text}
use Rattle.qtc_ops.specs.Numbers.{is_number}
use Rattle.qtc_ops.specs.Order.{capped}
use Rattle.qtc_ops.specs.Texts.{greater, joined_text}
use Rattle.qtc_ops.specs.declared.accumulators.FoldAcc.{FoldAcc}
use Rattle.qtc_ops.specs.declared.accumulators.FoldAcc.TheVariants.{Number, Text, Digest, Counts}
use Rattle.qtc_ops.specs.declared.fold_ops.FoldOp.{FoldOp}
use Rattle.qtc_ops.specs.declared.fold_ops.FoldOp.TheVariants.{Count, Size, Sum, Join, Chain, Greatest, Tally}

-- ---- one step on an accumulator; one of another kind stays as it is

-- a number grows
abbrev pub added : FoldAcc → ℕ → FoldAcc
added (Number total) more = Number (capped (total + more))
added acc more = acc

-- a value goes on at the end
abbrev pub joined : FoldAcc → List ℕ → List ℕ → FoldAcc
joined (Text text) separator value = Text (Some (joined_text text separator value))
joined acc separator value = acc

-- SHA-256 of the digest so far and the value
abbrev pub chained : FoldAcc → List ℕ → FoldAcc
chained (Digest digest) value = Digest (sha256 (digest ++ value))
chained acc value = acc

-- the greater by bytes stays
abbrev pub raised : FoldAcc → List ℕ → FoldAcc
raised (Text best) value = Text (Some (greater best value))
raised acc value = acc

-- one more of the value
abbrev pub tallied : FoldAcc → List ℕ → FoldAcc
tallied (Counts counts) value = Counts (counted counts value)
tallied acc value = acc

-- ---- one row for each fold

abbrev pub first_of : FoldOp → FoldAcc
first_of Count = Number 0
first_of Size = Number 0
first_of Sum = Number 0
first_of (Join separator) = Text None
first_of Chain = Digest (replicate 32 0)
first_of Greatest = Text None
first_of Tally = Counts []

abbrev pub next_of : FoldOp → FoldAcc → List ℕ → FoldAcc
next_of Count acc value = added acc 1
next_of Size acc value = added acc (length value)
next_of Sum acc value = added acc (number_of value)
next_of (Join separator) acc value = joined acc separator value
next_of Chain acc value = chained acc value
next_of Greatest acc value = raised acc value
next_of Tally acc value = tallied acc value

-- a sum takes numbers alone
abbrev pub is_bad : FoldOp → List ℕ → Bool
is_bad Sum value = not (is_number value)
is_bad _ value = false

abbrev pub shown_of : FoldAcc → List ℕ
shown_of (Number total) = decimal_text total
shown_of (Text text) = unwrap_or text []
shown_of (Digest digest) = encode_lower digest
shown_of (Counts counts) = counts_text counts

-- the fold of a list of values, from the left
abbrev pub folded : FoldOp → List (List ℕ) → FoldAcc
folded op values = fold (next_of op) (first_of op) values
