-- What the folds come to over a whole list.
use Rattle.std.proofs.Common.{◌≡◌, ℕ, ◌+◌, false, List, [], ◌∷◌, ◌++◌, length, fold, sum_by, Option, Some, None, refl, sym, ap, subst, ◌∙◌, append_assoc, append-nil, ⊎_elim, arith}
use Rattle.std.specs.List.{All, Contains}
use Rattle.std.specs.Ordering.{is_lt}
use Rattle.std.proofs.lemmas.Bool.{cases_Bool}
use Rattle.std.proofs.lemmas.List.Elements.{All-nil, All-cons, All-push, All-weaker, Contains-append_left, Contains-push}
use Rattle.std.proofs.lemmas.List.Sums.{sum_by-cons}
use Rattle.std.proofs.lemmas.List.Sorted.{ranks_by}
use Rattle.std.proofs.lemmas.Cmp.{tied_itself}
use Rattle.std.specs.Cmp.Lexicographic.{nat_list_cmp_total}
use Rattle.qtc_base.specs.Decimal.{number_of}
use Rattle.qtc_ops.specs.declared.accumulators.FoldAcc.{FoldAcc}
use Rattle.qtc_ops.specs.declared.accumulators.FoldAcc.TheVariants.{Number, Text}
use Rattle.qtc_ops.specs.declared.fold_ops.FoldOp.{FoldOp}
use Rattle.qtc_ops.specs.declared.fold_ops.FoldOp.TheVariants.{Count, Size, Sum, Join, Greatest}
use Rattle.qtc_ops.specs.Folds.{added, first_of, folded, next_of, shown_of}
use Rattle.qtc_ops.specs.Order.{bytes_cmp, capped}
use Rattle.qtc_ops.specs.Texts.{greater, joined_by, IsGreatestOf}
use Rattle.qtc_ops.proofs.SortLemmas.{one_way}

fold-push : (step : FoldAcc → List ℕ → FoldAcc) (acc : FoldAcc) (values : List (List ℕ)) (value : List ℕ) → fold step acc (values ++ value ∷ []) ≡ step (fold step acc values) value
fold-push step acc [] value = refl
fold-push step acc (first ∷ values) value = fold-push step (step acc first) values value

pub folded-push : (op : FoldOp) (values : List (List ℕ)) (value : List ℕ) → folded op (values ++ value ∷ []) ≡ next_of op (folded op values) value
folded-push op values value = fold-push (next_of op) (first_of op) values value

-- ---- numbers

capped-twice : (a b : ℕ) → capped (capped a + b) ≡ capped (a + b)
capped-twice a b = omega arith

added-all : (size : List ℕ → ℕ) (total : ℕ) (values : List (List ℕ)) → fold (λ acc value. added acc (size value)) (Number (capped total)) values ≡ Number (capped (total + sum_by size values))
added-all size total [] = ap (λ n. Number (capped n)) (omega arith)
added-all size total (value ∷ values) =
    let step : capped (capped total + size value) ≡ capped (total + size value) = capped-twice total (size value) in
    let whole : total + size value + sum_by size values ≡ total + sum_by size (value ∷ values) = let c = sum_by-cons size value values in omega arith in
    ap (λ n. fold (λ acc value. added acc (size value)) (Number n) values) step
    ∙ (added-all size (total + size value) values ∙ ap (λ n. Number (capped n)) whole)

added-first : (size : List ℕ → ℕ) (values : List (List ℕ)) → fold (λ acc value. added acc (size value)) (Number 0) values ≡ Number (capped (sum_by size values))
added-first size values = added-all size 0 values ∙ ap (λ n. Number (capped n)) (omega arith)

ones : (values : List (List ℕ)) → sum_by (λ (value : List ℕ). 1) values ≡ length values
ones [] = refl
ones (value ∷ values) = let c = sum_by-cons (λ (v : List ℕ). 1) value values in let more = ones values in omega arith

pub folded-count : (values : List (List ℕ)) → folded Count values ≡ Number (capped (length values))
folded-count values = added-first (λ value. 1) values ∙ ap (λ n. Number (capped n)) (ones values)

pub folded-size : (values : List (List ℕ)) → folded Size values ≡ Number (capped (sum_by length values))
folded-size values = added-first length values

pub folded-sum : (values : List (List ℕ)) → folded Sum values ≡ Number (capped (sum_by number_of values))
folded-sum values = added-first number_of values

-- ---- texts

pub join-merge : (separator text value : List ℕ) (values : List (List ℕ)) → joined_by separator ((text ++ (separator ++ value)) ∷ values) ≡ joined_by separator (text ∷ value ∷ values)
join-merge separator text value [] = refl
join-merge separator text value (next ∷ values) =
    append_assoc text (separator ++ value) (separator ++ joined_by separator (next ∷ values))
    ∙ ap (λ s. text ++ s) (append_assoc separator value (separator ++ joined_by separator (next ∷ values)))

joined-all : (separator text : List ℕ) (values : List (List ℕ)) → shown_of (fold (next_of (Join separator)) (Text (Some text)) values) ≡ joined_by separator (text ∷ values)
joined-all separator text [] = refl
joined-all separator text (value ∷ values) = joined-all separator (text ++ (separator ++ value)) values ∙ join-merge separator text value values

pub folded-join : (separator : List ℕ) (values : List (List ℕ)) → shown_of (folded (Join separator) values) ≡ joined_by separator values
folded-join separator [] = refl
folded-join separator (value ∷ values) = joined-all separator value values

-- ---- the greatest

IsBest : List (List ℕ) → List ℕ → Type 0
IsBest values best = Contains values best × All (λ value. is_lt (bytes_cmp best value) ≡ false) values

best-push : (values : List (List ℕ)) (best value : List ℕ) → IsBest values best → IsBest (values ++ value ∷ []) (greater (Some best) value)
unfolding IsBest
best-push values best value b =
    ⊎_elim
    (λ above. rw above (
      Contains-push values value,
      All-push (λ v. is_lt (bytes_cmp value v) ≡ false) values value
          (All-weaker (λ v. is_lt (bytes_cmp best v) ≡ false) (λ v. is_lt (bytes_cmp value v) ≡ false) (λ v h. (ranks_by nat_list_cmp_total (λ (x : List ℕ). x)).chain value best v (one_way best value above) h) values b.1)
          (ap is_lt (tied_itself nat_list_cmp_total value)),
    ))
    (λ not_above. rw not_above (Contains-append_left values (value ∷ []) best b.0, All-push (λ v. is_lt (bytes_cmp best v) ≡ false) values value b.1 not_above))
    (cases_Bool (is_lt (bytes_cmp best value)))

greatest-all : (before : List (List ℕ)) (best : List ℕ) (values : List (List ℕ)) → IsBest before best → (greatest : List ℕ) × (fold (next_of Greatest) (Text (Some best)) values ≡ Text (Some greatest)) × IsBest (before ++ values) greatest
greatest-all before best [] b = (best, refl, subst (λ vs. IsBest vs best) (sym (append-nil before)) b)
greatest-all before best (value ∷ values) b =
    let more = greatest-all (before ++ value ∷ []) (greater (Some best) value) values (best-push before best value b) in
    (more.0, more.1, subst (λ vs. IsBest vs more.0) (append_assoc before (value ∷ []) values) more.2)

best-first : (value : List ℕ) → IsBest (value ∷ []) value
unfolding IsBest
best-first value = (Contains-push [] value, All-cons (λ v. is_lt (bytes_cmp value v) ≡ false) value [] (ap is_lt (tied_itself nat_list_cmp_total value)) (All-nil (λ v. is_lt (bytes_cmp value v) ≡ false)))

pub folded-greatest : (values : List (List ℕ)) → (best : Option (List ℕ)) × (folded Greatest values ≡ Text best) × IsGreatestOf values best
unfolding IsBest
folded-greatest [] = (None, refl, refl)
folded-greatest (value ∷ values) = let all = greatest-all (value ∷ []) value values (best-first value) in (Some all.0, all.1, all.2)
