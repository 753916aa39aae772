-- What a tally comes to over a whole list.
use Rattle.std.proofs.Common.{◌≡◌, ℕ, ◌+◌, ◌≤◌, Bool, true, false, cond, List, [], ◌∷◌, fold, Option, Some, unwrap_or, refl, sym, ap, ◌∙◌, ⊎_elim, arith}
use Rattle.std.specs.List.{All, AllByRecursion, count_by}
use Rattle.std.specs.List.Sorted.{IsStrictlySortedBy}
use Rattle.std.specs.Map.{keys_of, values_of, lookup}
use Rattle.std.specs.Str.{bytes_eq}
use Rattle.std.specs.BTreeMap.{insert_entry, is_at}
use Rattle.std.specs.Ordering.{is_eq}
use Rattle.std.specs.Cmp.Lexicographic.{nat_list_cmp_total}
use Rattle.std.specs.declared.cmp.Ordering.{Ordering}
use Rattle.std.specs.declared.cmp.Ordering.TheVariants.{Less, Equal, Greater}
use Rattle.std.proofs.lemmas.Bool.{cases_Bool, false≢true}
use Rattle.std.proofs.lemmas.List.Elements.{All-nil}
use Rattle.std.proofs.lemmas.List.Sums.{sum_by-cons}
use Rattle.std.proofs.lemmas.Cmp.{tied_itself}
use Rattle.std.proofs.lemmas.Map.Lookups.{exact_bytes}
use Rattle.std.proofs.lemmas.Map.Text.{is_eq-slice_cmp}
use Rattle.std.proofs.lemmas.Map.Views.{All-values-insert_entry}
use Rattle.qtc_ops.specs.Counts.{count_of, counted, AreCounts}
use Rattle.qtc_ops.specs.Folds.{folded, next_of}
use Rattle.qtc_ops.specs.Order.{bytes_cmp, capped}
use Rattle.qtc_ops.specs.declared.accumulators.FoldAcc.TheVariants.{Counts}
use Rattle.qtc_ops.specs.declared.fold_ops.FoldOp.TheVariants.{Tally}

-- ---- a look-up after one entry is put

same_key : (q k : List ℕ) → is_eq (bytes_cmp q k) ≡ true → q ≡ k
same_key q k h = exact_bytes q k (is_equal (bytes_cmp q k) h)
  where
    is_equal : (o : Ordering) → is_eq o ≡ true → o ≡ Equal
    is_equal Less h = absurd (false≢true h)
    is_equal Equal h = refl
    is_equal Greater h = absurd (false≢true h)

twice : (b : Bool) (x y z : Option ℕ) → cond b x z ≡ cond b x (cond b y z)
twice true x y z = refl
twice false x y z = refl

apart : (a b : Bool) (x y z : Option ℕ) → (a ≡ true → b ≡ true → ⊥) → cond a x (cond b y z) ≡ cond b y (cond a x z)
apart true true x y z h = absurd (h refl refl)
apart true false x y z h = refl
apart false true x y z h = refl
apart false false x y z h = refl

lookup-insert_at : (q k : List ℕ) (w : ℕ) (e : List ℕ × ℕ) (es : List (List ℕ × ℕ)) (o : Ordering) → bytes_cmp k e.0 ≡ o → lookup (is_at (bytes_cmp q)) (insert_entry bytes_cmp es k w) ≡ cond (is_at (bytes_cmp q) k) (Some w) (lookup (is_at (bytes_cmp q)) es) → lookup (is_at (bytes_cmp q)) (insert_entry bytes_cmp (e ∷ es) k w) ≡ cond (is_at (bytes_cmp q) k) (Some w) (lookup (is_at (bytes_cmp q)) (e ∷ es))
lookup-insert_at q k w e es Less is more = rw is refl
lookup-insert_at q k w e es Equal is more =
    let key : k ≡ e.0 = exact_bytes k e.0 is in
    rw is (rw key (twice (is_at (bytes_cmp q) e.0) (Some w) (Some e.1) (lookup (is_at (bytes_cmp q)) es)))
lookup-insert_at q k w e es Greater is more =
    rw is (ap (cond (is_at (bytes_cmp q) e.0) (Some e.1)) more
    ∙ apart (is_at (bytes_cmp q) e.0) (is_at (bytes_cmp q) k) (Some e.1) (Some w) (lookup (is_at (bytes_cmp q)) es) (λ a b.
    let key : k ≡ e.0 = sym (same_key q k b) ∙ same_key q e.0 a in
    let level : bytes_cmp k e.0 ≡ Equal = ap (λ x. bytes_cmp x e.0) key ∙ tied_itself nat_list_cmp_total e.0 in
    let differ : Greater ≡ Equal = sym is ∙ level in
    cc))

pub lookup-insert_entry : (q k : List ℕ) (w : ℕ) (es : List (List ℕ × ℕ)) → lookup (is_at (bytes_cmp q)) (insert_entry bytes_cmp es k w) ≡ cond (is_at (bytes_cmp q) k) (Some w) (lookup (is_at (bytes_cmp q)) es)
lookup-insert_entry q k w [] = refl
lookup-insert_entry q k w (e ∷ es) = lookup-insert_at q k w e es (bytes_cmp k e.0) refl (lookup-insert_entry q k w es)

-- ---- the keys stay in order

all-weaker : (P Q : List ℕ → Type 0) → ((x : List ℕ) → P x → Q x) → (xs : List (List ℕ)) → AllByRecursion P xs → AllByRecursion Q xs
all-weaker P Q f [] h = h
all-weaker P Q f (x ∷ xs) h = (f x h.0, all-weaker P Q f xs h.1)

all-insert_at : (P : List ℕ → Type 0) (k : List ℕ) (w : ℕ) (e : List ℕ × ℕ) (es : List (List ℕ × ℕ)) (o : Ordering) → bytes_cmp k e.0 ≡ o → P k → AllByRecursion P (keys_of (e ∷ es)) → AllByRecursion P (keys_of (insert_entry bytes_cmp es k w)) → AllByRecursion P (keys_of (insert_entry bytes_cmp (e ∷ es) k w))
all-insert_at P k w e es Less is p all more = rw is (p, all)
all-insert_at P k w e es Equal is p all more = rw is all
all-insert_at P k w e es Greater is p all more = rw is (all.0, more)

all-insert : (P : List ℕ → Type 0) (k : List ℕ) (w : ℕ) (es : List (List ℕ × ℕ)) → P k → AllByRecursion P (keys_of es) → AllByRecursion P (keys_of (insert_entry bytes_cmp es k w))
all-insert P k w [] p all = (p, tt)
all-insert P k w (e ∷ es) p all = all-insert_at P k w e es (bytes_cmp k e.0) refl p all (all-insert P k w es p all.1)

sorted-insert_at : (k : List ℕ) (w : ℕ) (e : List ℕ × ℕ) (es : List (List ℕ × ℕ)) (o : Ordering) → bytes_cmp k e.0 ≡ o → IsStrictlySortedBy bytes_cmp (keys_of (e ∷ es)) → IsStrictlySortedBy bytes_cmp (keys_of (insert_entry bytes_cmp es k w)) → IsStrictlySortedBy bytes_cmp (keys_of (insert_entry bytes_cmp (e ∷ es) k w))
unfolding IsStrictlySortedBy
sorted-insert_at k w e es Less is up more =
    rw is ((is, all-weaker (λ y. bytes_cmp e.0 y ≡ Less) (λ y. bytes_cmp k y ≡ Less) (λ y h. nat_list_cmp_total.trans k e.0 y is h) (keys_of es) up.0), up)
sorted-insert_at k w e es Equal is up more = rw is up
sorted-insert_at k w e es Greater is up more =
    let above : bytes_cmp e.0 k ≡ Less = nat_list_cmp_total.antisymm e.0 k ∙ rw is refl in
    rw is (all-insert (λ y. bytes_cmp e.0 y ≡ Less) k w es above up.0, more)

pub sorted-insert : (k : List ℕ) (w : ℕ) (es : List (List ℕ × ℕ)) → IsStrictlySortedBy bytes_cmp (keys_of es) → IsStrictlySortedBy bytes_cmp (keys_of (insert_entry bytes_cmp es k w))
unfolding IsStrictlySortedBy
sorted-insert k w [] up = (tt, tt)
sorted-insert k w (e ∷ es) up = sorted-insert_at k w e es (bytes_cmp k e.0) refl up (sorted-insert k w es up.1)

-- ---- value by value

-- the counts are those of m
record CountsAs (m : List ℕ → ℕ) (counts : List (List ℕ × ℕ)) : Type 0 where
  ascending : IsStrictlySortedBy bytes_cmp (keys_of counts)
  each : (value : List ℕ) → count_of counts value ≡ capped (m value)
  some : All (λ count. 1 ≤ count) (values_of counts)

capped-twice : (a b : ℕ) → capped (capped a + b) ≡ capped (a + b)
capped-twice a b = omega arith

one_more : (m : List ℕ → ℕ) (value q : List ℕ) → ℕ
one_more m value q = m q + cond (bytes_eq q value) 1 0

count_of-counted : (counts : List (List ℕ × ℕ)) (value q : List ℕ) → count_of (counted counts value) q ≡ cond (bytes_eq q value) (capped (count_of counts value + 1)) (count_of counts q)
count_of-counted counts value q =
    ap (λ o. unwrap_or o 0) (lookup-insert_entry q value (capped (count_of counts value + 1)) counts)
    ∙ (unwrap-cond (is_eq (bytes_cmp q value)) ∙ ap (λ b. cond b (capped (count_of counts value + 1)) (count_of counts q)) (is_eq-slice_cmp q value))
  where
    unwrap-cond : (b : Bool) → unwrap_or (cond b (Some (capped (count_of counts value + 1))) (lookup (is_at (bytes_cmp q)) counts)) 0 ≡ cond b (capped (count_of counts value + 1)) (count_of counts q)
    unwrap-cond true = refl
    unwrap-cond false = refl

CountsAs-more : (m : List ℕ → ℕ) (counts : List (List ℕ × ℕ)) (value : List ℕ) → CountsAs m counts → CountsAs (one_more m value) (counted counts value)
unfolding one_more
CountsAs-more m counts value c = record {
  ascending = sorted-insert value (capped (count_of counts value + 1)) counts c.ascending;
  each = λ q.
      count_of-counted counts value q
      ∙ ⊎_elim
      (λ same.
      let key : q ≡ value = same_key q value (is_eq-slice_cmp q value ∙ same) in
      rw same
      (ap (λ n. capped (n + 1)) (c.each value) ∙ (capped-twice (m value) 1 ∙ ap (λ n. capped (n + 1)) (sym (ap m key)))))
      (λ other. rw other (c.each q ∙ ap capped (omega arith)))
      (cases_Bool (bytes_eq q value));
  some = All-values-insert_entry bytes_cmp value (capped (count_of counts value + 1)) (λ count. 1 ≤ count) counts c.some (omega arith);
}

CountsAs-all : (m : List ℕ → ℕ) (counts : List (List ℕ × ℕ)) (values : List (List ℕ)) → CountsAs m counts → CountsAs (λ q. m q + count_by (bytes_eq q) values) (fold counted counts values)
unfolding one_more
CountsAs-all m counts [] c = record { ascending = c.ascending; each = λ q. c.each q ∙ ap capped (omega arith); some = c.some }
CountsAs-all m counts (value ∷ values) c =
    let all = CountsAs-all (one_more m value) (counted counts value) values (CountsAs-more m counts value c) in
    record {
      ascending = all.ascending;
      each = λ q. all.each q ∙ ap capped (let e = sum_by-cons (λ v. cond (bytes_eq q v) 1 0) value values in omega arith);
      some = all.some;
    }

tally-fold : (counts : List (List ℕ × ℕ)) (values : List (List ℕ)) → fold (next_of Tally) (Counts counts) values ≡ Counts (fold counted counts values)
tally-fold counts [] = refl
tally-fold counts (value ∷ values) = tally-fold (counted counts value) values

pub folded-tally : (values : List (List ℕ)) → (counts : List (List ℕ × ℕ)) × (folded Tally values ≡ Counts counts) × AreCounts values counts
unfolding IsStrictlySortedBy
folded-tally values =
    let all = CountsAs-all (λ _. 0) [] values (record { ascending = tt; each = λ q. refl; some = All-nil (λ count. 1 ≤ count) }) in (
      fold counted [] values,
      tally-fold [] values,
      record {
        ascending = all.ascending;
        each = λ q. all.each q ∙ ap capped (omega arith);
        some = all.some;
      },
    )
