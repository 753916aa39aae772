-- How the counts in a map follow the counts of a list.
use Rattle.std.proofs.Common.{◌≡◌, ℕ, ◌+◌, ◌≤◌, false, cond, eqb, List, [], ◌∷◌, ◌++◌, length, map, Some, unwrap_or, refl, sym, ap, ◌∙◌, append_assoc, arith}
use Rattle.std.specs.Prelude.{codes}
use Rattle.std.specs.Map.{lookup}
use Rattle.std.specs.BTreeMap.{insert_entry, is_at}
use Rattle.std.specs.Ordering.{match_ordering}
use Rattle.std.specs.declared.cmp.Ordering.{Ordering}
use Rattle.std.specs.declared.cmp.Ordering.TheVariants.{Less, Equal, Greater}
use Rattle.std.proofs.lemmas.Bool.{ne_eqb}
use Rattle.std.proofs.lemmas.Grind.{common_steps}
use Rattle.qtc_ops.specs.Counts.{count_of, counted, count_text, counts_text, separated}
use Rattle.qtc_ops.specs.Order.{bytes_cmp, capped}
use Rattle.qtc_ops.specs.Texts.{joined_by}
use Rattle.qtc_ops.proofs.FoldLemmas.{join-merge}

-- ---- entries whose keys are seen as byte strings

module _ {K : Type 0} (bytes : K → List ℕ) where
  abbrev pub seen : List (K × ℕ) → List (List ℕ × ℕ)
  seen es = map (λ e. (bytes e.0, e.1)) es

  abbrev pub key_cmp : K → K → Ordering
  key_cmp a b = bytes_cmp (bytes a) (bytes b)

  abbrev pub query : List ℕ → K → Ordering
  query value k = bytes_cmp value (bytes k)

  pub lookup-seen : (value : List ℕ) (es : List (K × ℕ)) → lookup (is_at (bytes_cmp value)) (seen es) ≡ lookup (is_at (query value)) es
  lookup-seen value [] = refl
  lookup-seen value (e ∷ es) = ap (cond (is_at (query value) e.0) (Some e.1)) (lookup-seen value es)

  match-seen : (o : Ordering) (es fs gs : List (K × ℕ)) → seen (match_ordering o es fs gs) ≡ match_ordering o (seen es) (seen fs) (seen gs)
  match-seen Less es fs gs = refl
  match-seen Equal es fs gs = refl
  match-seen Greater es fs gs = refl

  pub seen-insert : (k : K) (w : ℕ) (es : List (K × ℕ)) → seen (insert_entry key_cmp es k w) ≡ insert_entry bytes_cmp (seen es) (bytes k) w
  seen-insert k w [] = refl
  seen-insert k w (e ∷ es) =
      match-seen (key_cmp k e.0) ((k, w) ∷ e ∷ es) ((e.0, w) ∷ es) (e ∷ insert_entry key_cmp es k w)
      ∙ ap (λ rest. match_ordering (key_cmp k e.0) ((bytes k, w) ∷ (bytes e.0, e.1) ∷ seen es) ((bytes e.0, w) ∷ seen es) ((bytes e.0, e.1) ∷ rest)) (seen-insert k w es)

-- ---- one more of a value in a map

module _ {K : Type 0} (bytes : K → List ℕ) where
  pub counted-entry : (value : List ℕ) (k : K) (w : ℕ) (es fs : List (K × ℕ)) → bytes k ≡ value → w ≡ capped (unwrap_or (lookup (is_at (key_cmp bytes k)) es) 0 + 1) → fs ≡ insert_entry (key_cmp bytes) es k w → seen bytes fs ≡ counted (seen bytes es) value
  counted-entry value k w es fs key more is =
      let same : count_of (seen bytes es) value ≡ unwrap_or (lookup (is_at (key_cmp bytes k)) es) 0 = ap (λ o. unwrap_or o 0) (ap (λ v. lookup (is_at (bytes_cmp v)) (seen bytes es)) (sym key) ∙ lookup-seen bytes (bytes k) es) in
      ap (seen bytes) is ∙ (seen-insert bytes k w es ∙ (ap (λ v. insert_entry bytes_cmp (seen bytes es) v w) key
      ∙ ap (insert_entry bytes_cmp (seen bytes es) value) (more ∙ ap (λ m. capped (m + 1)) (sym same))))

-- ---- the text of the counts, entry by entry

-- the text so far, and what the entries left add to it
abbrev pub continued : List ℕ → List (List ℕ × ℕ) → List ℕ
continued text [] = text
continued text (entry ∷ entries) = continued (separated text ++ count_text entry) entries

continued-join : (text : List ℕ) (entries : List (List ℕ × ℕ)) → 1 ≤ length text → continued text entries ≡ joined_by (codes ";") (text ∷ map count_text entries)
continued-join text [] some = refl
continued-join text (entry ∷ entries) some =
    let other : eqb (length text) 0 ≡ false = ne_eqb (length text) 0 (λ e. omega arith) in
    let longer : 1 ≤ length ((text ++ codes ";") ++ count_text entry) = grind (arith, common_steps) in
    rw other
    (continued-join ((text ++ codes ";") ++ count_text entry) entries longer
    ∙ (ap (λ s. joined_by (codes ";") (s ∷ map count_text entries)) (append_assoc text (codes ";") (count_text entry))
    ∙ join-merge (codes ";") text (count_text entry) (map count_text entries)))

pub continued-all : (entries : List (List ℕ × ℕ)) → continued [] entries ≡ counts_text entries
continued-all [] = refl
continued-all (entry ∷ entries) = continued-join (count_text entry) entries (grind (arith, common_steps))
