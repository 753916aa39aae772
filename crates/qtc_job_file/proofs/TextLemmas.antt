-- Texts under their names, in a table.
use Rattle.std.proofs.Common.{◌≡◌, ℕ, ◌<◌, ◌≤◌, Bool, true, false, cond, List, [], ◌∷◌, ◌++◌, length, map, Option, Some, None, Bor, refl, ap, sym, ◌∙◌, ⊎_elim, arith}
use Rattle.indexmap.specs.IndexMap.{insert_entry}
use Rattle.std.specs.Prelude.{All, IsSome, is_some, option_copied}
use Rattle.std.specs.Map.{lookup}
use Rattle.std.specs.Option.{option_map}
use Rattle.std.specs.Str.{bytes_eq}
use Rattle.std.proofs.lemmas.Bool.{cases_Bool, cases_lt}
use Rattle.std.proofs.lemmas.Cmp.{nat_list_eq_equiv}
use Rattle.std.proofs.lemmas.List.{get_or_append_left, get_or_push, length_push}
use Rattle.std.proofs.lemmas.List.Elements.{All-push, All-nil, All-cons, All-head, All-tail}
use Rattle.std.proofs.lemmas.Slice.Eq.{bytes_eq-Decides}
use Rattle.qtc_outside.specs.Shelf.{text_under}
use Rattle.qtc_base.specs.Limits.{most_text}
use Rattle.qtc_job_file.specs.Texts.{AreTexts}

-- a look-up that finds nothing
cond-none : (b : Bool) (text : List ℕ) (o : Option (List ℕ)) → cond b (Some text) o ≡ None → (b ≡ false) × (o ≡ None)
cond-none true text o e = absurd (let f : Some text ≡ None = e in cc)
cond-none false text o e = (refl, e)

-- what is made of a choice between something found and the rest
map-cond : {V : Type 0} (value : V → List ℕ) (b : Bool) (v : V) (o : Option V) → option_map value (cond b (Some v) o) ≡ cond b (Some (value v)) (option_map value o)
map-cond value true v o = refl
map-cond value false v o = refl

-- ---- a table whose names and texts are seen as lists of bytes

module _ {K V : Type 0} (bytes : K → List ℕ) (value : V → List ℕ) where
  abbrev seen : List (K × V) → List (List ℕ × List ℕ)
  seen entries = map (λ entry. (bytes entry.0, value entry.1)) entries

  -- what is looked up in the table is the text under the name
  pub lookup-under : (name : List ℕ) (entries : List (K × V)) → option_map value (lookup (λ k. bytes_eq name (bytes k)) entries) ≡ text_under (seen entries) name
  lookup-under name [] = refl
  lookup-under name (entry ∷ entries) =
      map-cond value (bytes_eq name (bytes entry.0)) entry.1 (lookup (λ k. bytes_eq name (bytes k)) entries)
      ∙ (ap (λ b. cond b (Some (value entry.1)) (option_map value (lookup (λ k. bytes_eq name (bytes k)) entries))) (nat_list_eq_equiv.symm name (bytes entry.0))
      ∙ ap (λ o. cond (bytes_eq (bytes entry.0) name) (Some (value entry.1)) o) (lookup-under name entries))

  -- a text under a new name goes last
  insert-seen : (k : K) (v : V) (entries : List (K × V)) → text_under (seen entries) (bytes k) ≡ None → seen (insert_entry (λ a b. bytes_eq (bytes a) (bytes b)) entries k v) ≡ seen entries ++ (bytes k, value v) ∷ []
  insert-seen k v [] none = refl
  insert-seen k v (entry ∷ entries) none =
      let parts = cond-none (bytes_eq (bytes entry.0) (bytes k)) (value entry.1) (text_under (seen entries) (bytes k)) none in
      let other : bytes_eq (bytes k) (bytes entry.0) ≡ false = nat_list_eq_equiv.symm (bytes k) (bytes entry.0) ∙ parts.0 in
      ap (λ b. seen (cond b ((entry.0, v) ∷ entries) (entry ∷ insert_entry (λ a b. bytes_eq (bytes a) (bytes b)) entries k v))) other
      ∙ ap (λ es. (bytes entry.0, value entry.1) ∷ es) (insert-seen k v entries parts.1)

  pub seen-insert : (name text : List ℕ) (k : K) (v : V) (entries fs : List (K × V)) → bytes k ≡ name → value v ≡ text → text_under (seen entries) name ≡ None → fs ≡ insert_entry (λ a b. bytes_eq (bytes a) (bytes b)) entries k v → seen fs ≡ seen entries ++ (name, text) ∷ []
  seen-insert name text k v entries fs is holds none put =
      ap seen put
      ∙ (insert-seen k v entries (ap (text_under (seen entries)) is ∙ none)
      ∙ (ap (λ n. seen entries ++ (n, value v) ∷ []) is ∙ ap (λ t. seen entries ++ (name, t) ∷ []) holds))

  -- where there is a text under the name, the table gives something
  pub some-found : (name : List ℕ) (entries : List (K × V)) (o : Option (Bor V)) → option_copied o ≡ lookup (λ k. bytes_eq name (bytes k)) entries → IsSome (text_under (seen entries) name) → IsSome o
  some-found name entries None is some = ap (λ found. is_some (option_map value found)) is ∙ (ap is_some (lookup-under name entries) ∙ some)
  some-found name entries (Some x) is some = refl

  -- and what it gives is that text
  pub found-under : (name : List ℕ) (entries : List (K × V)) (o : Option (Bor V)) (it : Bor V) → option_copied o ≡ lookup (λ k. bytes_eq name (bytes k)) entries → o ≡ Some it → text_under (seen entries) name ≡ Some (value it.now)
  found-under name entries o it is some = sym (lookup-under name entries) ∙ (ap (option_map value) (sym is) ∙ ap (λ o. option_map value (option_copied o)) some)

-- ---- a text more

abbrev Differ : List ℕ × List ℕ → List ℕ × List ℕ → Type 0
Differ a b = ¬ (a.0 ≡ b.0)

-- no text has a name that none is under
none-named : (texts : List (List ℕ × List ℕ)) (name : List ℕ) → text_under texts name ≡ None → All (λ pair. ¬ (pair.0 ≡ name)) texts
none-named [] name none = All-nil (λ pair. ¬ (pair.0 ≡ name))
none-named (pair ∷ texts) name none =
    let parts = cond-none (bytes_eq pair.0 name) pair.1 (text_under texts name) none in
    All-cons (λ pair. ¬ (pair.0 ≡ name)) pair texts
    (λ same. let hit = (bytes_eq-Decides pair.0 name).1 same in let both : true ≡ false = sym hit ∙ parts.0 in cc)
    (none-named texts name parts.1)

pub texts-more : (texts : List (List ℕ × List ℕ)) (name text : List ℕ) → AreTexts texts → text_under texts name ≡ None → length text ≤ most_text → AreTexts (texts ++ (name, text) ∷ [])
texts-more texts name text are none short = record {
  distinct = λ i j d lt within.
      let len = length_push texts (name, text) in
      ⊎_elim
      (λ (low : j < length texts). rw (get_or_append_left texts ((name, text) ∷ []) d i (omega arith), get_or_append_left texts ((name, text) ∷ []) d j low) (are.distinct i j d lt low))
      (λ (high : length texts ≤ j).
      let at : length texts ≡ j = omega arith in
      rw (get_or_append_left texts ((name, text) ∷ []) d i (omega arith), get_or_push texts (name, text) d j at) (none-named texts name none i d (omega arith)))
      (cases_lt j (length texts));
  short = All-push (λ pair. length pair.1 ≤ most_text) texts (name, text) are.short short;
}

-- the text under a name is short
pub under-short : (texts : List (List ℕ × List ℕ)) (name text : List ℕ) → All (λ pair. length pair.1 ≤ most_text) texts → text_under texts name ≡ Some text → length text ≤ most_text
under-short [] name text short is = absurd cc
under-short (pair ∷ texts) name text short is =
    ⊎_elim
    (λ (hit : bytes_eq pair.0 name ≡ true).
    let same : pair.1 ≡ text = let e : Some pair.1 ≡ Some text = sym (ap (λ b. cond b (Some pair.1) (text_under texts name)) hit) ∙ is in cc in
    let first = All-head (λ pair. length pair.1 ≤ most_text) pair texts short in
    let len = ap length same in
    omega arith)
    (λ (miss : bytes_eq pair.0 name ≡ false).
    under-short texts name text (All-tail (λ pair. length pair.1 ≤ most_text) pair texts short) (sym (ap (λ b. cond b (Some pair.1) (text_under texts name)) miss) ∙ is))
    (cases_Bool (bytes_eq pair.0 name))
