-- Lists of which several functions take something.
use Rattle.std.proofs.Common.{◌≡◌, ℕ, suc, ◌+◌, ◌<◌, List, [], ◌∷◌, ◌++◌, length, get_or, set, map, refl, sym, ap, subst, ◌∙◌, arith, length-append}
use Rattle.std.specs.Prelude.{Option, None, Some, Result, Ok, Err, IfOk, is_some}
use Rattle.std.specs.List.{AllZip}
use Rattle.std.specs.Option.{option_map}
use Rattle.std.proofs.lemmas.List.{map-append}
use Rattle.std.proofs.lemmas.List.Elements.{filter_map-append}
use Rattle.rayon.specs.Lists.{filter_by_mask}
use Rattle.rayon.proofs.ToStd.{filter_by_mask-filter}
use Rattle.qtc_ops.specs.ItemValue.{ItemValue}
use Rattle.qtc_inplace.proofs.CallLemmas.{alone-together, together-joined}
use Rattle.qtc_inplace.proofs.ListLemmas.{tells-joined}
use Rattle.qtc_inplace.proofs.MapLemmas.{high-shared, low-shared, shared-value}
use Rattle.qtc_inplace.specs.Conditions.{value_of}
use Rattle.qtc_inplace.specs.Inside.{Appended, BothTaken, CallsInTurn, CallsTogether, IsReady, JoinsBoth, TakesTogether, taken_of, TellsBadFrom}
use Rattle.qtc_inplace.specs.Lists.{filtered, text_of}
use Rattle.qtc_inplace.specs.declared.faults.InPlaceFault.{InPlaceFault}

module _ {F X T : Type 0} (value : F → List ℕ → ItemValue) (called : F → List ℕ) (taken : List ℕ → Option (List ℕ) → Option T) (items : X → List T) where
  pub alone-takes : (first : ℕ) (list : List (List ℕ)) (functions : List F) (d f : F) (r : Result X InPlaceFault) → length functions ≡ 1
      → IfOk r (λ made. items made ≡ taken_of taken (value (get_or functions 0 d)) list) → TellsBadFrom first (value (get_or functions 0 d)) list r
      → CallsInTurn first (length list) (called (get_or functions 0 d)) (called f) r → value f ≡ value (get_or functions 0 d)
      → TakesTogether value called taken items first list functions (set functions 0 f) r
  alone-takes first list [] d f r one whole tells calls stays = absurd (omega arith)
  alone-takes first list (g ∷ []) d f r one whole tells calls stays = record {
    whole = whole;
    tells = tells;
    calls = alone-together called first (length list) g f r calls;
    value_stays = ap (λ v. v ∷ []) stays;
  }
  alone-takes first list (g ∷ k ∷ functions) d f r one whole tells calls stays = absurd (omega arith)

  whole-taken : (v : List ℕ → ItemValue) (front back : List (List ℕ)) (a b r : Result X InPlaceFault) → JoinsBoth a b r → Appended items a b r
      → IfOk a (λ made. items made ≡ taken_of taken v front) → IfOk b (λ made. items made ≡ taken_of taken v back) → IfOk r (λ made. items made ≡ taken_of taken v (front ++ back))
  whole-taken v front back (Ok x) (Ok y) (Ok z) j h p q =
      h ∙ (λ i. p i ++ q i) ∙ sym (filter_map-append (λ member. taken member (text_of (v member))) front back)
  whole-taken v front back (Ok x) (Err f) (Ok z) j h p q = absurd (let no = j.1 in cc)
  whole-taken v front back (Err e) b (Ok z) j h p q = absurd (let no = j.0 in cc)
  whole-taken v front back a b (Err fault) j h p q = tt

  pub both-take : (size first at : ℕ) (list front back : List (List ℕ)) (functions low low' high high' : List F) (r : Result X InPlaceFault)
      → list ≡ front ++ back → length front ≡ at → functions ≡ low ++ high → 0 < length low → 0 < length high
      → IsReady value size first list functions → BothTaken value called taken items first front low low' (first + at) back high high' r
      → TakesTogether value called taken items first list functions (low' ++ high') r
  both-take size first at list front back functions low low' high high' r is long parts some_low some_high ready both =
      let v = value_of value functions in
      let low_value = shared-value value v low some_low (low-shared value functions low high parts ready.one_value) in
      let high_value = shared-value value v high some_high (high-shared value functions low high parts ready.one_value) in
      let a = both.first_result in
      let b = both.second_result in
      let p : IfOk a (λ made. items made ≡ taken_of taken v front) = subst (λ w. IfOk a (λ made. items made ≡ taken_of taken w front)) low_value both.first_run.whole in
      let q : IfOk b (λ made. items made ≡ taken_of taken v back) = subst (λ w. IfOk b (λ made. items made ≡ taken_of taken w back)) high_value both.second_run.whole in
      let s : TellsBadFrom first v front a = subst (λ w. TellsBadFrom first w front a) low_value both.first_run.tells in
      let t : TellsBadFrom (first + length front) v back b =
      subst (λ n. TellsBadFrom (first + n) v back b) (sym long) (subst (λ w. TellsBadFrom (first + at) w back b) high_value both.second_run.tells) in
      let behind : CallsTogether called (first + length front) (length back) high high' b =
      subst (λ m. CallsTogether called (first + m) (length back) high high' b) (sym long) both.second_run.calls in
      let n : length (front ++ back) ≡ length front + length back = length-append front back in
      let whole : TakesTogether value called taken items first (front ++ back) functions (low' ++ high') r = record {
        whole = whole-taken v front back a b r both.joins both.appended p q;
        tells = tells-joined v first front back a b r both.joins s t;
        calls = subst (λ fs. CallsTogether called first (length (front ++ back)) fs (low' ++ high') r) (sym parts)
            (together-joined called first (length front) (length back) (length (front ++ back)) low low' high high' a b r n both.joins both.first_run.calls behind);
        value_stays = map-append value low' high' ∙ (λ i. both.first_run.value_stays i ++ both.second_run.value_stays i) ∙ sym (map-append value low high) ∙ ap (map value) (sym parts);
      } in
      subst (λ l. TakesTogether value called taken items first l functions (low' ++ high') r) (sym is) whole

-- ---- what is taken in the end

pub copies-filtered : (value : List ℕ → ItemValue) (list : List (List ℕ)) → taken_of (λ member text. option_map (λ (kept : List ℕ). member) text) value list ≡ filtered value list
copies-filtered value [] = refl
copies-filtered value (member ∷ list) = by (text_of (value member)) refl (copies-filtered value list)
  where
    by : (o : Option (List ℕ)) → text_of (value member) ≡ o → taken_of (λ m text. option_map (λ (kept : List ℕ). m) text) value list ≡ filtered value list → taken_of (λ m text. option_map (λ (kept : List ℕ). m) text) value (member ∷ list) ≡ filtered value (member ∷ list)
    by (Some text) is h = rw is (ap (λ ms. member ∷ ms) h)
    by None is h = rw is h

module _ (value : List ℕ → ItemValue) where
  pub length-verdicts : (list : List (List ℕ)) → length (taken_of (λ member text. Some (is_some text)) value list) ≡ length list
  length-verdicts [] = refl
  length-verdicts (member ∷ list) = ap suc (length-verdicts list)

  verdicts-zip : (list : List (List ℕ)) → AllZip (λ member stays. stays ≡ is_some (text_of (value member))) list (taken_of (λ member text. Some (is_some text)) value list)
  verdicts-zip [] = tt
  verdicts-zip (member ∷ list) = (refl, verdicts-zip list)

  pub verdicts-filter : (list : List (List ℕ)) → filter_by_mask list (taken_of (λ member text. Some (is_some text)) value list) ≡ filtered value list
  verdicts-filter list = filter_by_mask-filter (λ member. is_some (text_of (value member))) list (taken_of (λ member text. Some (is_some text)) value list) (verdicts-zip list)
