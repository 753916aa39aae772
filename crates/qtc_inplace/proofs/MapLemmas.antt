-- Chunks that are mapped, and runs of them.
use Rattle.std.proofs.Common.{◌≡◌, ℕ, suc, ◌+◌, ◌<◌, ◌≤◌, List, [], ◌∷◌, ◌++◌, length, get_or, set, drop, min, inr, refl, sym, ap, subst, ◌∙◌, arith, length-append}
use Rattle.std.specs.Prelude.{◌≢◌, Result, Ok, Err, All}
use Rattle.std.specs.List.{AllZip}
use Rattle.std.proofs.lemmas.List.{drop_all, get_or_default, map-append, take_all}
use Rattle.std.proofs.lemmas.List.Elements.{All-head, All-tail, All-weaker}
use Rattle.rayon.specs.Lists.{chunks_of}
use Rattle.rayon.proofs.Chunks.{chunks-head}
use Rattle.rayon.proofs.ListFacts.{All-parts}
use Rattle.qtc_ops.specs.ItemValue.{ItemValue, kept, dropped, bad}
use Rattle.qtc_inplace.proofs.CallLemmas.{alone-together, in-turn-joined, together-joined}
use Rattle.qtc_inplace.proofs.ListLemmas.{left-joined}
use Rattle.qtc_inplace.specs.Chunks.{ChunkLeft}
use Rattle.qtc_inplace.specs.Conditions.{NeverDrops, ShareValue, value_of}
use Rattle.qtc_inplace.specs.Inside.{BothMapped, CallsInTurn, CallsTogether, IsCut, IsLeft, IsReady, JoinsBoth, MapsInTurn, MapsTogether, TellsBadFrom}
use Rattle.qtc_inplace.specs.Lists.{IsLeastBad, mapped, NoneBad, SomeBad}
use Rattle.qtc_inplace.specs.declared.faults.InPlaceFault.{InPlaceFault}
use Rattle.qtc_inplace.specs.declared.faults.InPlaceFault.TheVariants.{Bad, Memory}

-- ---- one chunk

pub chunk-alone : {X : Type 0} (size : ℕ) (l : List X) → 0 < size → 0 < length l → length l ≤ size → chunks_of size l ≡ l ∷ []
chunk-alone {X} size l pos some few =
    let n : length l ≡ min size (length l) = omega arith in
    chunks-head size pos l some (length l) n
    ∙ ap (λ c. c ∷ chunks_of size (drop (length l) l)) (take_all (length l) l (omega arith))
    ∙ ap (λ (r : List X). l ∷ chunks_of size r) (drop_all (length l) l (omega arith))

-- a list of at most one chunk
pub alone-zipped : {X : Type 0} (R : List X → List X → Type 0) (size : ℕ) (old new : List X) → 0 < size → length old ≤ size → length new ≡ length old → R old new → AllZip R (chunks_of size old) (chunks_of size new)
alone-zipped R size [] [] pos few same h = tt
alone-zipped R size [] (y ∷ new) pos few same h = absurd (omega arith)
alone-zipped R size (x ∷ old) new pos few same h =
    let before = chunk-alone size (x ∷ old) pos (omega arith) few in
    let after = chunk-alone size new pos (omega arith) (omega arith) in
    subst (λ cs. AllZip R cs (chunks_of size new)) (sym before) (subst (λ cs. AllZip R ((x ∷ old) ∷ []) cs) (sym after) (h, tt))

module _ (value : List ℕ → ItemValue) where
  pub length-mapped : NeverDrops value → (list : List (List ℕ)) → NoneBad value list → length (mapped value list) ≡ length list
  length-mapped never [] good = refl
  length-mapped never (member ∷ list) good =
      by (value member) refl (length-mapped never list (All-tail (λ m. value m ≢ bad) member list good))
    where
      by : (v : ItemValue) → value member ≡ v → length (mapped value list) ≡ length list → length (mapped value (member ∷ list)) ≡ suc (length list)
      by (kept text) is h = rw is (ap suc h)
      by dropped is h = absurd (never member is)
      by bad is h = absurd (All-head (λ m. value m ≢ bad) member list good is)

  some-bad : (list : List (List ℕ)) (index : ℕ) → IsLeastBad value list index → SomeBad value list
  some-bad list index h =
      (index, get_or list index [], h.within, get_or_default list index (get_or list index []) [] h.within, h.is)

  pub chunk-mapped : {X : Type 0} (size first : ℕ) (old new : List (List ℕ)) (before after : List ℕ) (x : X) → 0 < size → length old ≤ size → length new ≡ length old
      → new ≡ mapped value old → NoneBad value old → CallsInTurn {X = X} first (length old) before after (Ok x) → MapsInTurn {X = Unit {0}} value size first old new before after (Ok tt)
  chunk-mapped size first old new before after x pos few same is good calls = record {
    left = record {
      whole = is;
      chunks = alone-zipped (λ a b. NoneBad value a × (b ≡ mapped value a)) size old new pos few same (good, is);
      len = same;
      tells = good;
    };
    calls = record { added = calls.added; appended = calls.appended; called = calls.called };
  }

  chunk-refused : (X Y : Type 0) (first : ℕ) (list : List (List ℕ)) (fault : InPlaceFault) → TellsBadFrom {X = X} first value list (Err fault) → ChunkLeft {X = Y} value (Err fault) list list
  chunk-refused X Y first list (Bad index) h = inr (some-bad list h.0 h.2, refl)
  chunk-refused X Y first list Memory h = inr refl

  pub tells-same : (X Y : Type 0) (first : ℕ) (list : List (List ℕ)) (fault : InPlaceFault) → TellsBadFrom {X = X} first value list (Err fault) → TellsBadFrom {X = Y} first value list (Err fault)
  tells-same X Y first list (Bad index) h = h
  tells-same X Y first list Memory h = h

  pub chunk-kept : {X : Type 0} (size first : ℕ) (old : List (List ℕ)) (before after : List ℕ) (fault : InPlaceFault) → 0 < size → length old ≤ size
      → TellsBadFrom {X = X} first value old (Err fault) → CallsInTurn {X = X} first (length old) before after (Err fault) → MapsInTurn {X = Unit {0}} value size first old old before after (Err fault)
  chunk-kept {X} size first old before after fault pos few tells calls = record {
    left = record {
      whole = tt;
      chunks = alone-zipped (ChunkLeft {X = Unit {0}} value (Err fault)) size old old pos few refl (chunk-refused X (Unit {0}) first old fault tells);
      len = refl;
      tells = tells-same X (Unit {0}) first old fault tells;
    };
    calls = record { added = calls.added; appended = calls.appended; called = calls.called };
  }

  -- ---- one function's runs

  pub in-turn-maps : (same : List ℕ → ItemValue) (size first at : ℕ) (list front front' back back' : List (List ℕ)) (before between after : List ℕ) (a b r : Result (Unit {0}) InPlaceFault)
      → 0 < size → list ≡ front ++ back → length front ≡ at → IsCut size (length list) at → same ≡ value → JoinsBoth a b r
      → MapsInTurn value size first front front' before between a → MapsInTurn same size (first + at) back back' between after b
      → MapsInTurn value size first list (front' ++ back') before after r
  in-turn-maps same size first at list front front' back back' before between after a b r pos is long cut one j p q =
      let second : MapsInTurn value size (first + length front) back back' between after b =
      subst (λ v. MapsInTurn v size (first + length front) back back' between after b) one
      (subst (λ n. MapsInTurn same size (first + n) back back' between after b) (sym long) q) in
      let n : length (front ++ back) ≡ length front + length back = length-append front back in
      subst (λ l. MapsInTurn value size first l (front' ++ back') before after r) (sym is) (record {
        left = left-joined value size first cut.chunks front front' back back' a b r pos (long ∙ cut.whole) j p.left second.left;
        calls = in-turn-joined first (length front) (length back) (length (front ++ back)) before between after a b r n j p.calls second.calls;
      })

-- ---- several functions

module _ {F : Type 0} (value : F → List ℕ → ItemValue) where
  pub first-value : (functions : List F) (d : F) → 0 < length functions → value (get_or functions 0 d) ≡ value_of value functions
  first-value [] d some = absurd (omega arith)
  first-value (f ∷ functions) d some = refl

  pub shared-value : (v : List ℕ → ItemValue) (part : List F) → 0 < length part → All (λ f. value f ≡ v) part → value_of value part ≡ v
  shared-value v [] some h = absurd (omega arith)
  shared-value v (f ∷ part) some h = All-head (λ g. value g ≡ v) f part h

  pub shared-part : (v : List ℕ → ItemValue) (part : List F) → 0 < length part → All (λ f. value f ≡ v) part → ShareValue value part
  shared-part v part some h = All-weaker (λ f. value f ≡ v) (λ f. value f ≡ value_of value part) (λ f e. e ∙ sym (shared-value v part some h)) part h

  pub never-part : (v : List ℕ → ItemValue) (part : List F) → 0 < length part → All (λ f. value f ≡ v) part → NeverDrops v → NeverDrops (value_of value part)
  never-part v part some h never = subst NeverDrops (sym (shared-value v part some h)) never

  -- what all functions are asked is met by some of them
  pub ready-part : (size first second : ℕ) (list part : List (List ℕ)) (functions some : List F) → 0 < length some → length some ≤ length functions
      → second + length part ≤ first + length list → All (λ f. value f ≡ value_of value functions) some → IsReady value size first list functions → IsReady value size second part some
  ready-part size first second list part functions some filled few room shared ready = record {
    some_in_chunk = ready.some_in_chunk;
    room = omega (arith, ready.room);
    some_functions = filled;
    few_functions = omega (arith, ready.few_functions);
    one_value = shared-part (value_of value functions) some filled shared;
  }

  pub low-shared : (functions low high : List F) → functions ≡ low ++ high → ShareValue value functions → All (λ f. value f ≡ value_of value functions) low
  low-shared functions low high is h = (All-parts (λ f. value f ≡ value_of value functions) low high (subst (All (λ f. value f ≡ value_of value functions)) is h)).0

  pub high-shared : (functions low high : List F) → functions ≡ low ++ high → ShareValue value functions → All (λ f. value f ≡ value_of value functions) high
  high-shared functions low high is h = (All-parts (λ f. value f ≡ value_of value functions) low high (subst (All (λ f. value f ≡ value_of value functions)) is h)).1

  module _ (called : F → List ℕ) where
    pub alone-maps : (size first : ℕ) (old new : List (List ℕ)) (functions : List F) (d f : F) (r : Result (Unit {0}) InPlaceFault) → length functions ≡ 1
        → MapsInTurn (value (get_or functions 0 d)) size first old new (called (get_or functions 0 d)) (called f) r → value f ≡ value (get_or functions 0 d)
        → MapsTogether value called size first old new functions (set functions 0 f) r
    alone-maps size first old new [] d f r one h stays = absurd (omega arith)
    alone-maps size first old new (g ∷ []) d f r one h stays = record {
      left = h.left;
      calls = alone-together called first (length old) g f r h.calls;
      value_stays = ap (λ v. v ∷ []) stays;
    }
    alone-maps size first old new (g ∷ k ∷ functions) d f r one h stays = absurd (omega arith)

    pub both-map : (size first at : ℕ) (list front front' back back' : List (List ℕ)) (functions low low' high high' : List F) (r : Result (Unit {0}) InPlaceFault)
        → list ≡ front ++ back → length front ≡ at → IsCut size (length list) at → functions ≡ low ++ high → 0 < length low → 0 < length high
        → IsReady value size first list functions → BothMapped value called size first front front' low low' (first + at) back back' high high' r
        → MapsTogether value called size first list (front' ++ back') functions (low' ++ high') r
    both-map size first at list front front' back back' functions low low' high high' r is long cut parts some_low some_high ready both =
        let v = value_of value functions in
        let low_value = shared-value v low some_low (low-shared functions low high parts ready.one_value) in
        let high_value = shared-value v high some_high (high-shared functions low high parts ready.one_value) in
        let p : IsLeft v size first front front' both.first_result = subst (λ w. IsLeft w size first front front' both.first_result) low_value both.first_run.left in
        let q : IsLeft v size (first + length front) back back' both.second_result =
        subst (λ n. IsLeft v size (first + n) back back' both.second_result) (sym long)
        (subst (λ w. IsLeft w size (first + at) back back' both.second_result) high_value both.second_run.left) in
        let behind : CallsTogether called (first + length front) (length back) high high' both.second_result =
        subst (λ m. CallsTogether called (first + m) (length back) high high' both.second_result) (sym long) both.second_run.calls in
        let n : length (front ++ back) ≡ length front + length back = length-append front back in
        let whole : MapsTogether value called size first (front ++ back) (front' ++ back') (low ++ high) (low' ++ high') r = record {
          left = subst (λ w. IsLeft w size first (front ++ back) (front' ++ back') r) (ap (value_of value) parts)
              (left-joined v size first cut.chunks front front' back back' both.first_result both.second_result r ready.some_in_chunk (long ∙ cut.whole) both.joins p q);
          calls = together-joined called first (length front) (length back) (length (front ++ back)) low low' high high' both.first_result both.second_result r n both.joins both.first_run.calls behind;
          value_stays = map-append value low' high' ∙ (λ i. both.first_run.value_stays i ++ both.second_run.value_stays i) ∙ sym (map-append value low high);
        } in
        subst (λ l. MapsTogether value called size first l (front' ++ back') functions (low' ++ high') r) (sym is)
        (subst (λ fs. MapsTogether value called size first (front ++ back) (front' ++ back') fs (low' ++ high') r) (sym parts) whole)
