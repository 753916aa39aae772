-- What holds of two lists, one behind the other, where it holds of each.
use Rattle.std.proofs.Common.{◌≡◌, ℕ, ◌+◌, ◌*◌, ◌<◌, ◌≤◌, List, [], ◌++◌, length, take, inl, inr, sym, ap, subst, ◌∙◌, arith, length-append}
use Rattle.std.specs.Prelude.{◌≢◌, Result, Ok, Err, OnOk}
use Rattle.std.specs.List.{AllZip}
use Rattle.std.proofs.Math.Seq.{take-append-add}
use Rattle.std.proofs.lemmas.List.{get_or_append_left, get_or-append-add, take_at, drop_at, take-append-le}
use Rattle.std.proofs.lemmas.List.Elements.{All-append, filter_map-append}
use Rattle.rayon.specs.Lists.{chunks_of}
use Rattle.rayon.proofs.Chunks.{chunks-cut}
use Rattle.rayon.proofs.ListFacts.{AllZip-append, AllZip-weaken}
use Rattle.qtc_ops.specs.ItemValue.{ItemValue, bad}
use Rattle.qtc_inplace.specs.Chunks.{ChunkLeft, ChunksLeft}
use Rattle.qtc_inplace.specs.Inside.{IsLeft, JoinsBoth, TellsBadFrom}
use Rattle.qtc_inplace.specs.Lists.{IsLeastBad, mapped, NoneBad, text_of}
use Rattle.qtc_inplace.specs.declared.faults.InPlaceFault.{InPlaceFault}
use Rattle.qtc_inplace.specs.declared.faults.InPlaceFault.TheVariants.{Bad, Memory}

-- ---- bad members

module _ (value : List ℕ → ItemValue) where
  pub least-front : (front back : List (List ℕ)) (offset : ℕ) → IsLeastBad value front offset → IsLeastBad value (front ++ back) offset
  least-front front back offset h = record {
    within = omega (arith, h.within, length-append front back);
    is = ap value (get_or_append_left front back [] offset h.within) ∙ h.is;
    least = let low : offset ≤ length front = omega (arith, h.within) in subst (NoneBad value) (sym (take-append-le offset front back low)) h.least;
  }

  pub least-behind : (front back : List (List ℕ)) (offset : ℕ) → NoneBad value front → IsLeastBad value back offset → IsLeastBad value (front ++ back) (length front + offset)
  least-behind front back offset good h = record {
    within = omega (arith, h.within, length-append front back);
    is = ap value (get_or-append-add front back offset []) ∙ h.is;
    least = subst (NoneBad value) (sym (take-append-add front back offset)) (All-append (λ member. value member ≢ bad) front (take offset back) good h.least);
  }

  pub tells-joined : {X Y Z : Type 0} (first : ℕ) (front back : List (List ℕ)) (a : Result X InPlaceFault) (b : Result Y InPlaceFault) (r : Result Z InPlaceFault)
      → JoinsBoth a b r → TellsBadFrom first value front a → TellsBadFrom (first + length front) value back b → TellsBadFrom first value (front ++ back) r
  tells-joined first front back (Ok x) (Ok y) (Ok z) j p q = All-append (λ member. value member ≢ bad) front back p q
  tells-joined first front back (Ok x) (Err f) (Ok z) j p q = absurd (let no = j.1 in cc)
  tells-joined first front back (Err e) b (Ok z) j p q = absurd (let no = j.0 in cc)
  tells-joined first front back (Ok x) (Ok y) (Err (Bad index)) (inl j) p q = absurd j.0
  tells-joined first front back (Ok x) (Err f) (Err (Bad index)) (inl j) p q = absurd j.0
  tells-joined first front back (Err (Bad at)) b (Err (Bad index)) (inl j) p q = (p.0, sym j.0 ∙ p.1, least-front front back p.0 p.2)
  tells-joined first front back (Err Memory) b (Err (Bad index)) (inl j) p q = absurd j.0
  tells-joined first front back (Ok x) (Ok y) (Err (Bad index)) (inr j) p q = absurd j.1
  tells-joined first front back (Ok x) (Err (Bad at)) (Err (Bad index)) (inr j) p q =
      (length front + q.0, omega (arith, j.1, q.1), least-behind front back q.0 p q.2)
  tells-joined first front back (Ok x) (Err Memory) (Err (Bad index)) (inr j) p q = absurd j.1
  tells-joined first front back (Err e) b (Err (Bad index)) (inr j) p q = absurd (let no = j.0 in cc)
  tells-joined first front back a b (Err Memory) j p q = tt

  -- ---- chunks

  pub chunk-front : {X Y Z : Type 0} (a : Result X InPlaceFault) (b : Result Y InPlaceFault) (r : Result Z InPlaceFault)
      → JoinsBoth a b r → (old new : List (List ℕ)) → ChunkLeft value a old new → ChunkLeft value r old new
  chunk-front (Ok x) b (Ok z) j old new h = h
  chunk-front (Err e) b (Ok z) j old new h = absurd (let no = j.0 in cc)
  chunk-front (Ok x) b (Err (Bad index)) j old new h = inl h
  chunk-front (Err (Bad at)) b (Err (Bad index)) j old new h = h
  chunk-front (Err Memory) b (Err (Bad index)) (inl j) old new h = absurd j.0
  chunk-front (Err Memory) b (Err (Bad index)) (inr j) old new h = absurd (let no = j.0 in cc)
  chunk-front (Ok x) b (Err Memory) j old new h = inl h
  chunk-front (Err (Bad at)) b (Err Memory) j old new (inl h) = inl h
  chunk-front (Err (Bad at)) b (Err Memory) j old new (inr h) = inr h.1
  chunk-front (Err Memory) b (Err Memory) j old new h = h

  pub chunk-back : {X Y Z : Type 0} (a : Result X InPlaceFault) (b : Result Y InPlaceFault) (r : Result Z InPlaceFault)
      → JoinsBoth a b r → (old new : List (List ℕ)) → ChunkLeft value b old new → ChunkLeft value r old new
  chunk-back a (Ok y) (Ok z) j old new h = h
  chunk-back a (Err e) (Ok z) j old new h = absurd (let no = j.1 in cc)
  chunk-back a (Ok y) (Err (Bad index)) j old new h = inl h
  chunk-back a (Err (Bad at)) (Err (Bad index)) j old new h = h
  chunk-back a (Err Memory) (Err (Bad index)) (inl j) old new h = absurd j.1
  chunk-back a (Err Memory) (Err (Bad index)) (inr j) old new h = absurd j.1
  chunk-back a (Ok y) (Err Memory) j old new h = inl h
  chunk-back a (Err (Bad at)) (Err Memory) j old new (inl h) = inl h
  chunk-back a (Err (Bad at)) (Err Memory) j old new (inr h) = inr h.1
  chunk-back a (Err Memory) (Err Memory) j old new h = h

-- the chunks of two lists are those of both, where the first has whole chunks alone
pub chunks-append : {X : Type 0} (size i : ℕ) (front back : List X) → 0 < size → length front ≡ i * size → chunks_of size (front ++ back) ≡ chunks_of size front ++ chunks_of size back
chunks-append size i front back pos whole =
    sym (chunks-cut size pos i (front ++ back))
    ∙ (λ p. chunks_of size (take_at front back (i * size) whole p) ++ chunks_of size (drop_at front back (i * size) whole p))

module _ (value : List ℕ → ItemValue) where
  pub chunks-joined : {X Y Z : Type 0} (size i : ℕ) (front front' back back' : List (List ℕ)) (a : Result X InPlaceFault) (b : Result Y InPlaceFault) (r : Result Z InPlaceFault)
      → 0 < size → length front ≡ i * size → length front' ≡ length front → JoinsBoth a b r
      → ChunksLeft value size a front front' → ChunksLeft value size b back back' → ChunksLeft value size r (front ++ back) (front' ++ back')
  chunks-joined size i front front' back back' a b r pos whole same j p q =
      let R = ChunkLeft value r in
      let both : AllZip R (chunks_of size front ++ chunks_of size back) (chunks_of size front' ++ chunks_of size back') =
      AllZip-append R (chunks_of size front) (chunks_of size back) (chunks_of size front') (chunks_of size back')
      (AllZip-weaken (ChunkLeft value a) R (chunk-front value a b r j) (chunks_of size front) (chunks_of size front') p)
      (AllZip-weaken (ChunkLeft value b) R (chunk-back value a b r j) (chunks_of size back) (chunks_of size back') q) in
      let old = chunks-append size i front back pos whole in
      let new = chunks-append size i front' back' pos (same ∙ whole) in
      subst (λ xs. AllZip R xs (chunks_of size (front' ++ back'))) (sym old)
      (subst (λ ys. AllZip R (chunks_of size front ++ chunks_of size back) ys) (sym new) both)

  whole-joined : {X Y Z : Type 0} (front front' back back' : List (List ℕ)) (a : Result X InPlaceFault) (b : Result Y InPlaceFault) (r : Result Z InPlaceFault)
      → JoinsBoth a b r → OnOk a (front' ≡ mapped value front) → OnOk b (back' ≡ mapped value back) → OnOk r (front' ++ back' ≡ mapped value (front ++ back))
  whole-joined front front' back back' (Ok x) (Ok y) (Ok z) j p q = (λ i. p i ++ q i) ∙ sym (filter_map-append (λ member. text_of (value member)) front back)
  whole-joined front front' back back' (Ok x) (Err f) (Ok z) j p q = absurd (let no = j.1 in cc)
  whole-joined front front' back back' (Err e) b (Ok z) j p q = absurd (let no = j.0 in cc)
  whole-joined front front' back back' a b (Err fault) j p q = tt

  pub left-joined : {X Y Z : Type 0} (size first i : ℕ) (front front' back back' : List (List ℕ)) (a : Result X InPlaceFault) (b : Result Y InPlaceFault) (r : Result Z InPlaceFault)
      → 0 < size → length front ≡ i * size → JoinsBoth a b r
      → IsLeft value size first front front' a → IsLeft value size (first + length front) back back' b → IsLeft value size first (front ++ back) (front' ++ back') r
  left-joined size first i front front' back back' a b r pos whole j p q = record {
    whole = whole-joined front front' back back' a b r j p.whole q.whole;
    chunks = chunks-joined size i front front' back back' a b r pos whole p.len j p.chunks q.chunks;
    len = omega (arith, p.len, q.len, length-append front back, length-append front' back');
    tells = tells-joined value first front back a b r j p.tells q.tells;
  }
