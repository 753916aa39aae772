-- Calls that ascend.
use Rattle.std.proofs.Common.{◌≡◌, ℕ, zero, suc, ◌+◌, ◌≤◌, List, [], ◌∷◌, ◌++◌, sym, ap, subst, ◌∙◌, arith, append_assoc, append-nil}
use Rattle.std.specs.Prelude.{Result, Ok, Err}
use Rattle.std.specs.List.{concat, range_with_len}
use Rattle.std.proofs.lemmas.List.Folds.{concat-append}
use Rattle.qtc_inplace.specs.Calls.{Appends}
use Rattle.qtc_inplace.specs.Inside.{AreCalled, Ascends, CallsInTurn, CallsTogether, JoinsBoth}
use Rattle.qtc_inplace.specs.declared.faults.InPlaceFault.{InPlaceFault}

pub ascends-bounds : (low high : ℕ) (xs : List ℕ) → Ascends low xs high → low ≤ high
ascends-bounds low high [] h = h
ascends-bounds low high (x ∷ xs) h = omega (arith, ascends-bounds (x + 1) high xs h.2, h.0)

pub ascends-append : (low mid high : ℕ) (xs ys : List ℕ) → Ascends low xs mid → Ascends mid ys high → Ascends low (xs ++ ys) high
ascends-append low mid high [] [] a b = omega (arith, a, b)
ascends-append low mid high [] (y ∷ ys) a b = (omega (arith, a, b.0), b.1, b.2)
ascends-append low mid high (x ∷ xs) ys a b =
    (a.0, omega (arith, a.1, ascends-bounds mid high ys b), ascends-append (x + 1) mid high xs ys a.2 b)

pub range-ascends : (first n : ℕ) → Ascends first (range_with_len first n) (first + n)
range-ascends first zero = omega arith
range-ascends first (suc n) =
    let e : first + 1 + n ≡ first + suc n = omega arith in
    (omega arith, omega arith, subst (λ h. Ascends (first + 1) (range_with_len (first + 1) n) h) e (range-ascends (first + 1) n))

pub range-append : (first m n : ℕ) → range_with_len first (m + n) ≡ range_with_len first m ++ range_with_len (first + m) n
range-append first zero n =
    let a : zero + n ≡ n = omega arith in
    let b : first ≡ first + zero = omega arith in
    ap (range_with_len first) a ∙ ap (λ k. range_with_len k n) b
range-append first (suc m) n =
    let a : suc m + n ≡ suc (m + n) = omega arith in
    let b : first + 1 + m ≡ first + suc m = omega arith in
    ap (range_with_len first) a
    ∙ ap (λ xs. first ∷ xs) (range-append (first + 1) m n ∙ ap (λ k. range_with_len (first + 1) m ++ range_with_len k n) b)

module _ {X : Type 0} where
  pub are-ascending : (first n : ℕ) (result : Result X InPlaceFault) (added : List ℕ) → AreCalled first n result added → Ascends first added (first + n)
  are-ascending first n (Ok x) added h = subst (λ xs. Ascends first xs (first + n)) (sym h) (range-ascends first n)
  are-ascending first n (Err fault) added h = h

module _ {X Y Z : Type 0} where
  pub calls-joined : (first m n : ℕ) (a : Result X InPlaceFault) (b : Result Y InPlaceFault) (r : Result Z InPlaceFault) (xs ys : List ℕ)
      → JoinsBoth a b r → AreCalled first m a xs → AreCalled (first + m) n b ys → AreCalled first (m + n) r (xs ++ ys)
  calls-joined first m n (Ok x) (Ok y) (Ok z) xs ys j p q = (λ i. p i ++ q i) ∙ sym (range-append first m n)
  calls-joined first m n (Ok x) (Err f) (Ok z) xs ys j p q = absurd (let bad = j.1 in cc)
  calls-joined first m n (Err e) b (Ok z) xs ys j p q = absurd (let bad = j.0 in cc)
  calls-joined first m n a b (Err fault) xs ys j p q =
      let e : first + m + n ≡ first + (m + n) = omega arith in
      ascends-append first (first + m) (first + (m + n)) xs ys (are-ascending first m a xs p)
      (subst (λ h. Ascends (first + m) ys h) e (are-ascending (first + m) n b ys q))

  pub in-turn-joined : (first m n k : ℕ) (before between after : List ℕ) (a : Result X InPlaceFault) (b : Result Y InPlaceFault) (r : Result Z InPlaceFault)
      → k ≡ m + n → JoinsBoth a b r → CallsInTurn first m before between a → CallsInTurn (first + m) n between after b → CallsInTurn first k before after r
  in-turn-joined first m n k before between after a b r e j p q =
      subst (λ l. CallsInTurn first l before after r) (sym e) (record {
        added = p.added ++ q.added;
        appended = q.appended ∙ ap (λ xs. xs ++ q.added) p.appended ∙ append_assoc before p.added q.added;
        called = calls-joined first m n a b r p.added q.added j p.called q.called;
      })

module _ {F : Type 0} (called : F → List ℕ) where
  pub appends-append : (b1 a1 : List F) (x1 : List (List ℕ)) (b2 a2 : List F) (x2 : List (List ℕ))
      → Appends called b1 a1 x1 → Appends called b2 a2 x2 → Appends called (b1 ++ b2) (a1 ++ a2) (x1 ++ x2)
  appends-append [] [] [] b2 a2 x2 p q = q
  appends-append [] [] (x ∷ xs) b2 a2 x2 p q = absurd p
  appends-append [] (a ∷ az) x1 b2 a2 x2 p q = absurd p
  appends-append (b ∷ bs) [] x1 b2 a2 x2 p q = absurd p
  appends-append (b ∷ bs) (a ∷ az) [] b2 a2 x2 p q = absurd p
  appends-append (b ∷ bs) (a ∷ az) (x ∷ xs) b2 a2 x2 p q = (p.0, appends-append bs az xs b2 a2 x2 p.1 q)

  pub alone-together : {X : Type 0} (first n : ℕ) (old new : F) (result : Result X InPlaceFault)
      → CallsInTurn first n (called old) (called new) result → CallsTogether called first n (old ∷ []) (new ∷ []) result
  alone-together first n old new result h = record {
    added = h.added ∷ [];
    appended = (h.appended, tt);
    called = subst (λ xs. AreCalled first n result xs) (sym (append-nil h.added)) h.called;
  }

  pub together-joined : {X Y Z : Type 0} (first m n k : ℕ) (b1 a1 b2 a2 : List F) (a : Result X InPlaceFault) (b : Result Y InPlaceFault) (r : Result Z InPlaceFault)
      → k ≡ m + n → JoinsBoth a b r → CallsTogether called first m b1 a1 a → CallsTogether called (first + m) n b2 a2 b → CallsTogether called first k (b1 ++ b2) (a1 ++ a2) r
  together-joined first m n k b1 a1 b2 a2 a b r e j p q =
      subst (λ l. CallsTogether called first l (b1 ++ b2) (a1 ++ a2) r) (sym e) (record {
        added = p.added ++ q.added;
        appended = appends-append b1 a1 p.added b2 a2 q.added p.appended q.appended;
        called = subst (λ xs. AreCalled first (m + n) r xs) (sym (concat-append p.added q.added))
            (calls-joined first m n a b r (concat p.added) (concat q.added) j p.called q.called);
      })
