-- The accumulator is the fold of the texts of the listed ranges.
use Rattle.std.proofs.Common.{◌≡◌, ℕ, Bool, true, false, List, [], ◌∷◌, ◌++◌, map, fold, flat_map, Option, Some, None, is_some, IsSome, IfSome, Result, Ok, Err, sym, subst, ap, ◌∙◌, refl}
use Rattle.std.specs.List.{FoldsTo}
use Rattle.std.proofs.lemmas.Bool.{and_parts}
use Rattle.std.proofs.lemmas.List.{append-nil, map-append}
use Rattle.std.proofs.lemmas.Grind.{flat_map-append}
use Rattle.std.proofs.lemmas.List.Sums.{fold-append}
use Rattle.qtc_base.specs.declared.memory.NoMemory.{NoMemory}
use Rattle.qtc_base.specs.declared.ranges.Range.{Range}
use Rattle.qtc_reduce.specs.declared.answers.Offer.{Offer}
use Rattle.qtc_reduce.specs.declared.answers.Offer.TheVariants.{Stored, Yours, Closed}
use Rattle.qtc_reduce.specs.declared.answers.Next.{Next}
use Rattle.qtc_reduce.specs.declared.answers.Next.TheVariants.{Done, More}
use Rattle.qtc_reduce.specs.declared.blocks.Block.{Block}
use Rattle.qtc_reduce.specs.Blocks.{may_be_next, texts_of}
use Rattle.qtc_reduce.specs.Core.{Core, is_next, listed, new_core}
use Rattle.qtc_reduce.specs.Steps.{IsGivenBack, IsOffered, back_home, closed_with, gone_on}
use Rattle.qtc_reduce.specs.Laws.{AreWhole, Does, FoldsAreTold, FollowOn, IsReduced, IsWhole, Told, Track, give_back, next_out, nothing_out, offer, reduced, tracked}
use Rattle.qtc_reduce.proofs.Sound.{next_begins, true_false}

follow-more : (from : ℕ) (ranges : List Range) (middle : ℕ) (range : Range) → FollowOn from ranges middle → range.begin ≡ middle
    → FollowOn from (ranges ++ range ∷ []) range.end
follow-more from [] middle range e begins = (begins ∙ sym e, refl)
follow-more from (first ∷ ranges) middle range on begins = (on.0, follow-more first.end ranges middle range on.1 begins)

none_some : {X : Type 0} (o : Option X) → o ≡ None → is_some o ≡ true → ⊥
none_some o e is = true_false (sym is ∙ ap is_some e)

module _ {A : Type 0} (next : A → List ℕ → A) (first : A) where
  abbrev Keeps : Core A → Track A → Type 0
  Keeps core track = IsReduced next first core track

  -- one block more
  reduced-more : (blocks : List Block) (block : Block)
      → reduced next first (blocks ++ block ∷ []) ≡ fold next (reduced next first blocks) (texts_of block)
  reduced-more blocks block =
      ap (fold next first) (flat_map-append texts_of blocks (block ∷ []))
      ∙ fold-append next first (flat_map texts_of blocks) (texts_of block ++ [])
      ∙ ap (fold next (reduced next first blocks)) (append-nil (texts_of block))

  kept_offer : (core new : Core A) (track : Track A) (block : Block) (answer : Result (Offer A) NoMemory)
      → Keeps core track → IsOffered block core new answer → Keeps new (tracked track (offer block answer))
  kept_offer core new track block (Err error) kept is = subst (λ n. Keeps n track) (sym is.err) kept
  kept_offer core new track block (Ok Closed) kept is = subst (λ n. Keeps n track) (sym is.answer.1) kept
  kept_offer core new track block (Ok (Stored many)) kept is =
      subst (λ n. Keeps n track) (sym is.answer.2) (record {
        ranges = kept.ranges;
        home = kept.home;
        out = kept.out;
        in_hand = kept.in_hand;
        one = kept.one;
        in_order = kept.in_order;
      })
  kept_offer core new track block (Ok (Yours acc back)) kept is =
      let told = is.answer in
      let both = and_parts (is_some core.home) (is_next core block) told.1 in
      let idle = kept.one both.0 in
      let fold_is : acc ≡ reduced next first track.blocks =
      subst (λ home. IfSome home (λ acc. acc ≡ reduced next first track.blocks)) told.2 (kept.home told.0) in
      subst (λ n. Keeps n (record track { out = Some (acc, back) })) (sym told.4) (record {
        ranges = kept.ranges;
        home = λ _. tt;
        out = fold_is;
        in_hand = ap (λ (b : Block). Some b.range) (sym told.3);
        one = λ e. absurd (true_false (sym e));
        in_order = λ going ordered.
            let before = kept.in_order going ordered in
            let same : core.folded ++ listed core.hand ≡ core.folded = ap (λ h. core.folded ++ listed h) idle ∙ append-nil core.folded in
            follow-more 0 core.folded core.progress block.range (subst (λ l. FollowOn 0 l core.progress) same before)
            (next_begins core.ordered core.progress block ordered both.1);
      })

  if_none : (P : A → Type 0) (o : Option A) → (is_some o ≡ true → ⊥) → IfSome o P
  if_none P None never = tt
  if_none P (Some x) never = absurd (never refl)

  -- the block in hand is given back whole
  module _ (core : Core A) (blocks : List Block) (out : A × Block) (acc : A) (kept : Keeps core (record { out = Some out; blocks = blocks }))
      (whole : acc ≡ fold next out.0 (texts_of out.1)) where
    listed_now : core.folded ++ listed core.hand ≡ map (λ block. block.range) (blocks ++ out.1 ∷ [])
    listed_now =
        ap (λ f. f ++ listed core.hand) kept.ranges
        ∙ ap (λ h. map (λ (block : Block). block.range) blocks ++ listed h) kept.in_hand
        ∙ sym (map-append (λ (block : Block). block.range) blocks (out.1 ∷ []))

    folded_now : acc ≡ reduced next first (blocks ++ out.1 ∷ [])
    folded_now = whole ∙ ap (λ a. fold next a (texts_of out.1)) kept.out ∙ sym (reduced-more blocks out.1)

    kept_home : Keeps (back_home acc core) (record { out = None; blocks = blocks ++ out.1 ∷ [] })
    kept_home = record {
      ranges = listed_now;
      home = λ _. folded_now;
      out = tt;
      in_hand = refl;
      one = λ _. refl;
      in_order = λ going ordered.
          subst (λ l. FollowOn 0 l core.progress) (sym (append-nil (core.folded ++ listed core.hand))) (kept.in_order going ordered);
    }

    kept_on : (place : ℕ) (block : Block) (back : A) → back ≡ acc → may_be_next core.ordered core.progress block ≡ true
        → Keeps (gone_on place block core) (record { out = Some (back, block); blocks = blocks ++ out.1 ∷ [] })
    kept_on place block back same may = record {
      ranges = listed_now;
      home = λ _. if_none _ core.home (λ e. none_some core.hand (kept.one e) (ap is_some kept.in_hand));
      out = same ∙ folded_now;
      in_hand = refl;
      one = λ e. absurd (none_some core.hand (kept.one e) (ap is_some kept.in_hand));
      in_order = λ going ordered.
          follow-more 0 (core.folded ++ listed core.hand) core.progress block.range (kept.in_order going ordered)
          (next_begins core.ordered core.progress block ordered may);
    }

  kept_back : (core new : Core A) (blocks : List Block) (out : Option (A × Block)) (acc : A) (whole : Bool) (answer : Next A)
      → Keeps core (record { out = out; blocks = blocks }) → IsSome core.hand
      → IsWhole next (record { out = out; blocks = blocks }) (give_back acc whole answer)
      → IsGivenBack acc whole core new answer
      → Keeps new (tracked (record { out = out; blocks = blocks }) (give_back acc whole answer))
  kept_back core new blocks None acc whole answer kept some folded is = absurd (none_some core.hand kept.in_hand some)
  kept_back core new blocks (Some out) acc true Done kept some folded is =
      subst (λ n. Keeps n (record { out = None; blocks = blocks ++ out.1 ∷ [] })) (sym (is.goes_on).1)
      (kept_home core blocks out acc kept folded)
  kept_back core new blocks (Some out) acc true (More back block) kept some folded is =
      let on = is.goes_on in
      let may : may_be_next core.ordered core.progress block ≡ true =
      subst (λ b. may_be_next core.ordered core.progress b ≡ true) on.1.2 (on.1.1.first block).0 in
      subst (λ n. Keeps n (record { out = Some (back, block); blocks = blocks ++ out.1 ∷ [] })) (sym on.1.3)
      (kept_on core blocks out acc kept folded on.1.0 block back on.0 may)
  kept_back core new blocks (Some out) acc false answer kept some folded is =
      let closed = is.unfinished in
      let still : Keeps (closed_with acc core) (record { out = None; blocks = blocks ++ [] }) = record {
        ranges = kept.ranges ∙ ap (map (λ (block : Block). block.range)) (sym (append-nil blocks));
        home = λ e. absurd (true_false e);
        out = tt;
        in_hand = refl;
        one = λ _. refl;
        in_order = λ e. absurd (true_false e);
      } in
      subst (λ a. Keeps new (record { out = next_out a; blocks = blocks ++ [] })) (sym closed.0)
      (subst (λ n. Keeps n (record { out = None; blocks = blocks ++ [] })) (sym closed.1) still)

  kept_by : (core new : Core A) (track : Track A) (call : Told A) → Keeps core track → IsWhole next track call → Does core call new
      → Keeps new (tracked track call)
  kept_by core new track (offer block answer) kept whole is = kept_offer core new track block answer kept is
  kept_by core new track (give_back acc whole answer) kept folded is =
      kept_back core new track.blocks track.out acc whole answer kept is.0 folded is.1

  goes : (calls : List (Told A)) (core last : Core A) (track : Track A) → Keeps core track → FoldsTo Does core calls last
      → AreWhole next track calls → Keeps last (fold tracked track calls)
  goes [] core last track kept told whole = subst (λ c. Keeps c track) told kept
  goes (call ∷ calls) core last track kept told whole =
      goes calls told.0 last (tracked track call) (kept_by core told.0 track call kept whole.0 told.1) told.2 whole.1

pub folds_are_told : {A : Type 0} → FoldsAreTold A
folds_are_told next first ordered workers calls last told whole =
    goes next first calls (new_core ordered workers first) last nothing_out
    (record { ranges = refl; home = λ _. refl; out = tt; in_hand = refl; one = λ _. refl; in_order = λ _ _. refl })
    told whole
