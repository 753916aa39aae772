-- Each call leaves a reduction sound.
use Rattle.std.proofs.Common.{◌≡◌, ℕ, suc, ◌<◌, ◌≤◌, Bool, true, false, not, ◌||◌, ◌&&◌, List, [], ◌∷◌, ◌++◌, map, get_or, Option, Some, None, is_some, All, take, drop, remove, sym, subst, ap, ◌∙◌, refl, arith, eqb, eqb-true}
use Rattle.std.proofs.lemmas.Bool.{and_parts}
use Rattle.std.proofs.lemmas.List.{append-nil, map-append}
use Rattle.std.proofs.lemmas.List.Elements.{All-append, All-drop, All-take}
use Rattle.qtc_base.specs.Ranges.{Tiles, bounds_of}
use Rattle.qtc_base.specs.declared.ranges.Range.{Range}
use Rattle.qtc_reduce.specs.declared.blocks.Block.{Block}
use Rattle.qtc_reduce.specs.Blocks.{begin_of, may_be_next}
use Rattle.qtc_reduce.specs.Core.{Core, goes_out, is_next, listed, new_core}
use Rattle.qtc_reduce.specs.Steps.{back_home, closed_with, gone_on, handed_out, stored_with}
use Rattle.qtc_reduce.specs.Inside.{IsSound}
use Rattle.qtc_reduce.proofs.Covering.{tiles-more}

pub true_false : true ≡ false → ⊥
true_false e = cc

All-one : (P : Block → Type 0) (block : Block) → P block → All P (block ∷ [])
All-one P block is k d low = let here : k ≡ 0 = omega arith in subst (λ k. P (get_or (block ∷ []) k d)) (sym here) is

pub All-remove : (P : Block → Type 0) (blocks : List Block) (place : ℕ) → All P blocks → All P (remove blocks place)
All-remove P blocks place all =
    All-append P (take place blocks) (drop (suc place) blocks) (All-take P place blocks all) (All-drop P (suc place) blocks all)

pub not_true : (b : Bool) → not b ≡ true → b ≡ false
not_true true e = sym e
not_true false e = refl

abbrev Covers : Block → Type 0
Covers block = block.range.begin < block.range.end

pub nobody : (hand : Option Range) → is_some hand ≡ false → listed hand ≡ []
nobody None e = refl
nobody (Some range) e = absurd (true_false e)

-- a range more, from where the others end
tiled_on : (ranges : List Range) (range : Range) (progress : ℕ) → range.begin ≡ progress → Tiles (map bounds_of ranges) progress
    → Tiles (map bounds_of (ranges ++ range ∷ [])) range.end
tiled_on ranges range progress e tiles =
    let up : progress ≤ range.end = subst (λ m. m ≤ range.end) e range.ordered in
    let more = tiles-more (map bounds_of ranges) progress range.end up tiles in
    let moved = subst (λ m. Tiles (map bounds_of ranges ++ (m, range.end) ∷ []) range.end) (sym e) more in
    subst (λ l. Tiles l range.end) (sym (map-append bounds_of ranges (range ∷ []))) moved

pub next_begins : (ordered : Bool) (progress : ℕ) (block : Block) → ordered ≡ true → may_be_next ordered progress block ≡ true
    → begin_of block ≡ progress
next_begins ordered progress block is next =
    eqb-true (begin_of block) progress (subst (λ o. (not o || eqb (begin_of block) progress) ≡ true) is next)

module _ {A : Type 0} where
  pub new_sound : (ordered : Bool) (workers : ℕ) (first : A) → IsSound (new_core ordered workers first)
  new_sound ordered workers first = record {
    one = refl;
    closed = λ e. absurd (true_false (sym e));
    some = λ k d low. absurd (omega arith);
    still = λ _ _ k d low. absurd (omega arith);
    tiled = λ _ _. record { once = λ number low. absurd (omega arith); none = λ number high. refl };
  }

  pub handed_sound : (core : Core A) (block : Block) → IsSound core → core.closed ≡ false → goes_out core block ≡ true
      → IsSound (handed_out block core)
  handed_sound core block sound going out =
      let both = and_parts (is_some core.home) (is_next core block) out in
      let idle : is_some core.hand ≡ false = not_true (is_some core.hand) (sym sound.one ∙ both.0) in
      let none = nobody core.hand idle in
      record {
        one = refl;
        closed = λ e. absurd (true_false (sym e ∙ going));
        some = sound.some;
        still = λ _ e. absurd (true_false (sym e));
        tiled = λ _ ordered.
            let before = sound.tiled going ordered in
            let same : core.folded ++ listed core.hand ≡ core.folded = ap (λ l. core.folded ++ l) none ∙ append-nil core.folded in
            tiled_on core.folded block.range core.progress (next_begins core.ordered core.progress block ordered both.1)
            (subst (λ l. Tiles (map bounds_of l) core.progress) same before);
      }

  pub stored_sound : (core : Core A) (block : Block) → IsSound core → goes_out core block ≡ false
      → block.range.begin < block.range.end → IsSound (stored_with block core)
  stored_sound core block sound waits some = record {
    one = sound.one;
    closed = sound.closed;
    some = All-append Covers core.stored (block ∷ []) sound.some (All-one Covers block some);
    still = λ going home.
        All-append (λ b. is_next core b ≡ false) core.stored (block ∷ []) (sound.still going home)
        (All-one (λ b. is_next core b ≡ false) block (sym (ap (λ h. h && is_next core block) home) ∙ waits));
    tiled = sound.tiled;
  }

  pub home_sound : (core : Core A) (acc : A) → IsSound core → All (λ block. is_next core block ≡ false) core.stored
      → IsSound (back_home acc core)
  home_sound core acc sound none = record {
    one = refl;
    closed = λ _. refl;
    some = sound.some;
    still = λ _ _. none;
    tiled = λ going ordered.
        subst (λ l. Tiles (map bounds_of l) core.progress) (sym (append-nil (core.folded ++ listed core.hand))) (sound.tiled going ordered);
  }

  pub gone_sound : (core : Core A) (place : ℕ) (block : Block) → IsSound core → is_some core.hand ≡ true
      → may_be_next core.ordered core.progress block ≡ true → IsSound (gone_on place block core)
  gone_sound core place block sound out next =
      let away : is_some core.home ≡ false = sound.one ∙ ap not out in
      record {
        one = away;
        closed = sound.closed;
        some = All-remove Covers core.stored place sound.some;
        still = λ _ e. absurd (true_false (sym e ∙ away));
        tiled = λ going ordered.
            tiled_on (core.folded ++ listed core.hand) block.range core.progress (next_begins core.ordered core.progress block ordered next)
            (sound.tiled going ordered);
      }

  pub closed_sound : (core : Core A) (acc : A) → IsSound core → IsSound (closed_with acc core)
  closed_sound core acc sound = record {
    one = refl;
    closed = λ _. refl;
    some = sound.some;
    still = λ e. absurd (true_false e);
    tiled = λ e. absurd (true_false e);
  }
