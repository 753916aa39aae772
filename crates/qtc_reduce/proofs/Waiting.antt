-- Where all that was offered tiles and the accumulator is home, no block waits.
use Rattle.std.proofs.Common.{◌≡◌, ℕ, zero, suc, ◌+◌, ◌<◌, ◌≤◌, Bool, true, false, not, ◌||◌, cond, List, [], ◌∷◌, ◌++◌, map, length, get_or, is_some, sym, subst, ap, ◌∙◌, refl, arith, eqb, eq-eqb, ltb, ltb-true}
use Rattle.std.proofs.lemmas.Bool.{ltb-false}
use Rattle.qtc_base.specs.Ranges.{Tiles, bounds_of, in_range, times_covered}
use Rattle.qtc_reduce.specs.declared.blocks.Block.{Block}
use Rattle.qtc_reduce.specs.Blocks.{begin_of, bounds}
use Rattle.qtc_reduce.specs.Core.{Core, is_next, listed, ranges_of}
use Rattle.qtc_reduce.specs.Inside.{IsSound}
use Rattle.qtc_reduce.proofs.Covering.{covered-append, covered-cons, of_within, within}

-- a block has the number
pub covers : (blocks : List Block) (k : ℕ) (d : Block) (number : ℕ) → k < length blocks
    → in_range number (bounds (get_or blocks k d)) ≡ true → 0 < times_covered (map bounds blocks) number
covers [] k d number low is = absurd (omega arith)
covers (block ∷ blocks) zero d number low is =
    let cons = covered-cons (bounds block) (map bounds blocks) number in
    let one : ℕ = 1 in
    let here : cond (in_range number (bounds block)) 1 0 ≡ one = ap (λ b. cond b 1 0) is in
    omega (arith, cons, here)
covers (block ∷ blocks) (suc k) d number low is =
    let cons = covered-cons (bounds block) (map bounds blocks) number in
    let rest = covers blocks k d number (omega arith) is in
    omega (arith, cons, rest)

abbrev Covering : List Block → ℕ → Type 0
Covering blocks number = (k : ℕ) × (k < length blocks) × ((d : Block) → in_range number (bounds (get_or blocks k d)) ≡ true)

by_first : (block : Block) (blocks : List Block) (number : ℕ) → 0 < times_covered (map bounds (block ∷ blocks)) number
    → (0 < times_covered (map bounds blocks) number → Covering blocks number)
    → (b : Bool) → in_range number (bounds block) ≡ b → Covering (block ∷ blocks) number
by_first block blocks number some rest true e = (0, omega arith, λ d. e)
by_first block blocks number some rest false e =
    let cons = covered-cons (bounds block) (map bounds blocks) number in
    let nothing : ℕ = 0 in
    let here : cond (in_range number (bounds block)) 1 0 ≡ nothing = ap (λ b. cond b 1 0) e in
    let found = rest (omega (arith, cons, here)) in
    (suc found.0, (let low = found.1 in omega arith), λ d. found.2 d)

-- which block has it
pub covering : (blocks : List Block) (number : ℕ) → 0 < times_covered (map bounds blocks) number
    → (k : ℕ) × (k < length blocks) × ((d : Block) → in_range number (bounds (get_or blocks k d)) ≡ true)
covering [] number some = absurd (omega arith)
covering (block ∷ blocks) number some = by_first block blocks number some (covering blocks number) (in_range number (bounds block)) refl

module _ {A : Type 0} (core : Core A) (sound : IsSound core) (home : is_some core.home ≡ true) (going : core.closed ≡ false)
    (n : ℕ) (tiles : Tiles (ranges_of core) n) where
  abbrev folded : List (ℕ × ℕ)
  folded = map bounds_of (core.folded ++ listed core.hand)

  abbrev waiting : List (ℕ × ℕ)
  waiting = map bounds core.stored

  together : (number : ℕ) → times_covered (ranges_of core) number ≡ times_covered folded number + times_covered waiting number
  together number = covered-append folded waiting number

  at_most_one : (number : ℕ) → times_covered (ranges_of core) number ≤ 1
  at_most_one number = by (ltb number n) refl
    where
      by : (b : Bool) → ltb number n ≡ b → times_covered (ranges_of core) number ≤ 1
      by true e = let once = tiles.once number (ltb-true number n e) in omega (arith, once)
      by false e = let none = tiles.none number (ltb-false number n e) in omega (arith, none)

  -- what waits begins at the progress or past it
  not_below : core.ordered ≡ true → (number : ℕ) → 0 < times_covered waiting number → core.progress ≤ number
  not_below ordered number some = by (ltb number core.progress) refl
    where
      by : (b : Bool) → ltb number core.progress ≡ b → core.progress ≤ number
      by true e =
          let once = (sound.tiled going ordered).once number (ltb-true number core.progress e) in
          let all = together number in
          let few = at_most_one number in
          absurd (omega (arith, once, all, few, some))
      by false e = ltb-false number core.progress e

  own_begin : (k : ℕ) (d : Block) → k < length core.stored → 0 < times_covered waiting (begin_of (get_or core.stored k d))
  own_begin k d low =
      let block = get_or core.stored k d in
      covers core.stored k d (begin_of block) low (within (begin_of block) (bounds block) (omega arith) (sound.some k d low))

  in_order : core.ordered ≡ true → (b : Block) → 0 < length core.stored → ⊥
  in_order ordered b some =
      let first = begin_of (get_or core.stored 0 b) in
      let there = own_begin 0 b some in
      let low = not_below ordered first there in
      let less : core.progress < n = by first low there (ltb first n) refl in
      let once = tiles.once core.progress less in
      let none = (sound.tiled going ordered).none core.progress (omega arith) in
      let all = together core.progress in
      let found = covering core.stored core.progress (omega (arith, once, none, all)) in
      let block = get_or core.stored found.0 b in
      let up = (of_within core.progress (bounds block) (found.2 b)).0 in
      let down = not_below ordered (begin_of block) (own_begin found.0 b found.1) in
      let same : begin_of block ≡ core.progress = omega (arith, up, down) in
      let no = sound.still going home found.0 b found.1 in
      let yes : is_next core block ≡ true =
      ap (λ o. not o || eqb (begin_of block) core.progress) ordered ∙ eq-eqb _ _ same in
      true_false (sym yes ∙ no)
    where
      true_false : true ≡ false → ⊥
      true_false e = cc

      by : (number : ℕ) → core.progress ≤ number → 0 < times_covered waiting number → (b : Bool) → ltb number n ≡ b → core.progress < n
      by number low there true e = let less = ltb-true number n e in omega (arith, less, low)
      by number low there false e =
          let none = tiles.none number (ltb-false number n e) in
          let all = together number in
          absurd (omega (arith, none, all, there))

  not_in_order : core.ordered ≡ false → (b : Block) → 0 < length core.stored → ⊥
  not_in_order ordered b some =
      let no = sound.still going home 0 b some in
      let yes : is_next core (get_or core.stored 0 b) ≡ true =
      ap (λ o. not o || eqb (begin_of (get_or core.stored 0 b)) core.progress) ordered in
      true_false (sym yes ∙ no)
    where
      true_false : true ≡ false → ⊥
      true_false e = cc

  pub none_waits : core.stored ≡ []
  none_waits = by core.stored refl
    where
      both : (b : Bool) → core.ordered ≡ b → (d : Block) → 0 < length core.stored → ⊥
      both true e = in_order e
      both false e = not_in_order e

      by : (blocks : List Block) → core.stored ≡ blocks → core.stored ≡ []
      by [] e = e
      by (b ∷ bs) e = absurd (both core.ordered refl b (subst (λ s. 0 < length s) (sym e) (omega arith)))
