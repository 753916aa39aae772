-- What was offered and taken is folded, in hand, or waits.
use Rattle.std.proofs.Common.{◌≡◌, ℕ, zero, suc, ◌+◌, ◌<◌, Bool, true, false, List, [], ◌∷◌, ◌++◌, map, length, get_or, remove, cond, flat_map, is_some, IsSome, Result, Ok, Err, sym, subst, ap, ◌∙◌, arith}
use Rattle.std.specs.List.{FoldsTo}
use Rattle.std.proofs.lemmas.Bool.{and_parts}
use Rattle.std.proofs.lemmas.List.{append-nil, map-append}
use Rattle.qtc_base.specs.Ranges.{Tiles, bounds_of, in_range, times_covered}
use Rattle.qtc_base.specs.declared.memory.NoMemory.{NoMemory}
use Rattle.qtc_base.specs.declared.ranges.Range.{Range}
use Rattle.qtc_reduce.specs.declared.answers.Offer.{Offer}
use Rattle.qtc_reduce.specs.declared.answers.Next.{Next}
use Rattle.qtc_reduce.specs.declared.answers.Offer.TheVariants.{Stored, Yours, Closed}
use Rattle.qtc_reduce.specs.declared.answers.Next.TheVariants.{Done, More}
use Rattle.qtc_reduce.specs.declared.blocks.Block.{Block}
use Rattle.qtc_reduce.specs.Blocks.{bounds, may_be_next}
use Rattle.qtc_reduce.specs.Core.{Core, is_next, listed, new_core, ranges_of}
use Rattle.qtc_reduce.specs.Steps.{IsGivenBack, IsOffered, back_home, gone_on, handed_out, stored_with}
use Rattle.qtc_reduce.specs.Inside.{IsSound}
use Rattle.qtc_reduce.specs.Laws.{AllIsFolded, AreSome, Does, Told, give_back, offer, taken_by}
use Rattle.qtc_reduce.proofs.Covering.{covered-append, covered-cons}
use Rattle.qtc_reduce.proofs.Sound.{closed_sound, gone_sound, handed_sound, home_sound, new_sound, nobody, not_true, stored_sound, true_false}
use Rattle.qtc_reduce.proofs.Waiting.{none_waits}

abbrev counted : ℕ → ℕ × ℕ → ℕ
counted number range = cond (in_range number range) 1 0

-- how often the blocks have a number, without the one at a place
covered-remove : (blocks : List Block) (place : ℕ) (block : Block) (number : ℕ) → place < length blocks → get_or blocks place block ≡ block
    → times_covered (map bounds blocks) number
    ≡ times_covered (map bounds (remove blocks place)) number + cond (in_range number (bounds block)) 1 0
covered-remove [] place block number low there = absurd (omega arith)
covered-remove (first ∷ blocks) zero block number low there =
    let cons = covered-cons (bounds first) (map bounds blocks) number in
    let same : counted number (bounds first) ≡ counted number (bounds block) = ap (λ b. counted number (bounds b)) there in
    omega (arith, cons, same)
covered-remove (first ∷ blocks) (suc place) block number low there =
    let cons = covered-cons (bounds first) (map bounds blocks) number in
    let less = covered-cons (bounds first) (map bounds (remove blocks place)) number in
    let rest = covered-remove blocks place block number (omega arith) there in
    omega (arith, cons, less, rest)

-- one range more at the end of a list of ranges
covered-more : (ranges : List Range) (range : Range) (number : ℕ)
    → times_covered (map bounds_of (ranges ++ range ∷ [])) number
    ≡ times_covered (map bounds_of ranges) number + cond (in_range number (bounds_of range)) 1 0
covered-more ranges range number =
    let parts : map bounds_of (ranges ++ range ∷ []) ≡ map bounds_of ranges ++ bounds_of range ∷ [] = map-append bounds_of ranges (range ∷ []) in
    let all = ap (λ l. times_covered l number) parts in
    let split = covered-append (map bounds_of ranges) (bounds_of range ∷ []) number in
    let last = covered-cons (bounds_of range) [] number in
    omega (arith, all, split, last)

covered-block : (blocks : List Block) (block : Block) (number : ℕ)
    → times_covered (map bounds (blocks ++ block ∷ [])) number
    ≡ times_covered (map bounds blocks) number + cond (in_range number (bounds block)) 1 0
covered-block blocks block number =
    let all = ap (λ l. times_covered l number) (map-append bounds blocks (block ∷ [])) in
    let split = covered-append (map bounds blocks) (bounds block ∷ []) number in
    let last = covered-cons (bounds block) [] number in
    omega (arith, all, split, last)

one_covered : (range : ℕ × ℕ) (number : ℕ) → times_covered (range ∷ []) number ≡ cond (in_range number range) 1 0
one_covered range number = let cons = covered-cons range [] number in omega (arith, cons)

same_tiles : (ranges others : List (ℕ × ℕ)) (n : ℕ) → ((number : ℕ) → times_covered ranges number ≡ times_covered others number)
    → Tiles others n → Tiles ranges n
same_tiles ranges others n same tiles = record {
  once = λ number low. same number ∙ tiles.once number low;
  none = λ number high. same number ∙ tiles.none number high;
}

module _ {A : Type 0} where
  both : (core : Core A) (number : ℕ)
      → times_covered (ranges_of core) number
      ≡ times_covered (map bounds_of (core.folded ++ listed core.hand)) number + times_covered (map bounds core.stored) number
  both core number = covered-append (map bounds_of (core.folded ++ listed core.hand)) (map bounds core.stored) number

  handed_covers : (core : Core A) (block : Block) (number : ℕ) → listed core.hand ≡ []
      → times_covered (ranges_of (handed_out block core)) number ≡ times_covered (ranges_of core) number + times_covered (bounds block ∷ []) number
  handed_covers core block number idle =
      let new = both (handed_out block core) number in
      let old = both core number in
      let more = covered-more core.folded block.range number in
      let same : core.folded ++ listed core.hand ≡ core.folded = ap (λ l. core.folded ++ l) idle ∙ append-nil core.folded in
      let was = ap (λ l. times_covered (map bounds_of l) number) same in
      let one = one_covered (bounds block) number in
      omega (arith, new, old, more, was, one)

  stored_covers : (core : Core A) (block : Block) (number : ℕ)
      → times_covered (ranges_of (stored_with block core)) number ≡ times_covered (ranges_of core) number + times_covered (bounds block ∷ []) number
  stored_covers core block number =
      let new = both (stored_with block core) number in
      let old = both core number in
      let more = covered-block core.stored block number in
      let one = one_covered (bounds block) number in
      omega (arith, new, old, more, one)

  home_covers : (core : Core A) (acc : A) (number : ℕ)
      → times_covered (ranges_of (back_home acc core)) number ≡ times_covered (ranges_of core) number
  home_covers core acc number =
      ap (λ l. times_covered (map bounds_of l ++ map bounds core.stored) number) (append-nil (core.folded ++ listed core.hand))

  gone_covers : (core : Core A) (place : ℕ) (block : Block) (number : ℕ) → place < length core.stored → get_or core.stored place block ≡ block
      → times_covered (ranges_of (gone_on place block core)) number ≡ times_covered (ranges_of core) number
  gone_covers core place block number low there =
      let new = both (gone_on place block core) number in
      let old = both core number in
      let more = covered-more (core.folded ++ listed core.hand) block.range number in
      let less = covered-remove core.stored place block number low there in
      omega (arith, new, old, more, less)

  -- one call: the core stays sound, and the ranges that it has are those that it had and the one that it took, unless it is closed
  record Stays (core new : Core A) (taken : List (ℕ × ℕ)) : Type 0 where
    sound : IsSound new
    open_ : new.closed ≡ false → core.closed ≡ false
    ranges : new.closed ≡ false → (number : ℕ)
        → times_covered (ranges_of new) number ≡ times_covered (ranges_of core) number + times_covered taken number

  same_stays : (core : Core A) → IsSound core → Stays core core []
  same_stays core sound = record { sound = sound; open_ = λ e. e; ranges = λ _ number. omega arith }

  offer_stays : (core new : Core A) (block : Block) (answer : Result (Offer A) NoMemory) → IsSound core → block.range.begin < block.range.end
      → IsOffered block core new answer → Stays core new (taken_by (offer block answer))
  offer_stays core new block (Err error) sound some is = subst (λ n. Stays core n []) (sym is.err) (same_stays core sound)
  offer_stays core new block (Ok Closed) sound some is = subst (λ n. Stays core n []) (sym is.answer.1) (same_stays core sound)
  offer_stays core new block (Ok (Stored many)) sound some is =
      subst (λ n. Stays core n (bounds block ∷ [])) (sym is.answer.2) (record {
        sound = stored_sound core block sound is.answer.1 some;
        open_ = λ e. e;
        ranges = λ _ number. stored_covers core block number;
      })
  offer_stays core new block (Ok (Yours acc back)) sound some is =
      let home = (and_parts (is_some core.home) (is_next core block) is.answer.1).0 in
      let idle = nobody core.hand (not_true (is_some core.hand) (sym sound.one ∙ home)) in
      subst (λ n. Stays core n (bounds block ∷ [])) (sym is.answer.4) (record {
        sound = handed_sound core block sound is.answer.0 is.answer.1;
        open_ = λ e. e;
        ranges = λ _ number. handed_covers core block number idle;
      })

  back_stays : (core new : Core A) (acc : A) (whole : Bool) (answer : Next A) → IsSound core → IsSome core.hand
      → IsGivenBack acc whole core new answer → Stays core new []
  back_stays core new acc true Done sound some is =
      subst (λ n. Stays core n []) (sym (is.goes_on).1) (record {
        sound = home_sound core acc sound (is.goes_on).0;
        open_ = λ e. e;
        ranges = λ _ number. let same = home_covers core acc number in omega (arith, same);
      })
  back_stays core new acc true (More back block) sound some is =
      let on = (is.goes_on).1 in
      let may : may_be_next core.ordered core.progress block ≡ true =
      subst (λ b. may_be_next core.ordered core.progress b ≡ true) on.2 (on.1.first block).0 in
      subst (λ n. Stays core n []) (sym on.3) (record {
        sound = gone_sound core on.0 block sound some may;
        open_ = λ e. e;
        ranges = λ _ number. let same = gone_covers core on.0 block number on.1.below on.2 in omega (arith, same);
      })
  back_stays core new acc false answer sound some is =
      subst (λ n. Stays core n []) (sym (is.unfinished).1) (record {
        sound = closed_sound core acc sound;
        open_ = λ e. absurd (true_false e);
        ranges = λ e. absurd (true_false e);
      })

  all_stay : (calls : List (Told A)) (core last : Core A) → IsSound core → FoldsTo Does core calls last → AreSome calls
      → Stays core last (flat_map taken_by calls)
  all_stay [] core last sound told some = subst (λ c. Stays core c []) told (same_stays core sound)
  all_stay (offer block answer ∷ calls) core last sound told some =
      let first = offer_stays core told.0 block answer sound some.0 told.1 in
      let rest = all_stay calls told.0 last first.sound told.2 some.1 in
      record {
        sound = rest.sound;
        open_ = λ e. first.open_ (rest.open_ e);
        ranges = λ e number.
            let here = first.ranges (rest.open_ e) number in
            let then = rest.ranges e number in
            let all = covered-append (taken_by (offer block answer)) (flat_map taken_by calls) number in
            omega (arith, here, then, all);
      }
  all_stay (give_back acc whole answer ∷ calls) core last sound told some =
      let first = back_stays core told.0 acc whole answer sound told.1.0 told.1.1 in
      let rest = all_stay calls told.0 last first.sound told.2 some in
      record {
        sound = rest.sound;
        open_ = λ e. first.open_ (rest.open_ e);
        ranges = λ e number.
            let here = first.ranges (rest.open_ e) number in
            let then = rest.ranges e number in
            omega (arith, here, then);
      }

pub all_is_folded : {A : Type 0} → AllIsFolded A
all_is_folded first ordered workers calls last n told some tiles going home =
    let start = new_core ordered workers first in
    let stays = all_stay calls start last (new_sound ordered workers first) told some in
    let same = stays.ranges going in
    let whole : Tiles (ranges_of last) n =
    same_tiles (ranges_of last) (flat_map taken_by calls) n (λ number. let all = same number in omega (arith, all)) tiles in
    let none = none_waits last stays.sound home going n whole in
    let idle = nobody last.hand (not_true (is_some last.hand) (sym stays.sound.one ∙ home)) in
    let listed_all : ranges_of last ≡ map bounds_of last.folded =
    ap (λ s. map bounds_of (last.folded ++ listed last.hand) ++ map bounds s) none
    ∙ append-nil (map bounds_of (last.folded ++ listed last.hand))
    ∙ ap (λ l. map bounds_of (last.folded ++ l)) idle
    ∙ ap (map bounds_of) (append-nil last.folded) in
    (none, subst (λ l. Tiles l n) listed_all whole)
