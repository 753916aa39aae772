-- What one read behind a text does.
use Rattle.std.proofs.Common.{◌≡◌, ℕ, zero, suc, ◌+◌, ◌≤◌, ◌↔◌, List, [], ◌++◌, Option, Some, None, take, drop, length, cond, eqb, sym, ap, ◌∙◌, append_assoc, arith}
use Rattle.std.specs.Prelude.{IfSome, MatchOption}
use Rattle.std.proofs.lemmas.Bool.{ne_eqb}
use Rattle.std.proofs.lemmas.Grind.{common_steps}
use Rattle.std.proofs.lemmas.List.{take-append-drop, take-append-le}
use Rattle.std.proofs.Math.Seq.{take-append-add}
use Rattle.qtc_outside.specs.Source.{Source, Gives, GivesNext}
use Rattle.qtc_outside.specs.Loading.{ReadsOn}

-- what was read stands behind the old text once the room that is left over is cut off
pub tail-cut : (old into post rest new : List ℕ) (count whole : ℕ) → count ≤ length into → length old + count ≤ whole → new ≡ take (length old + count) (take whole ((old ++ (into ++ post)) ++ rest)) → new ≡ old ++ take count into
tail-cut old into post rest new count whole within fits is =
    let short : take (length old + count) (take whole ((old ++ (into ++ post)) ++ rest)) ≡ take (length old + count) ((old ++ (into ++ post)) ++ rest) = grind (arith, common_steps) in
    let front : take (length old + count) (old ++ ((into ++ post) ++ rest)) ≡ old ++ take count ((into ++ post) ++ rest) = take-append-add old ((into ++ post) ++ rest) count in
    let piece : take count (into ++ (post ++ rest)) ≡ take count into = take-append-le count into (post ++ rest) within in
    is ∙ (short ∙ (ap (take (length old + count)) (append_assoc old (into ++ post) rest) ∙ (front ∙ ap (λ s. old ++ s) (ap (take count) (append_assoc into post rest) ∙ piece))))

next-of : (left : Option (List ℕ)) (into : List ℕ) (count : ℕ) (after : Option (List ℕ)) → MatchOption left (after ≡ None) (λ bytes. GivesNext bytes into count after) → IfSome left (λ bytes. (others : List ℕ) × (after ≡ Some others) × (bytes ≡ take count into ++ others) × ((count ≡ 0) ↔ (bytes ≡ [])))
next-of None into count after g = tt
next-of (Some bytes) into count after g =
    (drop count bytes, g.others, sym (take-append-drop count bytes) ∙ ap (λ s. s ++ drop count bytes) (sym g.next), g.end)

chosen-on : (count : ℕ) (old new : Option (List ℕ)) → new ≡ cond (eqb count 0) None old → 1 ≤ count → new ≡ old
chosen-on zero old new is some = absurd (omega arith)
chosen-on (suc count) old new is some = rw (ne_eqb (suc count) 0 (λ e. omega arith)) at is

pub reads-on : (old new : Source) (before into after : List ℕ) (count : ℕ) → Gives old into count new → after ≡ before ++ take count into → ReadsOn old before count after new
reads-on old new before into after count g appended = record {
  piece = record {
    piece = take count into;
    appended = appended;
    counted = let within = g.within in grind (arith, common_steps);
    next = next-of old.rest into count new.rest g.next;
  };
  taken = g.taken;
  chosen = chosen-on count old.chosen new.chosen g.chosen;
  calm = g.calm;
}
