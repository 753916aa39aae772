use Rattle.std.proofs.Common.{◌∙◌, arith}
use Rattle.std.proofs.lemmas.Grind.{common_steps}
use Rattle.qtc_outside.proofs.WritingLemmas.{GotMore-more}
use Rattle.qtc_outside.proofs.writing.write_all.Goals as goal

pub loop-taken-preserved : goal.loop-taken-preserved
loop-taken-preserved g c =
    let kept = c.loop-taken.invariant in
    let wrote = c.in-Ok.ensures.ok in
    record {
      within = let le = wrote.within in grind (arith, common_steps);
      got = GotMore-more _ _ _ _ c.loop-taken.taken c.in-Ok.count kept.within kept.got wrote.takes.got;
      faults = wrote.takes.faults ∙ kept.faults;
    }
