use Rattle.std.proofs.Common.{length}
use Rattle.qtc_base.specs.Words.{words_left}
use Rattle.qtc_job.proofs.ManyLemmas.{IsReadTo}
use Rattle.qtc_job.proofs.places.read_many.Given as goal

abbrev pub invariant-loop-word : goal.invariant-loop-word
invariant-loop-word g l = IsReadTo (g.P.Place.codes l.place) (g.P.Place.meant l.place) (words_left l.initial.words) (words_left l.words) l.most l.count l.many.values l.many.code

abbrev pub decreases-loop-word : goal.decreases-loop-word
decreases-loop-word g l = length (words_left l.words)
