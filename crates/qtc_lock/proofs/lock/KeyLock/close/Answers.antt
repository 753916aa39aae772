use Rattle.std.proofs.Common.{ap, subst, ◌∙◌, refl}
use mathlib.Core.Option.{some}
use Rattle.qtc_lock.proofs.Steps.{ends, ends_with}
use Rattle.qtc_lock.proofs.lock.KeyLock.close.Goals as goal

pub unwrap-value-requires : goal.unwrap-value-requires
unwrap-value-requires g c =
    let end = ends _ _ _ _ _ c.close-closed.ensures.values.2 (c.word.ensures ∙ ap some c.if-word-eq0.true) c.take.ensures.value in rw end.1 refl

pub returns-then-word-eq0 : goal.returns-then-word-eq0
returns-then-word-eq0 g c =
    let fits = ends_with _ _ _ _ _ c.close-closed.ensures.values.2 (c.word.ensures ∙ ap some c.if-word-eq0.true) (c.take.ensures.value ∙ ap some c.unwrap-value.ensures) in
    subst (λ l. g.S.Keyed.fits l.key c.unwrap-value.result) c.self.view_is fits
