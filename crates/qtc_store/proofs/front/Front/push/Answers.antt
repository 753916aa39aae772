use Rattle.std.proofs.Common.{◌≡◌, ◌∷◌, [], ◌++◌, is_ok, if◌then◌else◌, length, ap, sym, ◌∙◌, subst, arith}
use Rattle.std.specs.List.{flat_map}
use Rattle.qtc_store.specs.Batches.{values_of}
use Rattle.qtc_store.specs.Visible.{meeting_end}
use Rattle.qtc_store.specs.Inside.{AreMet, AreFirsts, met_in, batches_of}
use Rattle.qtc_store.proofs.FrontLemmas.{met_push, met_end_push, batches_push, values_len_push, firsts_push}
use Rattle.qtc_store.proofs.front.Front.push.Goals as goal

pub returns-clause-laid : goal.returns-clause-laid
returns-clause-laid g c =
    let laid = c.requires.laid in
    let old = c.args.self.now in
    let b = c.args.batch in
    let items : c.push.new.self.items ≡ old.met.items ++ record { first = old.count; batch = b } ∷ [] = c.push.ensures.items ∙ ap (λ r. if is_ok r then old.met.items ++ record { first = old.count; batch = b } ∷ [] else old.met.items) c.unwrap.ensures in
    let met : batches_of c.push.new.self.items ≡ met_in old ++ b ∷ [] = ap batches_of items ∙ batches_push old.met.items (record { first = old.count; batch = b }) in
    let begins : b.begin ≡ meeting_end 0 (met_in old) = c.requires.meets ∙ laid.place in
    let len = ap length c.as_slice.ensures in
    record {
      met = subst (AreMet 0) (sym met) (met_push 0 (met_in old) b laid.met begins);
      firsts = subst (AreFirsts 0) (sym items) (firsts_push 0 old.met.items (record { first = old.count; batch = b }) laid.firsts (omega (arith, laid.count)));
      place = sym (ap (meeting_end 0) met ∙ met_end_push 0 (met_in old) b laid.met begins);
      count = omega (arith, ap (λ xs. length (flat_map values_of xs)) met, values_len_push (met_in old) b, laid.count, len);
      few = omega (arith, laid.few, len, c.requires.few, c.requires.meets);
      bounded = c.requires.bounded;
    }
