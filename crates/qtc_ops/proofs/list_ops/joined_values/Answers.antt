use Rattle.std.proofs.Common.{◌≡◌, ◌++◌, ◌+◌, ◌<◌, ap, sym, ◌∙◌, length, take, get_or, List, ℕ, []}
use Rattle.std.proofs.lemmas.List.{flat_map_more, get_or_read, take_more}
use Rattle.std.proofs.lemmas.List.Concat.{concat_is}
use Rattle.std.specs.List.{concat, flat_map}
use Rattle.qtc_ops.proofs.list_ops.joined_values.Goals as goal

concat-more : (xs : List (List ℕ)) (i : ℕ) → i < length xs → concat (take (i + 1) xs) ≡ concat (take i xs) ++ get_or xs i []
concat-more xs i lt =
    concat_is (take (i + 1) xs)
    ∙ (ap (flat_map (λ x. x)) (take_more xs i [] lt) ∙ (sym (flat_map_more (λ x. x) [] (take i xs) (get_or xs i [])) ∙ ap (λ s. s ++ get_or xs i []) (sym (concat_is (take i xs)))))

pub loop-value-preserved : goal.loop-value-preserved
loop-value-preserved c =
    let i = c.loop-value.invariant in
    let item : c.value-item.result ≡ get_or c.args.values.now c.loop-value.value-index [] = get_or_read c.args.values.now c.loop-value.value-index c.value-item.result c.loop-value-test.true c.value-item.is [] in
    let more = concat-more c.args.values.now c.loop-value.value-index c.loop-value-test.true in
    let a = c.in_ok-append.ensures.ok in
    let s = c.as_slice.ensures in
    cc (a, s)
