use Rattle.std.proofs.Common.{◌∙◌, List, ℕ, rules}
use Rattle.std.specs.Ordering.{is_lt}
use Rattle.std.specs.Cmp.Lexicographic.{nat_list_cmp_total}
use Rattle.std.proofs.lemmas.List.Sorted.{answers_always, ranks_by}
use Rattle.qtc_ops.specs.Order.{bytes_cmp}
use Rattle.qtc_ops.proofs.SortLemmas.{sorted-is}
use Rattle.qtc_ops.proofs.list_ops.sorted_values.Goals as goal

pub returns : goal.returns
returns c =
    c.from_vec.ensures ∙ sorted-is c.args.values c.sort_by.new.self.items (rw c.into_vec-values.ensures at c.sort_by.ensures.permutation)
    (c.in_ok-sort_by.ensures.sorted (λ x y. is_lt (bytes_cmp x y)) (ranks_by nat_list_cmp_total (λ (x : List ℕ). x)) (answers_always _ _ _ (λ f a r g h. search rules)))
