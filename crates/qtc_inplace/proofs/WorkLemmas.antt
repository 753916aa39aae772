-- What a caller's functions are asked, where each has a value that is known.
use Rattle.std.proofs.Common.{◌≡◌, ◌≤◌, ℕ, All, List, arith, length}
use Rattle.qtc_base.specs.Limits.{most_items}
use Rattle.qtc_ops.specs.ItemValue.{ItemValue}
use Rattle.qtc_inplace.proofs.MapLemmas.{shared-part}
use Rattle.qtc_inplace.specs.Conditions.{CanWork, most_chunk, most_functions}

pub can-work : {F : Type 0} (value : F → List ℕ → ItemValue) (v : List ℕ → ItemValue) (list : List (List ℕ)) (chunk count : ℕ) (functions : List F)
    → length list ≤ most_items → 1 ≤ chunk → chunk ≤ most_chunk → length functions ≡ count → 1 ≤ count → count ≤ most_functions
    → All (λ f. value f ≡ v) functions → CanWork value list chunk functions
can-work value v list chunk count functions few some_in_chunk few_in_chunk len some few_functions alike = record {
  few_members = few;
  some_in_chunk = some_in_chunk;
  few_in_chunk = few_in_chunk;
  some_functions = omega (arith, len);
  few_functions = omega (arith, len);
  one_value = shared-part value v functions (omega (arith, len)) alike;
}
