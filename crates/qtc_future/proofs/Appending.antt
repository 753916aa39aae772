-- A list and one element more.
use Rattle.std.proofs.Common.{◌≡◌, List, [], ◌∷◌, ◌++◌, fold, refl}

pub fold-push : {A B : Type 0} (f : B → A → B) (start : B) (xs : List A) (x : A) → fold f start (xs ++ x ∷ []) ≡ f (fold f start xs) x
fold-push f start [] x = refl
fold-push f start (y ∷ xs) x = fold-push f (f start y) xs x
