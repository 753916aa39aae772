-- Two lists of one length, pair by pair. (Own.)
use Rattle.std.specs.Prelude.{List, [], ◌∷◌}

-- they have one length, and the two at each place stand in a relation
abbrev pub EachPair : {X Y : Type 0} → (X → Y → Type 0) → List X → List Y → Type 0
EachPair R [] [] = Unit {0}
EachPair R [] (y ∷ ys) = ⊥
EachPair R (x ∷ xs) [] = ⊥
EachPair R (x ∷ xs) (y ∷ ys) = R x y × EachPair R xs ys
