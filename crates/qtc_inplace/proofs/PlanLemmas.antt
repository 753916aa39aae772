-- Where runs of chunks are cut.
use Rattle.std.proofs.Common.{◌≡◌, ℕ, ◌+◌, ◌*◌, ◌/◌, ◌<◌, ◌≤◌, arith, inl, inr, refl}
use Rattle.std.specs.Int.{div_ceil}
use Rattle.std.proofs.lemmas.Bool.{cases_lt}
use Rattle.std.proofs.Math.Nat.{div-mul-le_self, le-div_iff_mul-le, mul-le-mul_left, mul-le-mul_right}
use Rattle.qtc_inplace.specs.Inside.{IsCut}

-- so many whole chunks lie within the list
less : (len size chunks some : ℕ) → 0 < size → chunks ≡ div_ceil len size → some < chunks → some * size ≤ len
less len size chunks some pos is lt =
    let few : some ≤ len / size = grind arith in
    omega (arith, mul-le-mul_right size few, div-mul-le_self len size)

share : (chunks part all : ℕ) → part < all → 0 < chunks → chunks * part / all < chunks
share chunks part all lt pos =
    elim (cases_lt (chunks * part / all) chunks) [
      | inl few ↦ few
      | inr many ↦
          let whole : chunks * all ≤ chunks * part = (le-div_iff_mul-le {k = all} {x = chunks} {y = chunks * part} (omega arith)).0 many in
          let more : part + 1 ≤ all = omega arith in
          absurd (omega (arith, whole, mul-le-mul_left chunks more))
    ]

pub cut-at : (len size chunks part all : ℕ) → 0 < size → part < all → chunks ≡ div_ceil len size → chunks * part / all * size ≤ len
cut-at len size chunks part all pos lt is =
    elim (cases_lt 0 chunks) [
      | inl some ↦ less len size chunks (chunks * part / all) pos is (share chunks part all lt some)
      | inr none ↦ grind arith
    ]

pub is-cut : (len size chunks part all : ℕ) → 0 < size → part < all → chunks ≡ div_ceil len size → IsCut size len (chunks * part / all * size)
is-cut len size chunks part all pos lt is = record { within = cut-at len size chunks part all pos lt is; chunks = chunks * part / all; whole = refl }
