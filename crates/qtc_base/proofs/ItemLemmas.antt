-- What a push does to the parts of a text, and how many bytes they have.
use Rattle.std.proofs.Common.{◌≡◌, ℕ, ◌+◌, ◌-◌, ◌<◌, ◌≤◌, List, [], ◌∷◌, ◌++◌, length, inl, inr, refl, ap, ◌∙◌, subst, sym, arith}
use Rattle.std.specs.Prelude.{All, slice_range, sum_by}
use Rattle.std.proofs.lemmas.Grind.{common_steps}
use Rattle.std.proofs.lemmas.List.{map-append}
use Rattle.std.proofs.lemmas.List.Elements.{All-append, All-cons, All-head, All-nil, All-tail}
use Rattle.std.proofs.lemmas.List.Sums.{sum_by-append, sum_by-cons}
use Rattle.qtc_base.specs.Items.{total_bytes, PassesLimit}
use Rattle.qtc_base.specs.Limits.{most_bytes, most_items}
use Rattle.qtc_base.specs.ItemsInside.{IsOneMore}
use Rattle.qtc_base.specs.Parts.{AreWithin, part_len, part_of, parts_of}
use Rattle.qtc_base.specs.declared.ranges.Range.{Range}

pub one_more : (text item : List ℕ) (old new : List Range) (part : Range) → new ≡ old ++ part ∷ [] → part.begin ≡ length text → part.end ≡ length text + length item → IsOneMore text item old new
one_more text item old new part parts begin end = record { part = part; begin = begin; end = end; parts = parts }

-- the parts stay where bytes come after them
parts-append : (text more : List ℕ) (parts : List Range) → AreWithin text parts → parts_of (text ++ more) parts ≡ parts_of text parts
parts-append text more [] within = refl
parts-append text more (part ∷ parts) within =
    let P : Range → Type 0 = λ part. part.end ≤ length text in
    let there = parts-append text more parts (All-tail P part parts within) in
    let inside = All-head P part parts within in
    let here : slice_range (text ++ more) part.begin part.end ≡ slice_range text part.begin part.end = grind (arith, common_steps) in
    cc

within-append : (text more : List ℕ) (parts : List Range) → AreWithin text parts → AreWithin (text ++ more) parts
within-append text more [] within = All-nil (λ part. part.end ≤ length (text ++ more))
within-append text more (part ∷ parts) within =
    let P : Range → Type 0 = λ part. part.end ≤ length text in
    let inside = All-head P part parts within in
    All-cons (λ part. part.end ≤ length (text ++ more)) part parts (grind (arith, common_steps)) (within-append text more parts (All-tail P part parts within))

pub parts-push : (text item : List ℕ) (old new : List Range) → AreWithin text old → IsOneMore text item old new → parts_of (text ++ item) new ≡ parts_of text old ++ item ∷ []
parts-push text item old new within more =
    let begin = more.begin in
    let end = more.end in
    let here : slice_range (text ++ item) more.part.begin more.part.end ≡ item = grind (arith, common_steps) in
    ap (parts_of (text ++ item)) more.parts ∙ map-append (part_of (text ++ item)) old (more.part ∷ [])
    ∙ ap (λ front. front ++ part_of (text ++ item) more.part ∷ []) (parts-append text item old within)
    ∙ ap (λ last. parts_of text old ++ last ∷ []) here

pub within-push : (text item : List ℕ) (old new : List Range) → AreWithin text old → IsOneMore text item old new → AreWithin (text ++ item) new
within-push text item old new within more =
    let P : Range → Type 0 = λ part. part.end ≤ length (text ++ item) in
    let end = more.end in
    subst (All P) (sym more.parts) (All-append P old (more.part ∷ []) (within-append text item old within) (All-cons P more.part [] (grind (arith, common_steps)) (All-nil P)))

pub total_bytes-push : (items : List (List ℕ)) (item : List ℕ) → total_bytes (items ++ item ∷ []) ≡ total_bytes items + length item
total_bytes-push items item = sum_by-append length items (item ∷ []) ∙ ap (λ k. total_bytes items + k) (let one = sum_by-cons length item [] in omega arith)

-- a part has as many bytes as lie between its ends
pub total_bytes-parts : (text : List ℕ) (parts : List Range) → AreWithin text parts → total_bytes (parts_of text parts) ≡ sum_by part_len parts
total_bytes-parts text [] within = refl
total_bytes-parts text (part ∷ parts) within =
    let P : Range → Type 0 = λ part. part.end ≤ length text in
    let there = total_bytes-parts text parts (All-tail P part parts within) in
    let inside = All-head P part parts within in
    let here : length (slice_range text part.begin part.end) ≡ part.end - part.begin = grind (arith, common_steps) in
    let first = sum_by-cons length (part_of text part) (parts_of text parts) in
    let second = sum_by-cons part_len part parts in
    omega arith

pub keeps_limits : (items : List (List ℕ)) → ¬ PassesLimit items → (length items ≤ most_items) × (total_bytes items ≤ most_bytes)
keeps_limits items none =
    let few : most_items < length items → ⊥ = λ more. none (inl more) in
    let short : most_bytes < total_bytes items → ⊥ = λ more. none (inr more) in
    (omega arith, omega arith)
