-- Escapes are one line, and lose nothing.
use Rattle.std.proofs.Common.{◌≡◌, ◌≢◌, ℕ, ◌/◌, ◌%◌, ◌<◌, ◌≤◌, List, [], ◌∷◌, ◌++◌, true, false, refl, ap, sym, ◌∙◌, ⊎_elim, arith}
use Rattle.std.specs.Prelude.{All}
use Rattle.std.proofs.lemmas.Bool.{cases_Bool, true≢false}
use Rattle.std.proofs.lemmas.Bool.Decides.{nat_tests}
use Rattle.std.proofs.lemmas.List.Elements.{All-nil, All-cons, All-append, All-head, All-tail}
use Rattle.qtc_base.specs.Escape.{escaped, escaped_byte, hex_escape, hex_glyph, is_plain}
use Rattle.qtc_base.specs.Laws.{AreBytes}

abbrev IsByte : ℕ → Type 0
IsByte byte = byte < 256

abbrev IsPrinted : ℕ → Type 0
IsPrinted byte = (32 ≤ byte) × (byte ≢ 127)

printed-glyph : (value : ℕ) → value < 16 → IsPrinted (hex_glyph value)
printed-glyph value small = (grind (arith, nat_tests), grind (arith, nat_tests))

printed-plain : (byte : ℕ) → is_plain byte ≡ true → IsPrinted byte
printed-plain byte plain = (grind (arith, nat_tests), grind (arith, nat_tests))

printed-escape : (byte : ℕ) → byte < 256 → All IsPrinted (hex_escape byte)
printed-escape byte small =
    let high = printed-glyph (byte / 16) (omega arith) in
    let low = printed-glyph (byte % 16) (omega arith) in
    let last : All IsPrinted (hex_glyph (byte % 16) ∷ []) = All-cons IsPrinted (hex_glyph (byte % 16)) [] low (All-nil IsPrinted) in
    let both : All IsPrinted (hex_glyph (byte / 16) ∷ hex_glyph (byte % 16) ∷ []) = All-cons IsPrinted (hex_glyph (byte / 16)) (hex_glyph (byte % 16) ∷ []) high last in
    let letter : All IsPrinted (120 ∷ hex_glyph (byte / 16) ∷ hex_glyph (byte % 16) ∷ []) = All-cons IsPrinted 120 (hex_glyph (byte / 16) ∷ hex_glyph (byte % 16) ∷ []) (omega arith, λ e. omega arith) both in
    All-cons IsPrinted 92 (120 ∷ hex_glyph (byte / 16) ∷ hex_glyph (byte % 16) ∷ []) (omega arith, λ e. omega arith) letter

printed-byte : (byte : ℕ) → byte < 256 → All IsPrinted (escaped_byte byte)
printed-byte byte small =
    ⊎_elim
    (λ plain. rw plain (All-cons IsPrinted byte [] (printed-plain byte plain) (All-nil IsPrinted)))
    (λ other. rw other (printed-escape byte small))
    (cases_Bool (is_plain byte))

pub escaped-printed : (text : List ℕ) → AreBytes text → All (λ byte. (32 ≤ byte) × (byte ≢ 127)) (escaped text)
escaped-printed [] small = All-nil IsPrinted
escaped-printed (byte ∷ text) small =
    All-append IsPrinted (escaped_byte byte) (escaped text) (printed-byte byte (All-head IsByte byte text small)) (escaped-printed text (All-tail IsByte byte text small))

glyph-same : (a b : ℕ) → a < 16 → b < 16 → hex_glyph a ≡ hex_glyph b → a ≡ b
glyph-same a b p q e = grind (arith, nat_tests)

escape-same : (a b : ℕ) → a < 256 → b < 256 → hex_glyph (a / 16) ≡ hex_glyph (b / 16) → hex_glyph (a % 16) ≡ hex_glyph (b % 16) → a ≡ b
escape-same a b p q high low =
    let h = glyph-same (a / 16) (b / 16) (omega arith) (omega arith) high in
    let l = glyph-same (a % 16) (b % 16) (omega arith) (omega arith) low in
    omega arith

-- no plain byte is written as an escape begins
plain-escape : (a : ℕ) → is_plain a ≡ true → a ≡ 92 → ⊥
plain-escape a plain e = true≢false (sym plain ∙ ap is_plain e)

same-byte : (a b : ℕ) (after others : List ℕ) → a < 256 → b < 256 → escaped_byte a ++ after ≡ escaped_byte b ++ others → (a ≡ b) × (after ≡ others)
same-byte a b after others p q e =
    ⊎_elim
    (λ (a_plain : is_plain a ≡ true). ⊎_elim
    (λ (b_plain : is_plain b ≡ true). let f = rw (a_plain, b_plain) at e in ((cc), (cc)))
    (λ (b_other : is_plain b ≡ false). let f = rw (a_plain, b_other) at e in absurd (plain-escape a a_plain (cc)))
    (cases_Bool (is_plain b)))
    (λ (a_other : is_plain a ≡ false). ⊎_elim
    (λ (b_plain : is_plain b ≡ true). let f = rw (a_other, b_plain) at e in absurd (plain-escape b b_plain (cc)))
    (λ (b_other : is_plain b ≡ false). let f = rw (a_other, b_other) at e in
    let high : hex_glyph (a / 16) ≡ hex_glyph (b / 16) = cc in
    let low : hex_glyph (a % 16) ≡ hex_glyph (b % 16) = cc in
    (escape-same a b p q high low, (cc)))
    (cases_Bool (is_plain b)))
    (cases_Bool (is_plain a))

-- an escape begins with a byte
some-escape : (b : ℕ) (bs : List ℕ) → [] ≡ escaped_byte b ++ bs → ⊥
some-escape b bs e =
    ⊎_elim
    (λ (plain : is_plain b ≡ true). let f = rw plain at e in cc)
    (λ (other : is_plain b ≡ false). let f = rw other at e in cc)
    (cases_Bool (is_plain b))

pub escaped-same : (a b : List ℕ) → AreBytes a → AreBytes b → escaped a ≡ escaped b → a ≡ b
escaped-same [] [] p q e = refl
escaped-same [] (y ∷ ys) p q e = absurd (some-escape y (escaped ys) e)
escaped-same (x ∷ xs) [] p q e = absurd (some-escape x (escaped xs) (sym e))
escaped-same (x ∷ xs) (y ∷ ys) p q e =
    let front = same-byte x y (escaped xs) (escaped ys) (All-head IsByte x xs p) (All-head IsByte y ys q) e in
    let there = escaped-same xs ys (All-tail IsByte x xs p) (All-tail IsByte y ys q) front.1 in
    ap (λ b. b ∷ xs) front.0 ∙ ap (λ s. y ∷ s) there
