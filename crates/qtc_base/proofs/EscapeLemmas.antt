-- What escaping does to a text that is taken apart.
use Rattle.std.proofs.Common.{◌≡◌, ℕ, ◌+◌, List, [], ◌∷◌, ◌++◌, take, drop, false, refl, ap, sym, ◌∙◌, append_assoc}
use Rattle.std.proofs.Math.Seq.{take-add}
use Rattle.qtc_base.specs.Escape.{escaped, escaped_byte, hex_escape, is_plain}

pub escaped-append : (xs ys : List ℕ) → escaped (xs ++ ys) ≡ escaped xs ++ escaped ys
escaped-append [] ys = refl
escaped-append (x ∷ xs) ys = ap (λ s. escaped_byte x ++ s) (escaped-append xs ys) ∙ sym (append_assoc (escaped_byte x) (escaped xs) (escaped ys))

-- a byte that isn't plain at the front
pub escaped-cons : (byte : ℕ) (text : List ℕ) → is_plain byte ≡ false → escaped (byte ∷ text) ≡ hex_escape byte ++ escaped text
escaped-cons byte text h = rw h refl

-- two plain pieces of a text, one after the other
pub plain-two : (text : List ℕ) (a b : ℕ) → escaped (take a text) ≡ take a text → escaped (take b (drop a text)) ≡ take b (drop a text) → escaped (take (a + b) text) ≡ take (a + b) text
plain-two text a b front rest =
    let both = take-add a b text in
    rw both (escaped-append (take a text) (take b (drop a text)) ∙ (ap (λ s. s ++ escaped (take b (drop a text))) front ∙ ap (λ s. take a text ++ s) rest))
