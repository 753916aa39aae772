-- Literals that are read from the front, and the test of numbers against what they are.
use Rattle.std.proofs.Common.{◌≡◌, ℕ, false, List, [], ◌∷◌, ◌++◌, length, Option, Some, None, refl, ap, sym, ◌∙◌, append_assoc, Decides}
use Rattle.std.specs.Str.{all_ascii_digits}
use Rattle.std.specs.List.{All}
use Rattle.std.specs.Char.{is_ascii_digit}
use Rattle.std.proofs.lemmas.Bool.Decides.{Decides-by_and}
use Rattle.std.proofs.lemmas.Bool.{and_parts, and_from, leb-true, le-leb, ne_eqb}
use Rattle.qtc_base.specs.Decimal.{IsDigit, IsNumber}
use Rattle.qtc_job.specs.Literals.{literal_of, onto, raw_value, is_raw, is_numeral, escape_value, hex_pair, hex_value}

-- a byte at the front that begins no escape
pub literal-raw : (a : ℕ) (rest : List ℕ) → (a ≡ 92 → ⊥) → literal_of (a ∷ rest) ≡ onto (raw_value a) (literal_of rest)
literal-raw a [] ne = refl
literal-raw a (b ∷ []) ne = refl
literal-raw a (b ∷ c ∷ []) ne = refl
literal-raw a (b ∷ c ∷ d ∷ rest) ne = let e = ne_eqb a 92 ne in rw e refl

onto-none : (more : Option (List ℕ)) → onto None more ≡ None
onto-none None = refl
onto-none (Some more) = refl

pub literal-escape : (c d : ℕ) (rest : List ℕ) → literal_of (92 ∷ 120 ∷ c ∷ d ∷ rest) ≡ onto (hex_pair (hex_value c) (hex_value d)) (literal_of rest)
literal-escape c d rest = refl

pub literal-no_escape : (c d : ℕ) (rest : List ℕ) → hex_pair (hex_value c) (hex_value d) ≡ None → literal_of (92 ∷ 120 ∷ c ∷ d ∷ rest) ≡ None
literal-no_escape c d rest e = rw e (onto-none (literal_of rest))

pub literal-not_raw : (a : ℕ) (rest : List ℕ) → (a ≡ 92 → ⊥) → is_raw a ≡ false → literal_of (a ∷ rest) ≡ None
literal-not_raw a rest ne raw = literal-raw a rest ne ∙ rw raw (onto-none (literal_of rest))

escape-letter : (b c d : ℕ) → (b ≡ 120 → ⊥) → escape_value 92 b c d ≡ None
escape-letter b c d ne = let e = ne_eqb b 120 ne in rw e refl

-- a backslash that begins no \xHH
pub literal-slash : (rest : List ℕ) → ((c d : ℕ) (more : List ℕ) → rest ≡ 120 ∷ c ∷ d ∷ more → ⊥) → literal_of (92 ∷ rest) ≡ None
literal-slash [] none = refl
literal-slash (b ∷ []) none = onto-none (literal_of (b ∷ []))
literal-slash (b ∷ c ∷ []) none = onto-none (literal_of (b ∷ c ∷ []))
literal-slash (b ∷ c ∷ d ∷ rest) none = let e = escape-letter b c d (λ x. none c d rest (ap (λ l. l ∷ c ∷ d ∷ rest) x)) in rw e (onto-none (literal_of rest))

-- the bytes that were read stand before those that are still to come
abbrev pub after_text : List ℕ → Option (List ℕ) → Option (List ℕ)
after_text text None = None
after_text text (Some more) = Some (text ++ more)

pub after-more : (text : List ℕ) (byte : ℕ) (more : Option (List ℕ)) → after_text text (onto (Some byte) more) ≡ after_text (text ++ byte ∷ []) more
after-more text byte None = refl
after-more text byte (Some more) = ap Some (sym (append_assoc text (byte ∷ []) more))

digit-decides : (c : ℕ) → Decides (is_ascii_digit c) (IsDigit c)
digit-decides c = (
  λ h. let parts = and_parts _ _ h in (leb-true 48 c parts.0, leb-true c 57 parts.1),
  λ d. and_from _ _ (le-leb 48 c d.0) (le-leb c 57 d.1),
)

digits-decide : (item : List ℕ) → Decides (all_ascii_digits item) (All IsDigit item)
digits-decide item = Decides-by_and is_ascii_digit IsDigit all_ascii_digits digit-decides refl (λ _ _. refl) item

pub numeral-decides : (item : List ℕ) → Decides (is_numeral item) (IsNumber 10 item)
numeral-decides item = (
  λ h.
      let parts = and_parts _ _ h in
      let more = and_parts _ _ parts.1 in
      record {
        some = leb-true 1 (length item) parts.0;
        few = leb-true (length item) 10 more.0;
        digits = (digits-decide item).0 more.1;
      },
  λ n. and_from _ _ (le-leb 1 (length item) n.some) (and_from _ _ (le-leb (length item) 10 n.few) ((digits-decide item).1 n.digits)),
)

-- one byte more was read
pub literal-step : (word rest after text longer : List ℕ) (byte : ℕ) → literal_of word ≡ after_text text (literal_of rest) → literal_of rest ≡ onto (Some byte) (literal_of after) → longer ≡ text ++ byte ∷ [] → literal_of word ≡ after_text longer (literal_of after)
literal-step word rest after text longer byte e first grown =
    e ∙ (ap (after_text text) first ∙ (after-more text byte (literal_of after) ∙ ap (λ t. after_text t (literal_of after)) (sym grown)))
