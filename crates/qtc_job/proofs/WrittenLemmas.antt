-- Literals as they are written, and as they are read.
use Rattle.std.proofs.Common.{◌≡◌, ℕ, ◌+◌, ◌*◌, ◌/◌, ◌%◌, ◌<◌, ◌≤◌, true, false, List, [], ◌∷◌, length, Option, Some, None, refl, ap, sym, ◌∙◌, ⊎_elim, eqb, length-append, arith}
use Rattle.std.specs.Prelude.{◌&&◌}
use Rattle.std.specs.List.{All}
use Rattle.std.proofs.lemmas.Bool.{cases_Bool, cases_lt, cases_eq}
use Rattle.std.proofs.lemmas.Bool.Decides.{nat_tests}
use Rattle.std.proofs.lemmas.List.Elements.{All-nil, All-cons, All-head, All-tail}
use Rattle.qtc_base.specs.Escape.{hex_glyph}
use Rattle.qtc_job_file.specs.Canonical.{is_plain, written, written_byte}
use Rattle.qtc_job.specs.Literals.{literal_of, onto, raw_value, is_raw, escape_value, hex_pair, hex_value}
use Rattle.qtc_job.proofs.LiteralLemmas.{literal-raw}

-- ---- what is written is read back

hex-read : (v : ℕ) → v < 16 → hex_value (hex_glyph v) ≡ Some v
hex-read v small = ⊎_elim
    (λ (low : v < 10). grind (arith, nat_tests))
    (λ (high : 10 ≤ v). grind (arith, nat_tests))
    (cases_lt v 10)

pair-read : (byte : ℕ) → byte < 256 → hex_pair (hex_value (hex_glyph (byte / 16))) (hex_value (hex_glyph (byte % 16))) ≡ Some byte
pair-read byte small =
    let high = hex-read (byte / 16) (omega arith) in
    let low = hex-read (byte % 16) (omega arith) in
    rw (high, low) (ap Some (let e : 16 * (byte / 16) + byte % 16 ≡ byte = omega arith in e))

plain-raw : (byte : ℕ) → byte < 256 → is_plain byte ≡ true → raw_value byte ≡ Some byte
plain-raw byte small plain = let raw : is_raw byte ≡ true = grind (arith, nat_tests) in rw raw refl

plain-slash : (byte : ℕ) → is_plain byte ≡ true → byte ≡ 92 → ⊥
plain-slash byte plain e = grind (arith, nat_tests)

pub written-read : (text : List ℕ) → All (λ byte. byte < 256) text → literal_of (written text) ≡ Some text
written-read [] small = refl
written-read (byte ∷ text) small =
    let here = All-head (λ byte. byte < 256) byte text small in
    let there = written-read text (All-tail (λ byte. byte < 256) byte text small) in
    ⊎_elim
    (λ (plain : is_plain byte ≡ true). rw plain (literal-raw byte (written text) (plain-slash byte plain) ∙ (ap (λ o. onto o (literal_of (written text))) (plain-raw byte here plain) ∙ ap (onto (Some byte)) there)))
    (λ (other : is_plain byte ≡ false). rw other (ap (λ o. onto o (literal_of (written text))) (pair-read byte here) ∙ ap (onto (Some byte)) there))
    (cases_Bool (is_plain byte))

-- ---- what is read is written in as few bytes

pub record IsReadAs (word text : List ℕ) : Type 0 where
  pub bytes : All (λ byte. byte < 256) text
  pub short : length (written text) ≤ length word
  pub some : 1 ≤ length word → 1 ≤ length text

onto-some : (o : Option ℕ) (more : Option (List ℕ)) (text : List ℕ) → onto o more ≡ Some text → (byte : ℕ) × (rest : List ℕ) × (o ≡ Some byte) × (more ≡ Some rest) × (text ≡ byte ∷ rest)
onto-some None None text e = cc
onto-some None (Some more) text e = cc
onto-some (Some byte) None text e = cc
onto-some (Some byte) (Some more) text e = (byte, more, refl, refl, let f : Some (byte ∷ more) ≡ Some text = e in cc)

raw-is : (a byte : ℕ) → raw_value a ≡ Some byte → (a ≡ byte) × (is_raw a ≡ true)
raw-is a byte e = ⊎_elim
    (λ (raw : is_raw a ≡ true). let f : Some a ≡ Some byte = rw raw at e in ((cc), raw))
    (λ (other : is_raw a ≡ false). let f : None ≡ Some byte = rw other at e in cc)
    (cases_Bool (is_raw a))

written-size : (byte : ℕ) → length (written_byte byte) ≤ 4
written-size byte = ⊎_elim
    (λ (plain : is_plain byte ≡ true). rw plain (omega arith))
    (λ (other : is_plain byte ≡ false). rw other (omega arith))
    (cases_Bool (is_plain byte))

raw-size : (byte : ℕ) → is_raw byte ≡ true → (byte ≡ 32 → ⊥) → length (written_byte byte) ≡ 1
raw-size byte raw other = let plain : is_plain byte ≡ true = grind (arith, nat_tests) in rw plain refl

raw-small : (byte : ℕ) → is_raw byte ≡ true → byte < 256
raw-small byte raw = grind (arith, nat_tests)

step-raw : (a : ℕ) (rest text : List ℕ) → is_raw a ≡ true → (a ≡ 32 → ⊥) → IsReadAs rest text → IsReadAs (a ∷ rest) (a ∷ text)
step-raw a rest text raw other r =
    let size = raw-size a raw other in
    let sizes = length-append (written_byte a) (written text) in
    let short = r.short in
    record {
      bytes = All-cons (λ byte. byte < 256) a text (raw-small a raw) r.bytes;
      short = omega arith;
      some = λ _. omega arith;
    }

step-escape : (a b c d byte : ℕ) (rest text : List ℕ) → byte < 256 → IsReadAs rest text → IsReadAs (a ∷ b ∷ c ∷ d ∷ rest) (byte ∷ text)
step-escape a b c d byte rest text small r =
    let size = written-size byte in
    let sizes = length-append (written_byte byte) (written text) in
    let short = r.short in
    record {
      bytes = All-cons (λ byte. byte < 256) byte text small r.bytes;
      short = omega arith;
      some = λ _. omega arith;
    }

hex-small : (digit value : ℕ) → hex_value digit ≡ Some value → value < 16
hex-small digit value e = grind (arith, nat_tests)

pair-small : (high low : Option ℕ) (byte : ℕ) → ((v : ℕ) → high ≡ Some v → v < 16) → ((v : ℕ) → low ≡ Some v → v < 16) → hex_pair high low ≡ Some byte → byte < 256
pair-small None None byte h l e = cc
pair-small None (Some v) byte h l e = cc
pair-small (Some u) None byte h l e = cc
pair-small (Some u) (Some v) byte h l e =
    let hu = h u refl in
    let lv = l v refl in
    let f : Some (16 * u + v) ≡ Some byte = e in
    let same : 16 * u + v ≡ byte = cc in
    omega arith

escape-small : (a b c d byte : ℕ) → escape_value a b c d ≡ Some byte → byte < 256
escape-small a b c d byte e = ⊎_elim
    (λ (both : (eqb a 92 && eqb b 120) ≡ true). let f : hex_pair (hex_value c) (hex_value d) ≡ Some byte = rw both at e in pair-small (hex_value c) (hex_value d) byte (hex-small c) (hex-small d) f)
    (λ (other : (eqb a 92 && eqb b 120) ≡ false). let f : None ≡ Some byte = rw other at e in cc)
    (cases_Bool (eqb a 92 && eqb b 120))

-- a word begins with a byte that stands for itself
raw-first : (a : ℕ) (rest text : List ℕ) → (a ≡ 92 → ⊥) → literal_of (a ∷ rest) ≡ Some text → (more : List ℕ) × (literal_of rest ≡ Some more) × (text ≡ a ∷ more) × (is_raw a ≡ true)
raw-first a rest text other e =
    let parts = onto-some (raw_value a) (literal_of rest) text (sym (literal-raw a rest other) ∙ e) in
    let raw = raw-is a parts.0 parts.2 in
    (parts.1, parts.3, parts.4 ∙ ap (λ b. b ∷ parts.1) (sym raw.0), raw.1)

raw-word : (a : ℕ) (rest text : List ℕ) → (a ≡ 92 → ⊥) → (a ≡ 32 → ⊥) → ((more : List ℕ) → literal_of rest ≡ Some more → IsReadAs rest more) → literal_of (a ∷ rest) ≡ Some text → IsReadAs (a ∷ rest) text
raw-word a rest text other space there e =
    let first = raw-first a rest text other e in
    rw first.2 (step-raw a rest first.0 first.3 space (there first.0 first.1))

escape-word : (b c d : ℕ) (rest text : List ℕ) → ((more : List ℕ) → literal_of rest ≡ Some more → IsReadAs rest more) → literal_of (92 ∷ b ∷ c ∷ d ∷ rest) ≡ Some text → IsReadAs (92 ∷ b ∷ c ∷ d ∷ rest) text
escape-word b c d rest text there e =
    let parts = onto-some (escape_value 92 b c d) (literal_of rest) text e in
    rw parts.4 (step-escape 92 b c d parts.0 rest parts.1 (escape-small 92 b c d parts.0 parts.2) (there parts.1 parts.3))

-- a backslash with fewer than three bytes after it
no-escape : (more : Option (List ℕ)) (text : List ℕ) → onto (raw_value 92) more ≡ Some text → ⊥
no-escape None text e = cc
no-escape (Some more) text e = cc

abbrev HasNoSpace : List ℕ → Type 0
HasNoSpace word = All (λ byte. byte ≡ 32 → ⊥) word

head-other : (a : ℕ) (rest : List ℕ) → HasNoSpace (a ∷ rest) → a ≡ 32 → ⊥
head-other a rest none = All-head (λ byte. byte ≡ 32 → ⊥) a rest none

tail-other : (a : ℕ) (rest : List ℕ) → HasNoSpace (a ∷ rest) → HasNoSpace rest
tail-other a rest none = All-tail (λ byte. byte ≡ 32 → ⊥) a rest none

nothing-read : (text : List ℕ) → literal_of [] ≡ Some text → IsReadAs [] text
nothing-read text e =
    let f : Some [] ≡ Some text = e in
    let same : text ≡ [] = cc in
    rw same (record { bytes = All-nil (λ byte. byte < 256); short = omega arith; some = λ some. absurd (omega arith) })

pub literal-reads : (word text : List ℕ) → All (λ byte. byte ≡ 32 → ⊥) word → literal_of word ≡ Some text → IsReadAs word text
literal-reads [] text none e = nothing-read text e
literal-reads (a ∷ []) text none e = ⊎_elim
    (λ (slash : a ≡ 92). absurd (no-escape (Some []) text (let f : literal_of (92 ∷ []) ≡ Some text = rw slash at e in f)))
    (λ (other : a ≡ 92 → ⊥). raw-word a [] text other (head-other a [] none) nothing-read e)
    (cases_eq a 92)
literal-reads (a ∷ b ∷ []) text none e = ⊎_elim
    (λ (slash : a ≡ 92). absurd (no-escape (literal_of (b ∷ [])) text (let f : literal_of (92 ∷ b ∷ []) ≡ Some text = rw slash at e in f)))
    (λ (other : a ≡ 92 → ⊥). raw-word a (b ∷ []) text other (head-other a (b ∷ []) none) (λ more f. literal-reads (b ∷ []) more (tail-other a (b ∷ []) none) f) e)
    (cases_eq a 92)
literal-reads (a ∷ b ∷ c ∷ []) text none e = ⊎_elim
    (λ (slash : a ≡ 92). absurd (no-escape (literal_of (b ∷ c ∷ [])) text (let f : literal_of (92 ∷ b ∷ c ∷ []) ≡ Some text = rw slash at e in f)))
    (λ (other : a ≡ 92 → ⊥). raw-word a (b ∷ c ∷ []) text other (head-other a (b ∷ c ∷ []) none) (λ more f. literal-reads (b ∷ c ∷ []) more (tail-other a (b ∷ c ∷ []) none) f) e)
    (cases_eq a 92)
literal-reads (a ∷ b ∷ c ∷ d ∷ rest) text none e = ⊎_elim
    (λ (slash : a ≡ 92).
    let f : literal_of (92 ∷ b ∷ c ∷ d ∷ rest) ≡ Some text = rw slash at e in
    let after = tail-other c (d ∷ rest) (tail-other b (c ∷ d ∷ rest) (tail-other a (b ∷ c ∷ d ∷ rest) none)) in
    rw slash (escape-word b c d rest text (λ more g. literal-reads rest more (tail-other d rest after) g) f))
    (λ (other : a ≡ 92 → ⊥). raw-word a (b ∷ c ∷ d ∷ rest) text other (head-other a (b ∷ c ∷ d ∷ rest) none) (λ more f. literal-reads (b ∷ c ∷ d ∷ rest) more (tail-other a (b ∷ c ∷ d ∷ rest) none) f) e)
    (cases_eq a 92)
