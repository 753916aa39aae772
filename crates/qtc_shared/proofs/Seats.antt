-- Seats of a flag word, at its table and on its terms.
use Rattle.std.proofs.Common.{◌≡◌, ◌<◌, ℕ, List, [], ◌∷◌, All, ap, sym, ◌∙◌, subst, arith}
use Rattle.std.proofs.lemmas.List.Elements.{All-head, All-weaker}
use Rattle.atomic_table.specs.declared.shared.Seat.{Seat}
use Rattle.qtc_future.specs.Future.{Logged}
use Rattle.qtc_shared.specs.declared.rule.View.{View}
use Rattle.qtc_shared.specs.declared.flag_word.FlagWord.TheInside.{Inside}
use Rattle.qtc_shared.specs.Journals.{IsAllowed, IsOfFirst, calls_by}
use Rattle.qtc_shared.specs.Parts.{PassPart, BookPart}
use Rattle.qtc_shared.specs.Passes.{FutureId, PassState}
use Rattle.qtc_shared.specs.Passes as passes
use Rattle.qtc_shared.specs.Rule.{view_with, terms_of, learned, lent, Fits, IsBook, Knows}
use Rattle.qtc_shared.specs.Inside.{word_state, IsWord, IsPassSeat, IsLentSeat, state_of}
use Rattle.qtc_shared.proofs.Prefixes.{none_by}
use Rattle.qtc_shared.proofs.Steps.{made_before}

module _ {V : Type 0} (a : Inside V) (of : FutureId) (view_is : word_state a ≡ of) where
  pub terms_are : of.terms ≡ terms_of a.table.shared.key
  terms_are = sym (ap (λ (f : FutureId). f.terms) view_is)

  pub at_table : (seat : Seat (Unit {0}) (View V)) → seat.table_id ≡ of.table → seat.table_id ≡ a.table.shared.table_id
  at_table seat at = at ∙ sym (ap (λ (f : FutureId). f.table) view_is)

  pub has_word : IsWord a → 0 < a.table.shared.table_id.words
  has_word is = omega arith

  pub pass_me : (pass : PassPart V) (seat : Seat (Unit {0}) (View V)) → IsPassSeat of pass seat → seat.me ≡ (view_with (terms_of a.table.shared.key) (pass ∷ []) [], [])
  pass_me pass seat is = is.me ∙ ap (λ t. (view_with t (pass ∷ []) [], [])) terms_are

  pub lent_me : (pass : PassPart V) (made : ℕ) (journal : List (Logged V)) (seat : Seat (Unit {0}) (View V)) → (is : IsLentSeat of pass made journal seat)
      → seat.me ≡ (view_with (terms_of a.table.shared.key) (learned journal pass ∷ []) (record { journal = journal; made = made } ∷ []), [])
  lent_me pass made journal seat is = is.me ∙ ap (λ t. (view_with t (learned journal pass ∷ []) (record { journal = journal; made = made } ∷ []), [])) terms_are

-- a pass and the book at one seat
module _ {V : Type 0} (of : FutureId) (pass : PassPart V) (book : BookPart V) where
  pub joined_me : (seat books joined : Seat (Unit {0}) (View V)) → IsPassSeat of pass seat → books.me ≡ (view_with of.terms [] (book ∷ []), []) → joined.me ≡ (lent seat.me.0 books.me.0, seat.me.1)
      → joined.me ≡ (view_with of.terms (pass ∷ []) (book ∷ []), [])
  joined_me seat books joined is books_is join =
      join ∙ ap (λ m. (lent m.0 books.me.0, m.1)) is.me ∙ ap (λ m. (lent (view_with of.terms (pass ∷ []) []) m.0, [])) books_is

  abbrev both : View V
  both = view_with of.terms (pass ∷ []) (book ∷ [])

  pub met : (before : View V) (word : ℕ) → before ≡ both → Knows before word → passes.Meets (state_of of pass) book.journal
  met before word is knows' =
      let knows : Knows both word = subst (λ v. Knows v word) is knows' in
      let fits = All-head (Fits knows.journal) pass [] knows.right.passes in
      let same : knows.journal ≡ book.journal = sym (All-head (IsBook knows.journal) book [] knows.right.books).same in
      subst (λ j. passes.Meets (state_of of pass) j) same (record { lawful = knows.lawful; saw = fits.saw; own = fits.own })

  -- the number that the next pass will have has called nothing
  pub unused : (before : View V) (word : ℕ) → before ≡ both → Knows before word → calls_by book.made book.journal ≡ []
  unused before word is knows' =
      let knows : Knows both word = subst (λ v. Knows v word) is knows' in
      let is_book = All-head (IsBook knows.journal) book [] knows.right.books in
      subst (λ j. calls_by book.made j ≡ []) (sym is_book.same) (none_by book.made knows.journal is_book.callers)

  pub below : (id : ℕ) (before : View V) (word : ℕ) → before ≡ both → Knows before word → pass.number < book.made
  below id before word is knows' = made_before of.terms id pass book word (subst (λ v. Knows v word) is knows')

-- ---- the beginning
pub by_first : {V : Type 0} (makers : ℕ) (journal : List (Logged V)) → 0 < makers → All IsOfFirst journal → All (IsAllowed makers) journal
by_first makers journal some callers =
    All-weaker IsOfFirst (IsAllowed makers) (λ logged first. record { maker = λ _. let is = first.caller in omega arith }) journal callers

pub below_one : {V : Type 0} (journal : List (Logged V)) → All IsOfFirst journal → All (λ (l : Logged V). l.entry.caller < 1) journal
below_one {V} journal callers =
    All-weaker IsOfFirst (λ (l : Logged V). l.entry.caller < 1) (λ logged first. let is = first.caller in omega arith) journal callers
