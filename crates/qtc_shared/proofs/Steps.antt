-- Each step on a flag word keeps its rule, and what it tells.
use Rattle.std.proofs.Common.{◌≡◌, ◌≢◌, inl, inr, ℕ, ◌+◌, ◌<◌, ◌≤◌, ◌==◌, cond, nat_lt, true, false, Bool, List, [], ◌∷◌, ◌++◌, length, set, sym, refl, ◌∙◌, subst, arith, sum_by, count_by, All, slice_index, slice_set}
use Rattle.std.proofs.lemmas.Bool.Decides.{nat_tests}
use Rattle.std.proofs.lemmas.List.Sums.{sum_by-cons}
use Rattle.std.proofs.lemmas.List.Elements.{All-set, All-append, All-cons, All-nil, All-weaker, All-head}
use mathlib.Core.Option.{some}
use lib.ListN.{get_elem?}
use Rattle.atomic_table.specs.Table.{Me, Act, Valid, keeps, homes_after, carried_after, Allows, Splits, Joins, opening}
use Rattle.atomic_table.proofs.Lists.{set_here, set_else}
use Rattle.qtc_base.specs.Ranges.{in_range}
use Rattle.qtc_lock.proofs.Views.{placed, All-at, All-snoc, sum_by-set_view, sum_by-snoc}
use Rattle.qtc_events.specs.Flags.{flags_in}
use Rattle.qtc_future.specs.Future.{Logged}
use Rattle.qtc_future.specs.Legal.{IsLegal}
use Rattle.qtc_shared.specs.declared.rule.View.{View}
use Rattle.qtc_shared.specs.declared.rule.Opening.{Opening}
use Rattle.qtc_shared.specs.Journals.{IsAllowed, IsJournal, Shows, Grew, Follows}
use Rattle.qtc_shared.specs.Parts.{Terms, PassPart, BookPart, future_at}
use Rattle.qtc_base.specs.Limits.{most_passes}
use Rattle.qtc_shared.specs.Rule.{no_terms, view_with, nothing, Fits, IsBook, IsRight, numbered, book_count, AddsUp, Holds, terms_of, IsKept, Knows, first_pass, first_book, first_view, saw_flags, looked, learned, shown, entered, rewritten, lent, pass_only, book_only, one_more, with_child, counted_on, made_pass, made_from, Looks, Meets, Enters}
use Rattle.qtc_shared.proofs.Prefixes.{fits_learned, fits_later, fits_look}
use Rattle.qtc_shared.proofs.Places.{one_within, two_within, All-set_else}

-- what a step changes: a measure of the views that it touches, before and after
abbrev Changes : {V : Type 0} → (T T' before after : (View V → ℕ) → ℕ) → Type 0
Changes {V} T T' before after = (measure : View V → ℕ) → T' measure + before measure ≡ T measure + after measure

-- the touched views have what they had
rests : {V : Type 0} (T T' before after : (View V → ℕ) → ℕ) → Changes T T' before after → AddsUp T
    → ((number : ℕ) → after (numbered number) ≡ before (numbered number)) → after book_count ≡ before book_count → AddsUp T'
rests T T' before after change sums numbers book = record {
  numbers = λ number. omega (arith, change (numbered number), numbers number, sums.numbers number);
  book = omega (arith, change book_count, book, sums.book);
}

-- the sum over all views
abbrev over : {V : Type 0} → List (View V) → (View V → ℕ) → ℕ
over views measure = sum_by measure views

module _ {V : Type 0} where
  set_changes : (views : List (View V)) (id : ℕ) (v w : View V) → get_elem? views id ≡ some v → Changes (over views) (over (set views id w)) (λ measure. measure v) (λ measure. measure w)
  set_changes views id v w at measure = sum_by-set_view measure views id v w at

  split_changes : (views : List (View V)) (id : ℕ) (v left right : View V) → get_elem? views id ≡ some v
      → Changes (over views) (over (set views id left ++ right ∷ [])) (λ measure. measure v) (λ measure. measure left + measure right)
  split_changes views id v left right at measure =
      omega (arith, sum_by-set_view measure views id v left at, sum_by-snoc measure (set views id left) right)

  join_changes : (views : List (View V)) (id other : ℕ) (v w both spent : View V) → get_elem? views id ≡ some v → get_elem? (set views id both) other ≡ some w
      → Changes (over views) (over (set (set views id both) other spent)) (λ measure. measure v + measure w) (λ measure. measure both + measure spent)
  join_changes views id other v w both spent at at' measure =
      omega (arith, sum_by-set_view measure views id v both at, sum_by-set_view measure (set views id both) other w spent at')

-- ---- what a seat's owner knows
module _ {V : Type 0} (terms : Terms) (journal : List (Logged V)) (word : ℕ) (views : List (View V)) (shows : Shows journal word) (holds : Holds terms journal views) where
  pub knows_view : (id : ℕ) (v : View V) → get_elem? views id ≡ some v → v.terms ≡ terms → Knows v word
  knows_view id v at on = record {
    journal = journal;
    shows = shows;
    lawful = subst (λ t. IsJournal t journal) (sym on) holds.lawful;
    right = All-at (IsRight journal) views id v at holds.right;
    numbers = λ number. omega (arith, one_within (numbered number) views id v at, holds.sums.numbers number);
  }

-- ---- a step of one seat that has no slot
module _ {V : Type 0} (key : Opening V) (slots id : ℕ) where
  -- which makes of the word and the view what `new` and `f` say
  pub steps : (v : View V) (f : ℕ → ℕ) (new : ℕ → View V) (Told : ℕ → View V → Type 0)
      → ((journal : List (Logged V)) (word : ℕ) (views : List (View V)) → Shows journal word → Holds (terms_of key) journal views → get_elem? views id ≡ some v
      → ((then : List (Logged V)) × Shows then (f word) × Holds (terms_of key) then (set views id (new word))) × Told word (new word))
      → Allows (IsKept key) slots id (v, []) 0 f (λ found after. (after.1 ≡ []) × Told found after.0)
  steps v f new Told make s is_kept long me wide =
      let P : List ℕ → Type 0 = λ words.
      (w : View V) × (a : Act (Unit {0})) × Valid s.homes [] a
      × IsKept key (record { words = slice_set words 0 (f (slice_index words 0)); homes = homes_after s.homes [] a; views = slice_set s.views id w })
      × ((carried_after [] a ≡ []) × Told (slice_index words 0) w)
      in
      let made_so = make is_kept.journal is_kept.word s.views is_kept.shows is_kept.holds me in
      subst P (sym is_kept.words) (new is_kept.word, keeps, tt, record { journal = made_so.0.0; word = f is_kept.word; words = refl; shows = made_so.0.1; holds = made_so.0.2 }, (refl, made_so.1))

-- ---- right views
module _ {V : Type 0} (journal : List (Logged V)) (terms : Terms) where
  right_pass : (pass : PassPart V) → Fits journal pass → IsRight journal (view_with terms (pass ∷ []) [])
  right_pass pass fits = record { passes = All-cons (Fits journal) pass [] fits (All-nil (Fits journal)); books = All-nil (IsBook journal) }

  right_book : (book : BookPart V) → IsBook journal book → IsRight journal (view_with terms [] (book ∷ []))
  right_book book is = record { passes = All-nil (Fits journal); books = All-cons (IsBook journal) book [] is (All-nil (IsBook journal)) }

  right_lent : (pass : PassPart V) (book : BookPart V) → Fits journal pass → IsBook journal book → IsRight journal (view_with terms (pass ∷ []) (book ∷ []))
  right_lent pass book fits is = record { passes = All-cons (Fits journal) pass [] fits (All-nil (Fits journal)); books = All-cons (IsBook journal) book [] is (All-nil (IsBook journal)) }

  right_nothing : IsRight journal (nothing terms)
  right_nothing = record { passes = All-nil (Fits journal); books = All-nil (IsBook journal) }

-- ---- a pass loads
module _ {V : Type 0} (key : Opening V) (slots id : ℕ) (pass : PassPart V) where
  look_tells : (journal : List (Logged V)) (word : ℕ) (views : List (View V)) → Shows journal word → Holds (terms_of key) journal views → get_elem? views id ≡ some (view_with (terms_of key) (pass ∷ []) [])
      → ((then : List (Logged V)) × Shows then word × Holds (terms_of key) then (set views id (looked (flags_in word) (view_with (terms_of key) (pass ∷ []) []))))
      × Looks (view_with (terms_of key) (pass ∷ []) []) word (looked (flags_in word) (view_with (terms_of key) (pass ∷ []) []))
  look_tells journal word views shows holds at =
      let terms = terms_of key in
      let v = view_with terms (pass ∷ []) [] in
      let w = looked (flags_in word) v in
      let fits = All-head (Fits journal) pass [] (All-at (IsRight journal) views id v at holds.right).passes in
      let after : Holds terms journal (set views id w) = record {
        lawful = holds.lawful;
        right = All-set (IsRight journal) views id w (right_pass journal terms (saw_flags (flags_in word) pass) (fits_look journal (flags_in word) pass shows.flags fits)) holds.right;
        sums = rests (over views) (over (set views id w)) (λ measure. measure v) (λ measure. measure w) (set_changes views id v w at) holds.sums (λ number. refl) refl;
      }
      in
      let there = placed views id v at in
      ((journal, shows, after), (refl, knows_view terms journal word (set views id w) shows after id w (set_here views id w there.0) refl))

  pub looks : (m : Me (Unit {0}) (View V)) → m ≡ (view_with (terms_of key) (pass ∷ []) [], [])
      → Allows (IsKept key) slots id m 0 (λ n. n) (λ found after. (after.1 ≡ []) × Looks m.0 found after.0)
  looks m is =
      let v = view_with (terms_of key) (pass ∷ []) [] in
      subst (λ (x : Me (Unit {0}) (View V)). Allows (IsKept key) slots id x 0 (λ n. n) (λ found after. (after.1 ≡ []) × Looks x.0 found after.0)) (sym is)
      (steps key slots id v (λ n. n) (λ word. looked (flags_in word) v) (Looks v) look_tells)

-- ---- the book loads, with a pass that is lent
module _ {V : Type 0} (key : Opening V) (slots id : ℕ) (pass : PassPart V) (book : BookPart V) where
  meet_tells : (journal : List (Logged V)) (word : ℕ) (views : List (View V)) → Shows journal word → Holds (terms_of key) journal views → get_elem? views id ≡ some (view_with (terms_of key) (pass ∷ []) (book ∷ []))
      → ((then : List (Logged V)) × Shows then word × Holds (terms_of key) then (set views id (shown (view_with (terms_of key) (pass ∷ []) (book ∷ [])))))
      × Meets (view_with (terms_of key) (pass ∷ []) (book ∷ [])) word (shown (view_with (terms_of key) (pass ∷ []) (book ∷ [])))
  meet_tells journal word views shows holds at =
      let terms = terms_of key in
      let v = view_with terms (pass ∷ []) (book ∷ []) in
      let w = shown v in
      let right = All-at (IsRight journal) views id v at holds.right in
      let is_book = All-head (IsBook journal) book [] right.books in
      let fits : Fits journal (learned book.journal pass) = subst (λ j. Fits journal (learned j pass)) (sym is_book.same) (fits_learned journal pass) in
      let after : Holds terms journal (set views id w) = record {
        lawful = holds.lawful;
        right = All-set (IsRight journal) views id w (right_lent journal terms (learned book.journal pass) book fits is_book) holds.right;
        sums = rests (over views) (over (set views id w)) (λ measure. measure v) (λ measure. measure w) (set_changes views id v w at) holds.sums (λ number. refl) refl;
      }
      in
      ((journal, shows, after), (refl, knows_view terms journal word views shows holds id v at refl))

  pub meets : (m : Me (Unit {0}) (View V)) → m ≡ (view_with (terms_of key) (pass ∷ []) (book ∷ []), [])
      → Allows (IsKept key) slots id m 0 (λ n. n) (λ found after. (after.1 ≡ []) × Meets m.0 found after.0)
  meets m is =
      let v = view_with (terms_of key) (pass ∷ []) (book ∷ []) in
      subst (λ (x : Me (Unit {0}) (View V)). Allows (IsKept key) slots id x 0 (λ n. n) (λ found after. (after.1 ≡ []) × Meets x.0 found after.0)) (sym is)
      (steps key slots id v (λ n. n) (λ word. shown v) (Meets v) meet_tells)

-- ---- the journal gets a call, of the pass that is lent
counted_one : (a b : ℕ) → a ≡ b → cond {A = ℕ} (a == b) 1 0 ≡ 1
counted_one a b same = grind (arith, nat_tests)

one_at_most : (b : Bool) → cond {A = ℕ} b 1 0 ≤ 1
one_at_most true = omega arith
one_at_most false = omega arith

module _ {V : Type 0} (terms : Terms) (id : ℕ) (pass : PassPart V) (book : BookPart V) where
  abbrev lent_view : View V
  lent_view = view_with terms (pass ∷ []) (book ∷ [])

  -- no other view has the pass's number
  no_other : (number : ℕ) (passes : List (PassPart V)) → count_by (λ (p : PassPart V). p.number == number) passes ≡ 0 → All (λ (p : PassPart V). number ≢ p.number) passes
  no_other number [] none = All-nil (λ (p : PassPart V). number ≢ p.number)
  no_other number (p ∷ passes) none =
      let cons = sum_by-cons (λ (p : PassPart V). cond (p.number == number) 1 0) p passes in
      All-cons (λ (p : PassPart V). number ≢ p.number) p passes
      (λ same. let one = counted_one p.number number (sym same) in absurd (omega arith))
      (no_other number passes (omega arith))

  no_book : (P : BookPart V → Type 0) (books : List (BookPart V)) → length books ≡ 0 → All P books
  no_book P [] none = All-nil P
  no_book P (b ∷ books) none = absurd (omega arith)

  -- the number of the pass is one that was made
  is_made : (number made : ℕ) → ((0 + 1) + (0 + cond (in_range number (made, most_passes)) 1 0)) ≤ cond (nat_lt number most_passes) 1 0 → number < made
  is_made number made few = grind (arith, nat_tests)

  counts_self : (number : ℕ) → number ≡ pass.number → count_by (λ (p : PassPart V). p.number == number) (pass ∷ []) ≡ 1
  counts_self number is = let one = counted_one pass.number number (sym is) in omega arith

  pub made_before : (word : ℕ) → Knows lent_view word → pass.number < book.made
  made_before word knows =
      let few = knows.numbers pass.number in
      let self = counts_self pass.number refl in
      is_made pass.number book.made (omega arith)

  enter_keeps : (journal : List (Logged V)) (logged : Logged V) (word : ℕ) (views : List (View V)) → logged.entry.caller ≡ pass.number → IsAllowed terms.makers logged → IsJournal terms (journal ++ logged ∷ [])
      → Shows journal word → Holds terms journal views → get_elem? views id ≡ some lent_view → Holds terms (journal ++ logged ∷ []) (set views id (entered (journal ++ logged ∷ []) lent_view))
  enter_keeps journal logged word views caller allowed lawful shows holds at =
      let then = journal ++ logged ∷ [] in
      let w = entered then lent_view in
      let mine = All-at (IsRight journal) views id lent_view at holds.right in
      let is_book = All-head (IsBook journal) book [] mine.books in
      let number = logged.entry.caller in
      let knows = knows_view terms journal word views shows holds id lent_view at refl in
      let before : number < book.made = let b = made_before word knows in omega (arith, caller) in
      let self = counts_self number caller in
      let is_book' : IsBook then (rewritten then book) = record {
        same = refl;
        few = is_book.few;
        callers = All-append (λ (l : Logged V). l.entry.caller < book.made) journal (logged ∷ []) is_book.callers
            (All-cons (λ (l : Logged V). l.entry.caller < book.made) logged [] before (All-nil (λ (l : Logged V). l.entry.caller < book.made)));
      }
      in
      let others : (other : ℕ) (u : View V) → get_elem? views other ≡ some u → other ≢ id → IsRight then u = λ other u there apart.
      let right = All-at (IsRight journal) views other u there holds.right in
      let numbers = two_within (numbered number) views id other lent_view u at there apart in
      let books = two_within book_count views id other lent_view u at there apart in
      let one = holds.sums.numbers number in
      let one_book = holds.sums.book in
      let some = one_at_most (nat_lt number most_passes) in
      let none : count_by (λ (p : PassPart V). p.number == number) u.passes ≡ 0 = omega arith in
      let apart_all = no_other number u.passes none in
      record {
        passes = λ i p below. fits_later journal logged _ (apart_all i p below) (right.passes i p below);
        books = no_book (IsBook then) u.books (omega arith);
      }
      in
      record {
        lawful = lawful;
        right = All-set_else (IsRight then) views id w (right_lent then terms (learned then pass) (rewritten then book) (fits_learned then pass) is_book') others;
        sums = rests (over views) (over (set views id w)) (λ measure. measure lent_view) (λ measure. measure w) (set_changes views id lent_view w at) holds.sums (λ number. refl) refl;
      }

module _ {V : Type 0} (key : Opening V) (slots id : ℕ) (pass : PassPart V) (book : BookPart V) (calls : List (Logged V)) (new : ℕ) where
  enter_same : (journal : List (Logged V)) (views : List (View V)) → calls ≡ journal → Shows calls new → Holds (terms_of key) journal views → get_elem? views id ≡ some (view_with (terms_of key) (pass ∷ []) (book ∷ []))
      → (then : List (Logged V)) × Shows then new × Holds (terms_of key) then (set views id (entered calls (view_with (terms_of key) (pass ∷ []) (book ∷ []))))
  enter_same journal views same shows holds at =
      let terms = terms_of key in
      let v = view_with terms (pass ∷ []) (book ∷ []) in
      let w = entered calls v in
      let right = All-at (IsRight journal) views id v at holds.right in
      let is_book = All-head (IsBook journal) book [] right.books in
      let fits : Fits journal (learned calls pass) = subst (λ j. Fits journal (learned j pass)) (sym same) (fits_learned journal pass) in
      let is_book' : IsBook journal (rewritten calls book) = record { same = same; few = is_book.few; callers = is_book.callers } in (
        journal,
        subst (λ j. Shows j new) same shows,
        record {
          lawful = holds.lawful;
          right = All-set (IsRight journal) views id w (right_lent journal terms (learned calls pass) (rewritten calls book) fits is_book') holds.right;
          sums = rests (over views) (over (set views id w)) (λ measure. measure v) (λ measure. measure w) (set_changes views id v w at) holds.sums (λ number. refl) refl;
        },
      )

  enter_more : (journal : List (Logged V)) (word : ℕ) (views : List (View V)) (logged : Logged V) → Grew (terms_of key) pass.number journal calls logged → Shows calls new → IsLegal (future_at (terms_of key) calls)
      → Shows journal word → Holds (terms_of key) journal views → get_elem? views id ≡ some (view_with (terms_of key) (pass ∷ []) (book ∷ []))
      → (then : List (Logged V)) × Shows then new × Holds (terms_of key) then (set views id (entered calls (view_with (terms_of key) (pass ∷ []) (book ∷ []))))
  enter_more journal word views logged grew shows legal was holds at =
      let terms = terms_of key in
      let v = view_with terms (pass ∷ []) (book ∷ []) in
      let lawful : IsJournal terms (journal ++ logged ∷ []) = record {
        legal = subst (λ j. IsLegal (future_at terms j)) grew.longer legal;
        allowed = All-append (IsAllowed terms.makers) journal (logged ∷ []) holds.lawful.allowed (All-cons (IsAllowed terms.makers) logged [] grew.allowed (All-nil (IsAllowed terms.makers)));
      }
      in
      let kept = enter_keeps terms id pass book journal logged word views grew.caller grew.allowed lawful was holds at in
      (calls, shows, subst (λ j. Holds terms j (set views id (entered j v))) (sym grew.longer) kept)

  enter_tells : Follows (terms_of key) pass.number book.journal calls → Shows calls new → IsLegal (future_at (terms_of key) calls)
      → (journal : List (Logged V)) (word : ℕ) (views : List (View V)) → Shows journal word → Holds (terms_of key) journal views → get_elem? views id ≡ some (view_with (terms_of key) (pass ∷ []) (book ∷ []))
      → (then : List (Logged V)) × Shows then new × Holds (terms_of key) then (set views id (entered calls (view_with (terms_of key) (pass ∷ []) (book ∷ []))))
  enter_tells follows shows legal journal word views was holds at =
      let is_book = All-head (IsBook journal) book [] (All-at (IsRight journal) views id (view_with (terms_of key) (pass ∷ []) (book ∷ [])) at holds.right).books in
      let follows' : Follows (terms_of key) pass.number journal calls = subst (λ j. Follows (terms_of key) pass.number j calls) is_book.same follows in
      elim follows' [
        | inl same ↦ enter_same journal views same shows holds at
        | inr grew ↦ enter_more journal word views grew.0 grew.1 shows legal was holds at
      ]

  pub enters : (m : Me (Unit {0}) (View V)) → m ≡ (view_with (terms_of key) (pass ∷ []) (book ∷ []), [])
      → Follows (terms_of key) pass.number book.journal calls → Shows calls new → IsLegal (future_at (terms_of key) calls)
      → Allows (IsKept key) slots id m 0 (λ _. new) (λ _ after. (after.1 ≡ []) × Enters calls m.0 after.0)
  enters m is follows shows legal =
      let v = view_with (terms_of key) (pass ∷ []) (book ∷ []) in
      subst (λ (x : Me (Unit {0}) (View V)). Allows (IsKept key) slots id x 0 (λ _. new) (λ _ after. (after.1 ≡ []) × Enters calls x.0 after.0)) (sym is)
      (steps key slots id v (λ _. new) (λ _. entered calls v) (λ _ w. Enters calls v w)
      (λ journal word views was holds at. (enter_tells follows shows legal journal word views was holds at, refl)))

-- ---- seats become one, and two
module _ {V : Type 0} (key : Opening V) (id : ℕ) where
  at_other : (views : List (View V)) (i j : ℕ) (a b : View V) → j ≢ i → get_elem? (set views i a) j ≡ some b → get_elem? views j ≡ some b
  at_other views i j a b ne e = sym (set_else views i j a ne) ∙ e

  joined : (v : View V) (other : ℕ) (w both : View V)
      → ((journal : List (Logged V)) → IsRight journal v → IsRight journal w → IsRight journal both)
      → ((number : ℕ) → numbered number both + numbered number (nothing {V = V} no_terms) ≡ numbered number v + numbered number w)
      → book_count both + book_count (nothing {V = V} no_terms) ≡ book_count v + book_count w
      → Joins (IsKept key) id v other w both (nothing no_terms)
  joined v other w both right numbers books s is_kept me apart there =
      let views = s.views in let holds = is_kept.holds in let journal = is_kept.journal in
      let P : View V → Type 0 = IsRight journal in
      let right' : P both = right journal (All-at P views id v me holds.right) (All-at P views other w (at_other views id other both w apart there) holds.right) in
      record {
        journal = journal;
        word = is_kept.word;
        words = is_kept.words;
        shows = is_kept.shows;
        holds = record {
          lawful = holds.lawful;
          right = All-set P (set views id both) other (nothing no_terms) (right_nothing journal no_terms) (All-set P views id both right' holds.right);
          sums = rests (over views) (over (set (set views id both) other (nothing no_terms))) (λ measure. measure v + measure w) (λ measure. measure both + measure (nothing no_terms))
              (join_changes views id other v w both (nothing no_terms) me there) holds.sums numbers books;
        };
      }

  split : (v left right : View V)
      → ((journal : List (Logged V)) → IsRight journal v → IsRight journal left × IsRight journal right)
      → ((number : ℕ) → numbered number left + numbered number right ≡ numbered number v)
      → book_count left + book_count right ≡ book_count v
      → Splits (IsKept key) id v left right
  split v left right rights numbers books s is_kept me =
      let views = s.views in let holds = is_kept.holds in let journal = is_kept.journal in
      let P : View V → Type 0 = IsRight journal in
      let both = rights journal (All-at P views id v me holds.right) in
      record {
        journal = journal;
        word = is_kept.word;
        words = is_kept.words;
        shows = is_kept.shows;
        holds = record {
          lawful = holds.lawful;
          right = All-snoc P (set views id left) right both.1 (All-set P views id left both.0 holds.right);
          sums = rests (over views) (over (set views id left ++ right ∷ [])) (λ measure. measure v) (λ measure. measure left + measure right)
              (split_changes views id v left right me) holds.sums numbers books;
        };
      }

  -- the book's seat joins the pass's
  lends' : (terms terms' : Terms) (pass : PassPart V) (other : ℕ) (book : BookPart V)
      → Joins (IsKept key) id (view_with terms (pass ∷ []) []) other (view_with terms' [] (book ∷ [])) (lent (view_with terms (pass ∷ []) []) (view_with terms' [] (book ∷ []))) (nothing no_terms)
  lends' terms terms' pass other book = joined (view_with terms (pass ∷ []) []) other (view_with terms' [] (book ∷ [])) (lent (view_with terms (pass ∷ []) []) (view_with terms' [] (book ∷ [])))
      (λ journal v w. record { passes = v.passes; books = w.books })
      (λ number. omega arith)
      refl

  pub lends : (v : View V) (other : ℕ) (w : View V) (terms terms' : Terms) (pass : PassPart V) (book : BookPart V) → v ≡ view_with terms (pass ∷ []) [] → w ≡ view_with terms' [] (book ∷ [])
      → Joins (IsKept key) id v other w (lent v w) (nothing no_terms)
  lends v other w terms terms' pass book v_is w_is =
      subst (λ x. Joins (IsKept key) id x other w (lent x w) (nothing no_terms)) (sym v_is)
      (subst (λ y. Joins (IsKept key) id (view_with terms (pass ∷ []) []) other y (lent (view_with terms (pass ∷ []) []) y) (nothing no_terms)) (sym w_is) (lends' terms terms' pass other book))

  -- the pass and the book are two seats again
  pub hands_back : (v : View V) → Splits (IsKept key) id v (pass_only v) (book_only v)
  hands_back v = split v (pass_only v) (book_only v)
      (λ journal right. (record { passes = right.passes; books = All-nil (IsBook journal) }, record { passes = All-nil (Fits journal); books = right.books }))
      (λ number. omega arith)
      (omega arith)

  -- the book makes a pass
  next_covered : (number made : ℕ) → made < most_passes → cond {A = ℕ} (in_range number (made + 1, most_passes)) 1 0 + cond {A = ℕ} (made == number) 1 0 ≡ cond (in_range number (made, most_passes)) 1 0
  next_covered number made room = grind (arith, nat_tests)

  book_grown : (journal : List (Logged V)) (book : BookPart V) → IsBook journal book → book.made < most_passes → IsBook journal (one_more book)
  book_grown journal book is_book room = record {
    same = is_book.same;
    few = omega arith;
    callers = All-weaker (λ (l : Logged V). l.entry.caller < book.made) (λ (l : Logged V). l.entry.caller < book.made + 1) (λ l below. omega arith) journal is_book.callers;
  }

  makes' : (terms : Terms) (book : BookPart V) → book.made < most_passes
      → Splits (IsKept key) id (view_with terms [] (book ∷ [])) (counted_on (view_with terms [] (book ∷ []))) (made_from (view_with terms [] (book ∷ [])))
  makes' terms book room = split (view_with terms [] (book ∷ [])) (counted_on (view_with terms [] (book ∷ []))) (made_from (view_with terms [] (book ∷ [])))
      (λ journal right.
      let is_book = All-head (IsBook journal) book [] right.books in (
        right_book journal terms (one_more book) (book_grown journal book is_book room),
        right_pass journal terms (made_pass book) (subst (λ j. Fits journal (learned j (made_pass book))) (sym is_book.same) (fits_learned journal (made_pass book))),
      ))
      (λ number. let covered = next_covered number book.made room in omega arith)
      refl

  pub makes : (v : View V) (terms : Terms) (book : BookPart V) → v ≡ view_with terms [] (book ∷ []) → book.made < most_passes → Splits (IsKept key) id v (counted_on v) (made_from v)
  makes v terms book is room = subst (λ x. Splits (IsKept key) id x (counted_on x) (made_from x)) (sym is) (makes' terms book room)

  -- a child of the pass that is lent
  makes_child' : (terms : Terms) (pass : PassPart V) (book : BookPart V) → book.made < most_passes
      → Splits (IsKept key) id (view_with terms (pass ∷ []) (book ∷ [])) (counted_on (view_with terms (pass ∷ []) (book ∷ []))) (made_from (view_with terms (pass ∷ []) (book ∷ [])))
  makes_child' terms pass book room = split (view_with terms (pass ∷ []) (book ∷ [])) (counted_on (view_with terms (pass ∷ []) (book ∷ []))) (made_from (view_with terms (pass ∷ []) (book ∷ [])))
      (λ journal right.
      let fits = All-head (Fits journal) pass [] right.passes in
      let is_book = All-head (IsBook journal) book [] right.books in (
        right_lent journal terms (with_child pass) (one_more book) (record { saw = fits.saw; own = fits.own }) (book_grown journal book is_book room),
        right_pass journal terms (made_pass book) (subst (λ j. Fits journal (learned j (made_pass book))) (sym is_book.same) (fits_learned journal (made_pass book))),
      ))
      (λ number. let covered = next_covered number book.made room in omega arith)
      refl

  pub makes_child : (v : View V) (terms : Terms) (pass : PassPart V) (book : BookPart V) → v ≡ view_with terms (pass ∷ []) (book ∷ []) → book.made < most_passes
      → Splits (IsKept key) id v (counted_on v) (made_from v)
  makes_child v terms pass book is room = subst (λ x. Splits (IsKept key) id x (counted_on x) (made_from x)) (sym is) (makes_child' terms pass book room)

-- ---- the beginning
first_numbers : (number : ℕ) → ((0 + cond {A = ℕ} (0 == number) 1 0) + (0 + cond {A = ℕ} (in_range number (1, most_passes)) 1 0)) ≡ cond (nat_lt number most_passes) 1 0
first_numbers number = grind (arith, nat_tests)

pub begins : {V : Type 0} (key : Opening V) (word : ℕ) → Shows key.core.calls word → IsJournal (terms_of key) key.core.calls → All (λ (l : Logged V). l.entry.caller < 1) key.core.calls
    → IsKept key (opening (word ∷ []) [] (first_view key))
begins {V} key word shows lawful callers =
    let journal = key.core.calls in
    record {
      journal = journal;
      word = word;
      words = refl;
      shows = shows;
      holds = record {
        lawful = lawful;
        right = All-cons (IsRight journal) (first_view key) []
            (right_lent journal (terms_of key) (first_pass journal) (first_book journal) (fits_learned journal (first_pass journal)) (record { same = refl; few = omega arith; callers = callers }))
            (All-nil (IsRight journal));
        sums = record { numbers = λ number. let first = first_numbers number in omega arith; book = refl };
      };
    }
