-- A new engine, and its desks.
use Rattle.std.proofs.Common.{◌≡◌, ℕ, zero, suc, ◌+◌, ◌<◌, ◌≤◌, ◌==◌, Bool, true, false, List, [], ◌∷◌, ◌++◌, Option, Some, IfSome, All, length, slice_get, option_to_list, inl, refl, ap, sym, ◌∙◌, subst, arith, length-append}
use Rattle.std.specs.Prelude.{Contains}
use Rattle.qtc_kernel.specs.Runs.{times_called}
use Rattle.std.proofs.Math.Nat.{mod-eq_of_lt}
use Rattle.std.proofs.lemmas.Bool.Decides.{nat_tests}
use Rattle.std.proofs.lemmas.List.Elements.{All-cons, All-filter, All-head, All-nil, All-tail}
use Rattle.qtc_active.specs.Count.{BadgeState, CountId, IsNew as IsNewCount, new_badge}
use Rattle.qtc_claim.specs.Claims.{IsWithinLimits, clipped, new_worker}
use Rattle.qtc_claim.specs.Counter.{CounterId, IsNew, SeatState, TallyState, new_tally}
use Rattle.qtc_events.specs.declared.calls.Call.TheVariants.{Cancel, Fail, Start}
use Rattle.qtc_events.specs.declared.entries.Reached.{Reached}
use Rattle.qtc_future.specs.Answering.{IsStep}
use Rattle.qtc_future.specs.Future.{Future, Logged, new_future}
use Rattle.qtc_future.specs.Steps.{Told, step}
use Rattle.qtc_future.specs.declared.requests.Request.TheVariants.{Start as AskStart}
use Rattle.qtc_future.proofs.Plain.{idle_reached}
use Rattle.qtc_ops.specs.ItemValue.{ItemValue}
use Rattle.qtc_shared.specs.Journals.{BeginsWith, calls_by}
use Rattle.qtc_shared.specs.Parts.{Terms}
use Rattle.qtc_shared.specs.Passes.{FutureId, IsShared, PassState, pass_at}
use Rattle.qtc_shared.proofs.Prefixes.{begins_same}
use Rattle.qtc_kernel.specs.OwnPasses.{is_filter, is_reduced, opening, own_entry, own_passes, plan_terms}
use Rattle.qtc_kernel.proofs.OwnPasses.{plain_passes}
use Rattle.qtc_kernel.specs.EngineParts.{EngineParts, AreReported, DeskState, IsBoard, FitTogether, IsDesk, IsEngineOf, IsLeft, IsNewDesk, HasBoard, IsBoardCall, IsOpened, IsOwnCall, IsPlanned, parts_with, desks_with, ranges_by, reporter, value_by, work_of}
use Rattle.qtc_kernel.specs.declared.kinds.Kind.{Kind}

-- ---- the start

abbrev opened_with : Bool → (cancel_after suspend_after : ℕ) → Future (List ℕ)
opened_with filter cancel_after suspend_after = record (new_future filter cancel_after suspend_after) { calls = opening }

pub start_opens : (filter : Bool) (cancel_after suspend_after : ℕ) (core : Future (List ℕ)) (told : Told) → IsStep (step (new_future filter cancel_after suspend_after) 0 AskStart) core told → core ≡ opened_with filter cancel_after suspend_after
start_opens filter cancel_after suspend_after core told done =
    done.future
    ∙ ap (λ (reached : Reached). record (new_future filter cancel_after suspend_after) { calls = record { entry = record { caller = 0; call = Start; reached = reached }; values = []; item = [] } ∷ [] })
    (sym (idle_reached (new_future {V = List ℕ} filter cancel_after suspend_after) Start refl))

-- ---- passes that were taken from the end

get_front : {X : Type 0} (xs ys : List X) (i : ℕ) → i < length xs → slice_get (xs ++ ys) i ≡ slice_get xs i
get_front [] ys i within = absurd (omega arith)
get_front (x ∷ xs) ys zero within = refl
get_front (x ∷ xs) ys (suc i) within = get_front xs ys i (omega arith)

get_last : {X : Type 0} (xs : List X) (y : X) → slice_get (xs ++ y ∷ []) (length xs) ≡ Some y
get_last [] y = refl
get_last (x ∷ xs) y = get_last xs y

same_some : {X : Type 0} (x y : X) → Some x ≡ Some y → x ≡ y
same_some x y e = cc

-- the last of them, and what the others are
pub popped_last : {X : Type 0} (f : ℕ → X) (all left : List X) (taken : Option X) (x : X) → all ≡ left ++ option_to_list taken → taken ≡ Some x → ((i : ℕ) → i < length all → slice_get all i ≡ Some (f i)) → x ≡ f (length left)
popped_last f all left taken x is taken_is each =
    let whole : all ≡ left ++ x ∷ [] = is ∙ ap (λ o. left ++ option_to_list o) taken_is in
    let long : length all ≡ length left + 1 = ap length whole ∙ length-append left (x ∷ []) in
    same_some x (f (length left)) (sym (get_last left x) ∙ sym (ap (λ xs. slice_get xs (length left)) whole) ∙ each (length left) (omega arith))

pub popped_others : {X : Type 0} (f : ℕ → X) (all left : List X) (taken : Option X) (x : X) → all ≡ left ++ option_to_list taken → taken ≡ Some x → ((i : ℕ) → i < length all → slice_get all i ≡ Some (f i)) → (i : ℕ) → i < length left → slice_get left i ≡ Some (f i)
popped_others f all left taken x is taken_is each i within =
    let whole : all ≡ left ++ x ∷ [] = is ∙ ap (λ o. left ++ option_to_list o) taken_is in
    let long : length all ≡ length left + 1 = ap length whole ∙ length-append left (x ∷ []) in
    sym (get_front left (x ∷ []) i within) ∙ sym (ap (λ xs. slice_get xs i) whole) ∙ each i (omega arith)

pub popped_length : {X : Type 0} (all left : List X) (taken : Option X) (x : X) → all ≡ left ++ option_to_list taken → taken ≡ Some x → length all ≡ length left + 1
popped_length all left taken x is taken_is = ap length (is ∙ ap (λ o. left ++ option_to_list o) taken_is) ∙ length-append left (x ∷ [])

-- ---- the future

module _ (kind : Kind) (plain : is_reduced kind ≡ false) (cancel_after suspend_after workers : ℕ) (core : Future (List ℕ)) (core_is : core ≡ opened_with (is_filter kind) cancel_after suspend_after)
    (future : FutureId) (all : List (PassState (List ℕ))) (shared : IsShared core (workers + 1) (workers + 2) future all)
    (first : List (PassState (List ℕ))) (taken : Option (PassState (List ℕ))) (caller : PassState (List ℕ)) (all_are : all ≡ first ++ option_to_list taken) (taken_is : taken ≡ Some caller)
    (left : List (PassState (List ℕ))) (taken' : Option (PassState (List ℕ))) (reporting : PassState (List ℕ)) (first_are : first ≡ left ++ option_to_list taken') (taken'_is : taken' ≡ Some reporting) where
  abbrev numbered : ℕ → PassState (List ℕ)
  numbered number = pass_at future number opening

  all_numbered : (number : ℕ) → number < length all → slice_get all number ≡ Some (numbered number)
  all_numbered number within = let count = shared.count_is in shared.each number (omega arith) ∙ ap (λ (f : Future (List ℕ)). Some (pass_at future number f.calls)) core_is

  first_long : length first ≡ workers + 1
  first_long = let long = popped_length all first taken caller all_are taken_is in let count = shared.count_is in omega arith

  left_long : length left ≡ workers
  left_long = let long = popped_length first left taken' reporting first_are taken'_is in let count = first_long in omega arith

  first_numbered : (number : ℕ) → number < length first → slice_get first number ≡ Some (numbered number)
  first_numbered = popped_others numbered all first taken caller all_are taken_is all_numbered

  pub future_opens : IsOpened (plan_terms kind cancel_after suspend_after workers) workers future left reporting caller
  future_opens = record {
    terms_are = shared.terms ∙ ap (λ (f : Future (List ℕ)). record { filter = f.filter; thresholds = f.thresholds; makers = workers + 1 }) core_is
        ∙ ap (λ makers. record { filter = is_filter kind; thresholds = record { cancel_after = cancel_after; suspend_after = suspend_after }; makers = makers }) (sym (plain_passes kind workers plain));
    count = left_long;
    each = λ number within. let count = left_long in popped_others numbered first left taken' reporting first_are taken'_is first_numbered number (omega arith);
    reporting_is = popped_last numbered first left taken' reporting first_are taken'_is first_numbered ∙ ap numbered left_long;
    caller_is = popped_last numbered all first taken caller all_are taken_is all_numbered ∙ ap numbered (first_long ∙ sym (plain_passes kind workers plain));
  }

-- ---- the board

module _ {F : Type 0} (value : F → List ℕ → ItemValue) (called : F → List ℕ) (parts : EngineParts F) where
  none_own : (k : ℕ) → 1 ≤ k → calls_by k opening ≡ []
  none_own k some = let is : (0 == k) ≡ false = grind (arith, nat_tests) in rw is refl

  pub board_opens : (tally : TallyState) (pass : PassState (List ℕ)) → 1 ≤ parts.counter.workers → tally ≡ new_tally parts.counter → pass ≡ pass_at parts.future (reporter parts) opening → IsBoard value parts tally pass true
  board_opens tally pass some tally_is pass_is = record {
    counter = ap (λ (t : TallyState). t.of) tally_is;
    future = ap (λ (p : PassState (List ℕ)). p.of) pass_is;
    number = ap (λ (p : PassState (List ℕ)). p.number) pass_is;
    childless = ap (λ (p : PassState (List ℕ)). p.children) pass_is;
    opened = subst (λ k. BeginsWith k opening) (sym (ap (λ (p : PassState (List ℕ)). p.known) pass_is)) (begins_same opening);
    reports =
        let none : calls_by pass.number pass.known ≡ [] = ap (λ (p : PassState (List ℕ)). calls_by p.number p.known) pass_is ∙ none_own (reporter parts) some in
        subst (All (IsBoardCall parts.future.terms false (work_of value parts) parts.counter.n parts.sizes tally.pieces)) (sym none) (All-nil (IsBoardCall parts.future.terms false (work_of value parts) parts.counter.n parts.sizes tally.pieces));
    mark = (
      λ on. subst (λ claims. AreReported parts.counter.n (reporter parts) claims pass.known) (sym (ap (λ (t : TallyState). t.pieces) tally_is)) (All-nil (λ claim. Contains (ranges_by (reporter parts) pass.known) (clipped parts.counter.n claim))),
      λ all. refl,
    );
  }

  -- ---- desks

  abbrev seat_at : ℕ → SeatState
  seat_at number = record { of = parts.counter; worker = new_worker number }

  abbrev desk_at : ℕ → F → DeskState F
  desk_at number function = record {
    seat = seat_at number;
    pass = pass_at parts.future number opening;
    badge = new_badge parts.active;
    function = function;
    next_size = 0;
    wants_memory = false;
  }

  new_desk : (number : ℕ) (function : F) → 1 ≤ length parts.sizes → number < parts.counter.workers → value function ≡ value_by value parts.functions → called function ≡ [] → IsDesk value called parts (desk_at number function)
  new_desk number function some below alike fresh = record {
    seated = record {
      counter = refl;
      future = refl;
      badge = refl;
      childless = refl;
      numbered = refl;
      below = below;
      valued = alike;
      opened = begins_same opening;
      next_size = sym (mod-eq_of_lt some);
      sizes = refl;
    };
    own =
        let P = IsOwnCall parts.kind parts.future.terms (work_of value parts) false (called function) in
        All-filter (λ (logged : Logged (List ℕ)). logged.entry.caller == number) P opening (All-cons P (record { entry = own_entry Start; values = []; item = [] }) [] start_own (All-nil P));
    left = [];
    one = omega arith;
    worked = record {
      whole = [];
      parts = refl;
      least = λ index. omega arith;
      most = λ index. let none : called function ≡ [] = fresh in subst (λ calls. times_called calls index ≤ 0) (sym none) (omega arith);
    };
    board = record {
      left_are = All-nil (IsLeft parts.counter.n (reporter parts) (pass_at parts.future number opening));
      handed = inl (All-nil (λ claim. Contains (ranges_by (reporter parts) opening) (clipped parts.counter.n claim)));
    };
  }
    where
      start_own : IsOwnCall parts.kind parts.future.terms (work_of value parts) false (called function) (record { entry = own_entry Start; values = []; item = [] })
      start_own = record { own = refl; fails = λ index e. absurd (not_fail index e); cancels = λ e. absurd (not_cancel e) }
        where
          not_fail : (index : ℕ) → Start ≡ Fail index → ⊥
          not_fail index e = absurd (cc)

          not_cancel : Start ≡ Cancel → ⊥
          not_cancel e = absurd (cc)

  -- as many desks as functions, each new
  pub record AreFresh (k : ℕ) (desks : List (DeskState F)) (count : ℕ) : Type 0 where
    pub count_is : length desks ≡ count
    pub each : All (IsDesk value called parts) desks
    pub fresh : (i : ℕ) → i < count → IfSome (slice_get desks i) (IsNewDesk parts (k + i))

  pub desks_fresh : (k : ℕ) (seats : List SeatState) (passes : List (PassState (List ℕ))) (badges : List BadgeState) (functions : List F) → 1 ≤ length parts.sizes → length seats ≡ length functions → length passes ≡ length functions → length badges ≡ length functions
      → k + length functions ≤ parts.counter.workers
      → ((i : ℕ) → i < length functions → slice_get seats i ≡ Some (seat_at (k + i))) → ((i : ℕ) → i < length functions → slice_get passes i ≡ Some (pass_at parts.future (k + i) opening))
      → All (λ function. value function ≡ value_by value parts.functions) functions → All (λ function. called function ≡ []) functions
      → ((i : ℕ) → i < length functions → slice_get parts.functions (k + i) ≡ slice_get functions i) → All (λ badge. badge ≡ new_badge parts.active) badges
      → AreFresh k (desks_with seats passes badges functions) (length functions)
  desks_fresh k [] passes badges [] some seats_long passes_long badges_long few seats_are passes_are alike fresh there out = record { count_is = refl; each = All-nil (IsDesk value called parts); fresh = λ i within. absurd (omega arith) }
  desks_fresh k [] passes badges (function ∷ functions) some seats_long passes_long badges_long few seats_are passes_are alike fresh there out = absurd (omega arith)
  desks_fresh k (seat ∷ seats) passes badges [] some seats_long passes_long badges_long few seats_are passes_are alike fresh there out = absurd (omega arith)
  desks_fresh k (seat ∷ seats) [] badges (function ∷ functions) some seats_long passes_long badges_long few seats_are passes_are alike fresh there out = absurd (omega arith)
  desks_fresh k (seat ∷ seats) (pass ∷ passes) [] (function ∷ functions) some seats_long passes_long badges_long few seats_are passes_are alike fresh there out = absurd (omega arith)
  desks_fresh k (seat ∷ seats) (pass ∷ passes) (badge ∷ badges) (function ∷ functions) some seats_long passes_long badges_long few seats_are passes_are alike fresh there out =
      let P : F → Type 0 = λ function. value function ≡ value_by value parts.functions in
      let Q : F → Type 0 = λ function. called function ≡ [] in
      let seat_is : seat ≡ seat_at k = same_some seat (seat_at k) (seats_are 0 (omega arith) ∙ ap (λ j. Some (seat_at j)) (omega arith)) in
      let pass_is : pass ≡ pass_at parts.future k opening = same_some pass (pass_at parts.future k opening) (passes_are 0 (omega arith) ∙ ap (λ j. Some (pass_at parts.future j opening)) (omega arith)) in
      let B : BadgeState → Type 0 = λ badge. badge ≡ new_badge parts.active in
      let badge_is = All-head B badge badges out in
      let rest = desks_fresh (k + 1) seats passes badges functions some (omega arith) (omega arith) (omega arith) (omega arith)
      (λ i within. seats_are (suc i) (omega arith) ∙ ap (λ j. Some (seat_at j)) (omega arith)) (λ i within. passes_are (suc i) (omega arith) ∙ ap (λ j. Some (pass_at parts.future j opening)) (omega arith))
      (All-tail P function functions alike) (All-tail Q function functions fresh)
      (λ i within. ap (slice_get parts.functions) (omega arith) ∙ there (suc i) (omega arith)) (All-tail B badge badges out) in
      let first = new_desk k function some (omega arith) (All-head P function functions alike) (All-head Q function functions fresh) in
      let is : desks_with (seat ∷ seats) (pass ∷ passes) (badge ∷ badges) (function ∷ functions) ≡ desk_at k function ∷ desks_with seats passes badges functions =
      λ i. record { seat = seat_is i; pass = pass_is i; badge = badge_is i; function = function; next_size = 0; wants_memory = false } ∷ desks_with seats passes badges functions
      in
      let count = rest.count_is in
      record {
        count_is = omega arith;
        each = subst (All (IsDesk value called parts)) (sym is) (All-cons (IsDesk value called parts) (desk_at k function) (desks_with seats passes badges functions) first rest.each);
        fresh = λ i within. subst (λ (desks : List (DeskState F)). IfSome (slice_get desks i) (IsNewDesk parts (k + i))) (sym is) (at i (omega arith) rest.fresh);
      }
    where
      at : (i : ℕ) → i < length functions + 1 → ((j : ℕ) → j < length functions → IfSome (slice_get (desks_with seats passes badges functions) j) (IsNewDesk parts (k + 1 + j)))
          → IfSome (slice_get (desk_at k function ∷ desks_with seats passes badges functions) i) (IsNewDesk parts (k + i))
      at zero within others = subst (λ j. IsNewDesk parts j (desk_at k function)) (omega arith) (record { seat = refl; pass = refl; function = ap (slice_get parts.functions) (omega arith) ∙ there 0 (omega arith); badge = refl; wants_memory = refl })
      at (suc i) within others = subst (λ j. IfSome (slice_get (desks_with seats passes badges functions) i) (IsNewDesk parts j)) (omega arith) (others i (omega arith))

-- ---- the engine

module _ {F R : Type 0} (value : F → List ℕ → ItemValue) (called : F → List ℕ) (kind : Kind) (fold : Option R) (items : List (List ℕ)) (workers : ℕ) (sizes : List ℕ) (functions : List F) (planned : IsPlanned value called kind fold items workers sizes functions) (cancel_after suspend_after : ℕ)
    (future : FutureId) (passes : List (PassState (List ℕ))) (reporting caller : PassState (List ℕ)) (opened : IsOpened (plan_terms kind cancel_after suspend_after workers) workers future passes reporting caller)
    (counter : CounterId) (seats : List SeatState) (tally : TallyState) (new : IsNew (length items) workers counter seats tally)
    (active : CountId) (badges : List BadgeState) (counted : IsNewCount workers active badges) where
  abbrev made : EngineParts F
  made = parts_with kind counter future active items functions sizes

  pub made_fits : FitTogether value made
  made_fits = record {
    indexes = new.indexes;
    limits = subst (λ n. IsWithinLimits n counter.workers) (sym new.indexes) (subst (IsWithinLimits (length items)) (sym new.for_workers) planned.limits);
    active = counted.for_workers ∙ sym new.for_workers;
    makers = ap (λ (terms : Terms). terms.makers) opened.terms_are ∙ ap (own_passes kind) (sym new.for_workers);
    filter = ap (λ (terms : Terms). terms.filter) opened.terms_are;
    sizes = planned.sizes_are;
    suits = planned.suits;
  }

  pub made_has : HasBoard made
  made_has = record { plain = planned.plain }

  pub made_board : IsBoard value made tally reporting true
  made_board = board_opens value called made tally reporting (let one = planned.limits.one in let is = new.for_workers in omega arith) new.nothing (opened.reporting_is ∙ ap (λ k. pass_at future k opening) (sym new.for_workers))

  fresh : AreFresh value called made 0 (desks_with seats passes badges functions) (length functions)
  fresh =
      let count = planned.count in
      let seats_count = new.count in
      let passes_count = opened.count in
      let are = new.for_workers in
      let badges_count = counted.one_each in
      desks_fresh value called made 0 seats passes badges functions planned.sizes_are.some (omega arith) (omega arith) (omega arith) (omega arith)
      (λ i within. new.each i (omega arith) ∙ ap (λ j. Some (seat_at value called made j)) (omega arith))
      (λ i within. opened.each i (omega arith) ∙ ap (λ j. Some (pass_at future j opening)) (omega arith))
      planned.alike planned.fresh (λ i within. ap (slice_get functions) (omega arith)) counted.all_out

  pub made_engine : (parts : EngineParts F) (desks : List (DeskState F)) → parts ≡ made → desks ≡ desks_with seats passes badges functions → IsEngineOf value called items kind (plan_terms kind cancel_after suspend_after workers) sizes functions parts desks caller
  made_engine parts desks parts_are desks_are =
      let is : IsEngineOf value called items kind (plan_terms kind cancel_after suspend_after workers) sizes functions made (desks_with seats passes badges functions) caller = record {
        kind_is = refl;
        items_are = refl;
        functions_are = refl;
        sizes_are = refl;
        terms_are = opened.terms_are;
        fits = made_fits;
        board = made_has;
        desks_are = record { count = fresh.count_is ∙ planned.count ∙ sym new.for_workers; each = fresh.each };
        fresh = λ number within. let count = fresh.count_is in subst (λ j. IfSome (slice_get (desks_with seats passes badges functions) number) (IsNewDesk made j)) (omega arith) (fresh.fresh number (omega arith));
        pass_is = opened.caller_is ∙ ap (λ k. pass_at future (own_passes kind k) opening) (sym new.for_workers);
      } in
      subst (λ (c : EngineParts F). IsEngineOf value called items kind (plan_terms kind cancel_after suspend_after workers) sizes functions c desks caller) (sym parts_are)
      (subst (λ (ds : List (DeskState F)). IsEngineOf value called items kind (plan_terms kind cancel_after suspend_after workers) sizes functions made ds caller) (sym desks_are) is)
