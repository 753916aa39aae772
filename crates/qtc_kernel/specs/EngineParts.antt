-- An engine with workers, and a worker's desk, as contracts see them. (After Qt's ThreadEngine and IterateKernel; own.)
use Rattle.std.specs.Prelude.{◌≡◌, ◌+◌, ◌<◌, ◌≤◌, ◌||◌, ◌⊎◌, ◌==◌, ◌&&◌, ◌↔◌, not, ℕ, Bool, true, false, List, [], ◌∷◌, ◌++◌, Option, None, Some, All, Contains, IfSome, IsTrue, is_some, map, length, slice_get, ◌%◌}
use Rattle.std.specs.List.{list_any}
use Rattle.qtc_base.specs.Ranges.{times_covered}
use Rattle.qtc_active.specs.Count.{BadgeState, CountId, new_badge}
use Rattle.qtc_claim.specs.Claims.{Addition, IsWithinLimits, clipped, gave, new_worker}
use Rattle.qtc_claim.specs.Counter.{CounterId, SeatState, TallyState}
use Rattle.qtc_events.specs.Flags.{Standing}
use Rattle.qtc_events.specs.declared.calls.Call.{Call}
use Rattle.qtc_events.specs.declared.calls.Call.TheVariants.{Report, Cancel, Fail}
use Rattle.qtc_future.specs.Future.{Logged, batches_in, reports_of}
use Rattle.qtc_future.specs.declared.replies.Failure.{Failure}
use Rattle.qtc_store.specs.declared.batch.Batch.{Batch}
use Rattle.qtc_ops.specs.ItemValue.{ItemValue, dropped}
use Rattle.qtc_lock.specs.Lock.{no_table}
use Rattle.qtc_shared.specs.Rule.{no_terms}
use Rattle.qtc_shared.specs.Journals.{BeginsWith, calls_by, flags_at}
use Rattle.qtc_shared.specs.Parts.{Terms}
use Rattle.qtc_shared.specs.Passes.{FutureId, PassState, pass_at}
use Rattle.qtc_kernel.specs.Driving.{AreSizes, in_turn}
use Rattle.qtc_kernel.specs.OwnPasses.{board_makes, desk_makes, drops_items, is_filter, is_reduced, opening, own_passes}
use Rattle.qtc_kernel.specs.declared.kinds.Kind.{Kind}
use Rattle.qtc_kernel.specs.declared.kinds.Kind.TheVariants.{Mapped}
use Rattle.qtc_kernel.specs.Laws.{IsFailing}
use Rattle.qtc_kernel.specs.Runs.{HasTexts, IsBlock, range_of, times_called}
use Rattle.qtc_kernel.specs.Workload.{Suits, Workload, first_bad, workload}

-- ---- an engine

-- what engines of all kinds have: the kind, the counter, the future and the count of workers that are in, the items, the
-- functions of the workers as they began, and the sizes of the blocks
pub record EngineParts (F : Type 0) : Type 0 where
  pub kind : Kind
  pub counter : CounterId
  pub future : FutureId
  pub active : CountId
  pub items : List (List ℕ)
  pub functions : List F
  pub sizes : List ℕ

-- a name that stands for any engine, for a board that nobody placed
abbrev pub no_parts : {F : Type 0} → EngineParts F
no_parts = record {
  kind = Mapped;
  counter = record { table = no_table; n = 0; workers = 0 };
  future = record { table = no_table; terms = no_terms };
  active = record { table = no_table; workers = 0 };
  items = [];
  functions = [];
  sizes = [];
}

abbrev pub parts_with : {F : Type 0} → Kind → CounterId → FutureId → CountId → List (List ℕ) → List F → List ℕ
    → EngineParts F
parts_with kind counter future active items functions sizes = record {
  kind = kind;
  counter = counter;
  future = future;
  active = active;
  items = items;
  functions = functions;
  sizes = sizes;
}

-- an engine whose workers share a board: it is of a plain kind, and a pass beside those of the workers reports for all
pub record HasBoard {F : Type 0} (parts : EngineParts F) : Type 0 where
  pub plain : is_reduced parts.kind ≡ false

-- the number of that pass
abbrev pub reporter : {F : Type 0} → EngineParts F → ℕ
reporter parts = parts.counter.workers

module _ {F : Type 0} (value : F → List ℕ → ItemValue) where
  -- what the functions make of an item, which is the same for all
  abbrev pub value_by : List F → List ℕ → ItemValue
  value_by [] = λ item. dropped
  value_by (function ∷ functions) = value function

  -- what the engine works on
  abbrev pub work_of : EngineParts F → Workload
  work_of parts = workload parts.items (value_by parts.functions)

  -- its parts fit each other
  pub record FitTogether (parts : EngineParts F) : Type 0 where
    pub indexes : parts.counter.n ≡ length parts.items
    pub limits : IsWithinLimits parts.counter.n parts.counter.workers
    pub active : parts.active.workers ≡ parts.counter.workers
    pub makers : parts.future.terms.makers ≡ own_passes parts.kind parts.counter.workers
    pub filter : parts.future.terms.filter ≡ is_filter parts.kind
    pub sizes : AreSizes parts.sizes
    pub suits : Suits (drops_items parts.kind) (work_of parts)

-- ---- journals

-- the ranges of the batches that passes of this number reported
abbrev pub ranges_by : ℕ → List (Logged (List ℕ)) → List (ℕ × ℕ)
ranges_by number journal = map range_of (reports_of (calls_by number journal))

abbrev pub is_report : Call → Bool
is_report (Report begin kept total) = true
is_report _ = false

-- a report of another number
abbrev pub is_strange : ℕ → Logged (List ℕ) → Bool
is_strange number logged = is_report logged.entry.call && not (logged.entry.caller == number)

-- Canceled or Finished stands
abbrev pub shows_end : Standing → Bool
shows_end flags = flags.canceled || flags.finished

-- Canceled or Finished stands at the journal that the pass knows
abbrev pub KnowsEnd : PassState (List ℕ) → Type 0
KnowsEnd pass = IsTrue (shows_end (flags_at pass.known))

-- it stands there, or stood where the pass has looked since
abbrev pub HasMetEnd : PassState (List ℕ) → Type 0
HasMetEnd pass = IsTrue (list_any shows_end (flags_at pass.known ∷ pass.seen))

-- ---- a desk

-- a worker's desk: its seat at the counter, its pass, its badge, which says whether the worker is in, its function, the
-- place of its next size, and whether it wanted memory
pub record DeskState (F : Type 0) : Type 0 where
  pub seat : SeatState
  pub pass : PassState (List ℕ)
  pub badge : BadgeState
  pub function : F
  pub next_size : ℕ
  pub wants_memory : Bool

-- its claims that gave a piece, in order
abbrev pub given_at : {F : Type 0} → ℕ → DeskState F → List Addition
given_at n desk = gave n desk.seat.worker.claims

-- an item is bad, and the function was called on it
pub record IsFailedCall (work : Workload) (calls : List ℕ) (failure : Failure) : Type 0 where
  pub failing : IsFailing work failure
  pub called : 1 ≤ times_called calls failure.index

-- what a worker's own pass may have called: what a desk makes, a fail only of a bad item on which its function was called,
-- and a cancel only where it wanted memory
pub record IsOwnCall (kind : Kind) (terms : Terms) (work : Workload) (wants_memory : Bool) (calls : List ℕ)
    (logged : Logged (List ℕ)) : Type 0 where
  pub own : IsTrue (desk_makes kind terms logged.entry.call)
  pub fails : (index : ℕ) → logged.entry.call ≡ Fail index
      → IsFailedCall work calls (record { index = index; item = logged.item })
  pub cancels : logged.entry.call ≡ Cancel → IsTrue wants_memory

-- the indexes of each of these claims were called, and no others but those of the last, where that was left
pub record AreWorkedOn (n : ℕ) (claims : List Addition) (left : List Addition) (calls : List ℕ) : Type 0 where
  pub whole : List Addition
  pub parts : claims ≡ whole ++ left
  pub least : (index : ℕ) → times_covered (map (clipped n) whole) index ≤ times_called calls index
  pub most : (index : ℕ) → times_called calls index ≤ times_covered (map (clipped n) claims) index

-- each of these claims was reported by this number
abbrev pub AreReported : (n number : ℕ) → List Addition → List (Logged (List ℕ)) → Type 0
AreReported n number claims journal = All (λ claim. Contains (ranges_by number journal) (clipped n claim)) claims

-- each was; or the pass has met an end; or it knows a report of another number, which no engine's future has
abbrev pub AreHandedIn : (n number : ℕ) → List Addition → PassState (List ℕ) → Type 0
AreHandedIn n number claims pass =
    AreReported n number claims pass.known ⊎ HasMetEnd pass ⊎ IsTrue (list_any (is_strange number) pass.known)

-- as a desk is at first
pub record IsNewDesk {F : Type 0} (parts : EngineParts F) (number : ℕ) (desk : DeskState F) : Type 0 where
  pub seat : desk.seat ≡ record { of = parts.counter; worker = new_worker number }
  pub pass : desk.pass ≡ pass_at parts.future number opening
  pub function : slice_get parts.functions number ≡ Some desk.function
  pub badge : desk.badge ≡ new_badge parts.active
  pub wants_memory : desk.wants_memory ≡ false

-- desks of these seats, passes, badges and functions, as they stand beside each other
abbrev pub desks_with : {F : Type 0} → List SeatState → List (PassState (List ℕ)) → List BadgeState → List F
    → List (DeskState F)
desks_with (seat ∷ seats) (pass ∷ passes) (badge ∷ badges) (function ∷ functions) =
    record {
      seat = seat;
      pass = pass;
      badge = badge;
      function = function;
      next_size = 0;
      wants_memory = false;
    }
    ∷ desks_with seats passes badges functions
desks_with _ _ _ _ = []

-- a desk of the engine: what its pass knows, and what it claimed
pub record IsSeated {F : Type 0} (value : F → List ℕ → ItemValue) (parts : EngineParts F) (desk : DeskState F) : Type 0 where
  pub counter : desk.seat.of ≡ parts.counter
  pub future : desk.pass.of ≡ parts.future
  pub badge : desk.badge.of ≡ parts.active
  pub childless : desk.pass.children ≡ 0
  pub numbered : desk.pass.number ≡ desk.seat.worker.number
  pub below : desk.seat.worker.number < parts.counter.workers
  pub valued : value desk.function ≡ value_by value parts.functions
  pub opened : BeginsWith desk.pass.known opening
  pub next_size : desk.next_size ≡ length (given_at parts.counter.n desk) % length parts.sizes
  pub sizes : map (λ claim. claim.size) (given_at parts.counter.n desk)
      ≡ in_turn parts.sizes (length (given_at parts.counter.n desk))

-- the calls of its own pass
abbrev pub AreOwnCalls : {F : Type 0} → (F → List ℕ → ItemValue) → (F → List ℕ) → EngineParts F → DeskState F → Type 0
AreOwnCalls value called parts desk =
    All (IsOwnCall parts.kind parts.future.terms (work_of value parts) desk.wants_memory (called desk.function))
    (calls_by desk.pass.number desk.pass.known)

-- a claim of which a front at most was called: the pass knows an end, and no report of this number covers any of it
pub record IsLeft (n number : ℕ) (pass : PassState (List ℕ)) (claim : Addition) : Type 0 where
  pub ended : KnowsEnd pass
  pub uncovered : (index : ℕ) → (clipped n claim).0 ≤ index → index < (clipped n claim).1
      → times_covered (ranges_by number pass.known) index ≡ 0

-- what the desk of an engine with a board keeps beside: no report covers a claim that was left, and each claim that gave a
-- piece was handed in
pub record KeepsToBoard {F : Type 0} (parts : EngineParts F) (left : List Addition) (desk : DeskState F) : Type 0 where
  pub left_are : All (IsLeft parts.counter.n (reporter parts) desk.pass) left
  pub handed : AreHandedIn parts.counter.n (reporter parts) (given_at parts.counter.n desk) desk.pass

-- what each desk of an engine keeps, whatever its worker does: each claim that gave a piece was worked on and handed
-- in, but for one at most that was left where an end stands
pub record IsDesk {F : Type 0} (value : F → List ℕ → ItemValue) (called : F → List ℕ) (parts : EngineParts F)
    (desk : DeskState F) : Type 0 where
  pub seated : IsSeated value parts desk
  pub own : AreOwnCalls value called parts desk
  pub left : List Addition
  pub one : length left ≤ 1
  pub worked : AreWorkedOn parts.counter.n (given_at parts.counter.n desk) left (called desk.function)
  pub board : KeepsToBoard parts left desk

-- the desk is as it was, but for what its seat and its pass saw
pub record IsSameButLooks {F : Type 0} (old new : DeskState F) : Type 0 where
  pub claims : new.seat.worker.claims ≡ old.seat.worker.claims
  pub number : new.seat.worker.number ≡ old.seat.worker.number
  pub known : new.pass.known ≡ old.pass.known
  pub function : new.function ≡ old.function
  pub is_in : new.badge.is_in ≡ old.badge.is_in
  pub wants_memory : new.wants_memory ≡ old.wants_memory

-- ---- the board

-- a report of the values of a gathered piece, none of whose items is bad
pub record IsOfPiece (work : Workload) (n : ℕ) (sizes : List ℕ) (pieces : List Addition) (logged : Logged (List ℕ))
    : Type 0 where
  pub batch : Batch (List ℕ)
  pub reports : batches_in logged ≡ batch ∷ []
  pub texts : HasTexts work batch
  pub good : first_bad work (range_of batch) ≡ None
  pub block : IsBlock n sizes (range_of batch)
  pub gathered : Contains (map (clipped n) pieces) (range_of batch)

-- what the board's pass may have called: what a board makes, a report only of a gathered piece, and a cancel only where
-- memory was wanted
pub record IsBoardCall (terms : Terms) (wants_memory : Bool) (work : Workload) (n : ℕ) (sizes : List ℕ)
    (pieces : List Addition) (logged : Logged (List ℕ)) : Type 0 where
  pub own : IsTrue (board_makes terms logged.entry.call)
  pub reports : IsTrue (is_report logged.entry.call) → IsOfPiece work n sizes pieces logged
  pub cancels : logged.entry.call ≡ Cancel → IsTrue wants_memory

-- what is true of the tally, of the pass beside it, and of the mark, whenever no worker has them in hand: that pass makes
-- reports of gathered pieces and never wants memory, and the mark tells whether each gathered piece was reported
pub record IsBoard {F : Type 0} (value : F → List ℕ → ItemValue) (parts : EngineParts F) (tally : TallyState)
    (pass : PassState (List ℕ)) (all_reported : Bool) : Type 0 where
  pub counter : tally.of ≡ parts.counter
  pub future : pass.of ≡ parts.future
  pub number : pass.number ≡ reporter parts
  pub childless : pass.children ≡ 0
  pub opened : BeginsWith pass.known opening
  pub reports : All (IsBoardCall parts.future.terms false (work_of value parts) parts.counter.n parts.sizes tally.pieces)
      (calls_by pass.number pass.known)
  pub mark : IsTrue all_reported ↔ AreReported parts.counter.n (reporter parts) tally.pieces pass.known

-- ---- how it is made

-- what an engine may be made of: a plain kind so far, a fold exactly in a reduced one, items, as many functions as workers,
-- all of which do the same and were never called, and sizes
pub record IsPlanned {F R : Type 0} (value : F → List ℕ → ItemValue) (called : F → List ℕ) (kind : Kind)
    (fold : Option R) (items : List (List ℕ)) (workers : ℕ) (sizes : List ℕ) (functions : List F) : Type 0 where
  pub plain : is_reduced kind ≡ false
  pub folds : is_some fold ≡ is_reduced kind
  pub limits : IsWithinLimits (length items) workers
  pub sizes_are : AreSizes sizes
  pub count : length functions ≡ workers
  pub alike : All (λ function. value function ≡ value_by value functions) functions
  pub fresh : All (λ function. called function ≡ []) functions
  pub suits : Suits (drops_items kind) (workload items (value_by value functions))

-- a future as an engine with a board begins with it, on these terms, and its passes: one for each worker, the one that
-- reports for all of them, and the caller's
pub record IsOpened (terms : Terms) (workers : ℕ) (future : FutureId) (passes : List (PassState (List ℕ)))
    (reporting caller : PassState (List ℕ)) : Type 0 where
  pub terms_are : future.terms ≡ terms
  pub count : length passes ≡ workers
  pub each : (number : ℕ) → number < workers → slice_get passes number ≡ Some (pass_at future number opening)
  pub reporting_is : reporting ≡ pass_at future workers opening
  pub caller_is : caller ≡ pass_at future terms.makers opening

-- the desks are all those of the engine
pub record AreDesks {F : Type 0} (value : F → List ℕ → ItemValue) (called : F → List ℕ) (parts : EngineParts F)
    (desks : List (DeskState F)) : Type 0 where
  pub count : length desks ≡ parts.counter.workers
  pub each : All (IsDesk value called parts) desks

-- an engine of these, with a new desk for each worker, and the caller's pass
pub record IsEngineOf {F : Type 0} (value : F → List ℕ → ItemValue) (called : F → List ℕ) (items : List (List ℕ))
    (kind : Kind) (terms : Terms) (sizes : List ℕ) (functions : List F) (parts : EngineParts F)
    (desks : List (DeskState F)) (pass : PassState (List ℕ)) : Type 0 where
  pub kind_is : parts.kind ≡ kind
  pub items_are : parts.items ≡ items
  pub functions_are : parts.functions ≡ functions
  pub sizes_are : parts.sizes ≡ sizes
  pub terms_are : parts.future.terms ≡ terms
  pub fits : FitTogether value parts
  pub board : HasBoard parts
  pub desks_are : AreDesks value called parts desks
  pub fresh : (number : ℕ) → number < length desks → IfSome (slice_get desks number) (IsNewDesk parts number)
  pub pass_is : pass ≡ pass_at parts.future (own_passes parts.kind parts.counter.workers) opening
