-- What comes back at the end of an engine: the functions, whether memory was wanted, a last look, and the tally.
use Rattle.std.proofs.Common.{◌≡◌, ℕ, true, false, List, [], ◌∷◌, ◌++◌, All, Option, Some, option_to_list, ap, sym, ◌∙◌, subst, append_assoc}
use Rattle.std.proofs.lemmas.List.{map-append}
use Rattle.std.proofs.lemmas.List.Elements.{All-cons, All-head, All-nil, All-push, All-tail}
use Rattle.qtc_claim.specs.Counter.{TallyState}
use Rattle.qtc_events.specs.Flags.{Standing}
use Rattle.qtc_ops.specs.ItemValue.{ItemValue}
use Rattle.qtc_shared.specs.Journals.{flags_at}
use Rattle.qtc_shared.specs.Laws.{KnownIsKept}
use Rattle.qtc_shared.specs.Passes.{IsLook, PassState}
use Rattle.qtc_kernel.specs.EngineParts.{DeskState}
use Rattle.qtc_kernel.specs.Endings.{AreGathered, functions_at, wants_at, with_seat, workers_at}
use Rattle.qtc_kernel.specs.WorkedOut.{AreContinued, Continues}
use Rattle.qtc_kernel.proofs.Turning.{continues_same}
use Rattle.qtc_kernel.proofs.Passing.{Journal}

-- ---- functions that come back

continued_last : {F : Type 0} (value : F → List ℕ → ItemValue) (called : F → List ℕ) (functions : List F) (before after : F) → Continues value called before after → AreContinued value called (functions ++ before ∷ []) (functions ++ after ∷ [])
continued_last value called [] before after continues = (continues, tt)
continued_last value called (function ∷ functions) before after continues = (continues_same value called function, continued_last value called functions before after continues)

-- the last desk was worked on with, and its function comes last
pub handed_back : {F : Type 0} (value : F → List ℕ → ItemValue) (called : F → List ℕ) (desks left others : List (DeskState F)) (taken : Option (DeskState F)) (before after : DeskState F) → desks ≡ left ++ option_to_list taken → taken ≡ Some before
    → functions_at others ≡ functions_at left → Continues value called before.function after.function → AreContinued value called (functions_at desks) (functions_at (others ++ after ∷ []))
handed_back value called desks left others taken before after desks_are taken_is same continues =
    let all : functions_at desks ≡ functions_at left ++ before.function ∷ [] =
    ap functions_at (desks_are ∙ ap (λ o. left ++ option_to_list o) taken_is) ∙ map-append (λ desk. desk.function) left (before ∷ [])
    in
    let back : functions_at (others ++ after ∷ []) ≡ functions_at left ++ after.function ∷ [] =
    map-append (λ desk. desk.function) others (after ∷ []) ∙ ap (λ functions. functions ++ after.function ∷ []) same
    in
    subst (λ functions. AreContinued value called functions (functions_at (others ++ after ∷ []))) (sym all)
    (subst (AreContinued value called (functions_at left ++ before.function ∷ [])) (sym back) (continued_last value called (functions_at left) before.function after.function continues))

-- ---- memory

-- what these wanted, those did
same_wants : {F : Type 0} (others left : List (DeskState F)) → wants_at others ≡ wants_at left → All (λ desk. desk.wants_memory ≡ false) others → All (λ desk. desk.wants_memory ≡ false) left
same_wants [] [] same none = All-nil (λ desk. desk.wants_memory ≡ false)
same_wants [] (desk ∷ desks) same none = absurd (cc)
same_wants (desk ∷ desks) [] same none = absurd (cc)
same_wants (other ∷ others) (desk ∷ desks) same none =
    let head : other.wants_memory ≡ desk.wants_memory = cc in
    let tail : wants_at others ≡ wants_at desks = cc in
    let first = All-head (λ d. d.wants_memory ≡ false) other others none in
    All-cons (λ d. d.wants_memory ≡ false) desk desks (sym head ∙ first) (same_wants others desks tail (All-tail (λ d. d.wants_memory ≡ false) other others none))

-- no desk wanted memory, where neither the one that was worked on with nor another does
pub none_wanted : {F : Type 0} (desks left others : List (DeskState F)) (taken : Option (DeskState F)) (before : DeskState F) → desks ≡ left ++ option_to_list taken → taken ≡ Some before → wants_at others ≡ wants_at left
    → All (λ desk. desk.wants_memory ≡ false) others → before.wants_memory ≡ false → All (λ desk. desk.wants_memory ≡ false) desks
none_wanted desks left others taken before desks_are taken_is same none first =
    subst (All (λ desk. desk.wants_memory ≡ false)) (sym (desks_are ∙ ap (λ o. left ++ option_to_list o) taken_is))
    (All-push (λ desk. desk.wants_memory ≡ false) left before (same_wants others left same none) first)

-- ---- a look after the finish

pub look_canceled : KnownIsKept (List ℕ) → (old new : PassState (List ℕ)) (flags : Standing) → IsLook old new flags → (flags_at old.known).finished ≡ true → flags.canceled ≡ (flags_at old.known).canceled
look_canceled kept old new flags look finished =
    let same : new.known ≡ old.known = ap (λ (p : PassState (List ℕ)). p.known) look.pass in
    let last : look.journal ≡ new.known = kept.last new look.journal look.met (ap (λ (k : Journal). (flags_at k).finished) same ∙ finished) in
    ap (λ (s : Standing). s.canceled) look.now ∙ ap (λ (k : Journal). (flags_at k).canceled) (last ∙ same)

-- ---- the tally

-- a desk is gathered, and then the others
module _ {F : Type 0} (first : DeskState F) (others : List (DeskState F)) (journal : Journal) (before one all last : TallyState) (gathers : one ≡ with_seat first.seat before) (gathered : AreGathered journal one all others) (same : last ≡ all) where
  pub of_all : last.of ≡ before.of
  of_all = ap (λ (t : TallyState). t.of) same ∙ gathered.of ∙ ap (λ (t : TallyState). t.of) gathers

  pub workers_all : last.workers ≡ before.workers ++ workers_at (first ∷ others)
  workers_all =
      ap (λ (t : TallyState). t.workers) same ∙ gathered.workers ∙ ap (λ (t : TallyState). t.workers ++ workers_at others) gathers
      ∙ append_assoc before.workers (first.seat.worker ∷ []) (workers_at others)

  pub pieces_all : last.pieces ≡ before.pieces
  pieces_all = ap (λ (t : TallyState). t.pieces) same ∙ gathered.pieces ∙ ap (λ (t : TallyState). t.pieces) gathers
