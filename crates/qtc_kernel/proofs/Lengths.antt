-- The lengths of claimed ranges.
use Rattle.std.proofs.Common.{◌≡◌, ◌⊎◌, ℕ, ◌+◌, ◌<◌, min, nat_lt, ◌&&◌, true, false, not, List, [], ◌∷◌, All, if◌then◌else◌, is_none, inl, inr, refl, sym, subst, arith}
use Rattle.std.specs.Prelude.{Contains}
use Rattle.std.proofs.lemmas.Bool.{cases_lt}
use Rattle.std.proofs.lemmas.Bool.Decides.{nat_tests}
use Rattle.std.proofs.lemmas.List.Elements.{All-nil, All-cons, All-head, All-tail, All-append, All-push, All-filter}
use Rattle.qtc_base.specs.Ranges.{clip}
use Rattle.qtc_future.specs.Future.{Future}
use Rattle.qtc_future.specs.Steps.{step}
use Rattle.qtc_future.specs.declared.requests.Request.TheVariants.{Fail}
use Rattle.qtc_kernel.specs.Laws.{RangesAreBlocks}
use Rattle.qtc_kernel.specs.Machine.{Engine, Event, Fate, failed, after, ask, claim, fail, fate_of, is_first_bad, is_out, is_same, is_size, is_steering, look, new_engine, report, reporting, run_from, unless_empty, with_claim, with_failure, with_report, with_settled}
use Rattle.qtc_kernel.specs.Runs.{HasSize, IsBlock}
use Rattle.qtc_kernel.specs.Workload.{Workload, first_bad, indexes_of, item_at, size_of}
use Rattle.qtc_kernel.proofs.Counted.{both_left, chosen, same_has, settled-push, settled_as, settled_ranges}

record AreBlocks (work : Workload) (sizes : List ℕ) (engine : Engine) : Type 0 where
  out : All (IsBlock (size_of work) sizes) engine.out
  settled : All (IsBlock (size_of work) sizes) (settled_ranges engine)

clip_length : (next size n : ℕ) → nat_lt (min next n) (min (next + size) n) ≡ true → let range = clip next size n in (range.1 ≡ range.0 + size) ⊎ ((range.1 ≡ n) × (range.1 < range.0 + size))
clip_length next size n some =
    let less : min next n < min (next + size) n = from (min next n) (min (next + size) n) some in
    elim (cases_lt n (next + size)) [
      | inl short ↦ inr (omega arith, omega arith)
      | inr whole ↦ inl (omega arith)
    ]
  where
    from : (a b : ℕ) → nat_lt a b ≡ true → a < b
    from a b e = grind (arith, nat_tests)

claim_block : (n : ℕ) (sizes : List ℕ) (next size : ℕ) → Contains sizes size → All (IsBlock n sizes) (unless_empty (clip next size n))
claim_block n sizes next size listed =
    let range = clip next size n in
    elim (nat_lt range.0 range.1) as (λ b. nat_lt range.0 range.1 ≡ b → All (IsBlock n sizes) (if b then range ∷ [] else [])) [
      | true ↦ λ e. All-cons (IsBlock n sizes) range [] (record { size = size; listed = listed; length_is = clip_length next size n e }) (All-nil (IsBlock n sizes))
      | false ↦ λ e. All-nil (IsBlock n sizes)
    ] refl

settled_blocks : (work : Workload) (sizes : List ℕ) (engine : Engine) (range : ℕ × ℕ) (fate : Fate) (indexes : List ℕ) (future : Future (List ℕ)) → AreBlocks work sizes engine → is_out engine range ≡ true → AreBlocks work sizes (with_settled engine range fate indexes future)
settled_blocks work sizes engine range fate indexes future h there = let P = IsBlock (size_of work) sizes in record {
  out = All-filter (λ (other : ℕ × ℕ). not (is_same range other)) P engine.out h.out;
  settled = subst (All P) (sym (settled-push engine (settled_as range fate))) (All-push P (settled_ranges engine) range h.settled (same_has P range engine.out there h.out));
}

blocks_after : (work : Workload) (sizes : List ℕ) (engine : Engine) (event : Event) → HasSize sizes event → AreBlocks work sizes engine → AreBlocks work sizes (after work engine event)
blocks_after work sizes engine look listed h = h
blocks_after work sizes engine (claim size) listed h =
    chosen (AreBlocks work sizes) (is_size size) (with_claim work engine size) engine
    (λ e. record {
      out = All-append (IsBlock (size_of work) sizes) engine.out (unless_empty (clip engine.next size (size_of work))) h.out (claim_block (size_of work) sizes engine.next size listed);
      settled = h.settled;
    }) h
blocks_after work sizes engine (report caller range) listed h =
    let stepped = reporting work engine caller range in
    chosen (AreBlocks work sizes) (is_out engine range && is_none (first_bad work range)) (with_report work engine caller range) engine
    (λ e. settled_blocks work sizes engine range (fate_of stepped.told) (indexes_of range) stepped.future h (both_left (is_out engine range) _ e)) h
blocks_after work sizes engine (fail caller range index) listed h =
    chosen (AreBlocks work sizes) (is_out engine range && is_first_bad work range index) (with_failure work engine caller range index) engine
    (λ e. settled_blocks work sizes engine range failed (indexes_of (range.0, index + 1)) (step engine.future caller (Fail index (item_at work index))).future h (both_left (is_out engine range) _ e)) h
blocks_after work sizes engine (ask caller asked) listed h =
    chosen (AreBlocks work sizes) (is_steering asked) (record engine { future = (step engine.future caller asked).future }) engine
    (λ e. record { out = h.out; settled = h.settled }) h

blocks_from : (work : Workload) (sizes : List ℕ) (engine : Engine) (events : List Event) → All (HasSize sizes) events → AreBlocks work sizes engine → AreBlocks work sizes (run_from work engine events)
blocks_from work sizes engine [] listed h = h
blocks_from work sizes engine (event ∷ events) listed h =
    blocks_from work sizes (after work engine event) events (All-tail (HasSize sizes) event events listed)
    (blocks_after work sizes engine event (All-head (HasSize sizes) event events listed) h)

pub ranges_are_blocks : RangesAreBlocks
ranges_are_blocks work mode sizes events listed =
    let P = IsBlock (size_of work) sizes in
    let first : AreBlocks work sizes (new_engine mode.filter mode.cancel_after mode.suspend_after) = record { out = All-nil P; settled = All-nil P } in
    let last = blocks_from work sizes (new_engine mode.filter mode.cancel_after mode.suspend_after) events listed first in
    All-append P _ _ last.out last.settled
