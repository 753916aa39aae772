-- What a worker's look before a claim shows.
use Rattle.std.proofs.Common.{◌≡◌, ◌<◌, ℕ, Bool, true, false, ◌||◌, ◌&&◌, not, nat_lt, IsTrue, List, [], ◌∷◌, ◌++◌, ap, sym, ◌∙◌, arith, append_assoc, append-nil}
use Rattle.std.specs.Prelude.{◌↔◌}
use Rattle.std.specs.List.{list_any}
use Rattle.std.proofs.lemmas.Bool.Decides.{nat_tests}
use Rattle.std.proofs.lemmas.List.Folds.{list_any-append}
use Rattle.qtc_events.specs.Flags.{Standing}
use Rattle.qtc_shared.specs.Journals.{flags_at}
use Rattle.qtc_shared.specs.Passes.{IsLook, IsResumed, IsWatch, PassState}
use Rattle.qtc_kernel.specs.EngineParts.{HasMetEnd, shows_end}
use Rattle.qtc_kernel.specs.Turns.{LooksEnded, LooksFree}
use Rattle.qtc_kernel.specs.Working.{is_waiting}

resumed_where : (s : Standing) → shows_end s ≡ false → is_waiting s ≡ false → IsResumed s
resumed_where s going none = record {
  suspending = left s.suspending s.suspended (shows_end s) going none;
  suspended = right s.suspending s.suspended (shows_end s) going none;
}
  where
    left : (a b e : Bool) → e ≡ false → ((a || b) && not e) ≡ false → a ≡ false
    left a b e h k = grind arith

    right : (a b e : Bool) → e ≡ false → ((a || b) && not e) ≡ false → b ≡ false
    right a b e h k = grind arith

last_met : (known : Standing) (before : List Standing) (last : Standing) → shows_end last ≡ true → list_any shows_end (known ∷ before ++ last ∷ []) ≡ true
last_met known before last ended =
    list_any-append shows_end (known ∷ before) (last ∷ []) ∙ right (list_any shows_end (known ∷ before)) (shows_end last) ended
  where
    right : (a b : Bool) → b ≡ true → (a || (b || false)) ≡ true
    right a b h = grind arith

module _ (old new : PassState (List ℕ)) (flags : Standing) (look : IsLook old new flags) where
  grown : new.looks ≡ old.looks ++ [] ++ flags ∷ []
  grown = ap (λ (p : PassState (List ℕ)). p.looks) look.pass ∙ ap (λ looks. looks ++ flags ∷ []) (sym (append-nil old.looks))

  pub look_ended : shows_end flags ≡ true → LooksEnded old new
  look_ended ended = record { looks = []; last = flags; grown = grown; ended = ended }

  pub look_met : shows_end flags ≡ true → HasMetEnd new
  look_met ended =
      ap (λ (p : PassState (List ℕ)). list_any shows_end (flags_at p.known ∷ p.seen)) look.pass
      ∙ last_met (flags_at old.known) old.seen flags ended

  pub look_free : shows_end flags ≡ false → is_waiting flags ≡ false → LooksFree old new
  look_free going none = record { looks = []; last = flags; grown = grown; going = going; resumed = resumed_where flags going none }

module _ (old mid new : PassState (List ℕ)) (first flags : Standing) (look : IsLook old mid first) (watch : IsWatch mid new flags) where
  grown_more : new.looks ≡ old.looks ++ (first ∷ watch.before) ++ flags ∷ []
  grown_more =
      ap (λ (p : PassState (List ℕ)). p.looks) watch.pass
      ∙ ap (λ (p : PassState (List ℕ)). p.looks ++ (watch.before ++ flags ∷ [])) look.pass
      ∙ append_assoc old.looks (first ∷ []) (watch.before ++ flags ∷ [])
      ∙ sym (append_assoc old.looks (first ∷ watch.before) (flags ∷ []))

  pub watch_ended : shows_end flags ≡ true → LooksEnded old new × HasMetEnd new
  watch_ended ended = (
    record { looks = first ∷ watch.before; last = flags; grown = grown_more; ended = ended },
    ap (λ (p : PassState (List ℕ)). list_any shows_end (flags_at p.known ∷ p.seen)) watch.pass
        ∙ ap (λ seen. list_any shows_end (flags_at mid.known ∷ seen)) (sym (append_assoc mid.seen watch.before (flags ∷ [])))
        ∙ last_met (flags_at mid.known) (mid.seen ++ watch.before) flags ended,
  )

  pub watch_free : shows_end flags ≡ false → IsResumed flags → LooksFree old new
  watch_free going resumed = record { looks = first ∷ watch.before; last = flags; grown = grown_more; going = going; resumed = resumed }

-- ---- whether a further worker may start

pub may_exactly : (is_open canceled : Bool) (count workers : ℕ) (Open : Type 0) (flags : Standing) → (IsTrue is_open ↔ Open) → canceled ≡ flags.canceled
    → IsTrue ((is_open && not canceled) && nat_lt count workers) ↔ (Open × (flags.canceled ≡ false) × (count < workers))
may_exactly is_open canceled count workers Open flags left is = (
  λ all. (left.0 (first is_open canceled count workers all), sym is ∙ second is_open canceled count workers all, third is_open canceled count workers all),
  λ each. back is_open canceled count workers (left.1 each.0) (is ∙ each.1) each.2,
)
  where
    first : (a b : Bool) (k m : ℕ) → ((a && not b) && nat_lt k m) ≡ true → a ≡ true
    first a b k m h = grind (arith, nat_tests)

    second : (a b : Bool) (k m : ℕ) → ((a && not b) && nat_lt k m) ≡ true → b ≡ false
    second a b k m h = grind (arith, nat_tests)

    third : (a b : Bool) (k m : ℕ) → ((a && not b) && nat_lt k m) ≡ true → k < m
    third a b k m h = grind (arith, nat_tests)

    back : (a b : Bool) (k m : ℕ) → a ≡ true → b ≡ false → k < m → ((a && not b) && nat_lt k m) ≡ true
    back a b k m e h less = grind (arith, nat_tests)
