use Rattle.std.proofs.Common.{◌≡◌, ℕ, List, ◌≤◌, ◌+◌, eqb, length}
use Rattle.std.specs.List.{count_by}
use Rattle.qtc_run.proofs.sizes.feed_count.Given as goal

-- what was counted before the rest
pub record Counted (count : ℕ) (rest text : List ℕ) : Type 0 where
  pub counted : count + count_by (λ byte. eqb byte 10) rest ≡ count_by (λ byte. eqb byte 10) text
  pub few : count + length rest ≤ length text

abbrev pub invariant-loop-rest : goal.invariant-loop-rest
invariant-loop-rest l = Counted l.count l.rest l.text

abbrev pub decreases-loop-rest : goal.decreases-loop-rest
decreases-loop-rest l = length l.rest
