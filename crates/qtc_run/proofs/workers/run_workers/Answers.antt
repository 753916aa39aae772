use Rattle.std.proofs.Common.{◌≡◌, ◌∙◌}
use Rattle.qtc_run.proofs.Seating.{all-stay, as-dealt, slice-stays}
use Rattle.qtc_run.proofs.workers.run_workers.Goals as goal

pub returns : goal.returns
returns g c = λ all long whole.
    let old = c.in_ok-workers.workers.items in
    let same : c.run_workers_with.new.desks ≡ old = all-stay c.as_mut_slice.result.now c.run_workers_with.new.desks c.run_workers_with.ensures ∙ c.as_mut_slice.ensures.value in
    as-dealt c.args.number all c.args.desks.items c.in_ok-left.left.items old _ (slice-stays c.in_ok-workers.workers.len old c.run_workers_with.new.desks c.in_ok-workers.workers.ok.0 same)
    c.in_ok-workers.ensures.count (c.in_ok-workers.ensures.dealt all long whole) whole (λ is. c.in_ok-left.ensures all long is)
