use Rattle.std.proofs.Common.{◌≡◌, ◌<◌, length, map, ap, sym, ◌∙◌, subst}
use Rattle.std.specs.Prelude.{slice_index_or}
use Rattle.std.specs.List.{AllZip}
use Rattle.qtc_tasks.specs.Places.{EachIsReady, IsRun, ends_in, waiting}
use Rattle.qtc_tasks.specs.Runs.{IsJobEnd}
use Rattle.qtc_tasks.proofs.PlaceLemmas.{all_ready, places_count, ready_at, runs_end, taken_back}
use Rattle.qtc_tasks.proofs.runs.run_all.Goals as goal

pub run_places-requires-after_bounds : goal.run_places-requires-after_bounds
run_places-requires-after_bounds g c κs within =
    subst (λ ps. EachIsReady c.args.futures.now ps) (sym (c.as_mut_slice.ensures.value ∙ c.in_ok-places.ensures))
    (λ index place less is. ready_at c.args.futures.now (map waiting c.args.jobs.items) index place (all_ready c.args.futures.now c.args.jobs.items c.requires) less is)

pub returns : goal.returns
returns g c =
    let state = g.T.Task.state in
    let jobs = c.args.jobs.items in
    let is : c.as_mut_slice.result.now ≡ map waiting jobs = c.as_mut_slice.ensures.value ∙ c.in_ok-places.ensures in
    let count : length c.as_mut_slice.result.now ≡ length jobs = ap length is ∙ places_count jobs in
    let back = taken_back _ c.run_places.new.places _ (sym (c.run_places.ensures.count ∙ c.as_mut_slice.ensures.len)) in
    subst (λ es. AllZip (IsJobEnd state) jobs es) (sym (c.ends_of.ensures ∙ ap ends_in back))
    (runs_end state jobs c.run_places.new.places (c.run_places.ensures.count ∙ count)
    (λ index other less.
    subst (λ ps. IsRun state (slice_index_or ps index other) (slice_index_or c.run_places.new.places index other)) is
    (c.run_places.ensures.each index other (subst (λ n. index < n) (sym count) less))))
