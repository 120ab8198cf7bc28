use Rattle.std.proofs.Common.{◌<◌, length, get_or, rules}
use Rattle.std.proofs.lemmas.List.Elements.{Contains-get_or}
use Rattle.lf_deps.proofs.queue.first_recorded.Goals as goal

pub offset_bounds-counts-sources : goal.offset_bounds-counts-sources
offset_bounds-counts-sources c =
    let b : get_or c.args.sources.now c.loop-place.place 0 < length c.args.counts.now = c.requires (get_or c.args.sources.now c.loop-place.place 0) (Contains-get_or c.args.sources.now c.loop-place.place 0 c.loop-place-test.true) in
    search rules

pub bounds-counts-sources : goal.bounds-counts-sources
bounds-counts-sources c = c.requires (get_or c.args.sources.now c.loop-place.place 0) (Contains-get_or c.args.sources.now c.loop-place.place 0 c.loop-place-test.true)
