use Rattle.std.proofs.Common.{◌<◌, length, refl}
use Rattle.std.proofs.lemmas.Option.{slice_get_read}
use Rattle.lf_classes.specs.views.PatternCache.{HasRows}
use Rattle.lf_classes.proofs.EachElement.{each_set}
use Rattle.lf_classes.proofs.pattern_cache.PatternCache.add.Goals as goal

pub returns : goal.returns
returns c u are is =
    let label = c.args.label in
    let items = c.make_room.new.self.labels.items in
    let within : label < length items = c.in_ok-make_room.ensures.room in
    let room = c.make_room.ensures.rows u are in
    let own = room label c.index_mut-rows.result.now (slice_get_read items (length items) label c.index_mut-rows.result.now refl within c.index_mut-rows.ensures.value) in
    each_set (HasRows u) items label c.add.new.self room (c.add.ensures u label own is)
