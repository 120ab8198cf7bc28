use Rattle.std.proofs.Common.{◌≡◌, ◌<◌, length, refl, get_or, ◌∙◌, ap, arith}
use Rattle.std.proofs.lemmas.Option.{slice_get_read}
use Rattle.lf_classes.proofs.pattern_cache.PatternCache.get.Goals as goal

pub returns : goal.returns
returns c u are =
    let label = c.args.label in
    let rows = c.in_ok-rows.rows.now in
    let items = c.args.self.now.labels.items in
    let found = c.in_ok-rows.ensures.lookup in
    let within : label < length items = omega (arith, found.3.0, ap length c.deref.ensures.value) in
    let at : rows ≡ get_or items label rows = found.1 ∙ ap (λ xs. get_or xs label rows) c.deref.ensures.value in
    c.get-2.ensures u label (are label rows (slice_get_read items (length items) label rows refl within at))
