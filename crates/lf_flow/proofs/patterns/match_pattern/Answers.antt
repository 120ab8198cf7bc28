use Rattle.std.proofs.Common.{sym, ◌∙◌, ap}
use Rattle.lf_classes.specs.views.PatternCache.{passing_row}
use Rattle.lf_flow.proofs.patterns.match_pattern.Goals as goal

pub cache_row-requires : goal.cache_row-requires
cache_row-requires c = c.in_ok-row.ensures ∙ ap (passing_row c.args.universe.now c.label_of-label.result c.args.op) (sym c.as_str.ensures)
