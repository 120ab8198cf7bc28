use Rattle.std.proofs.Common.{sym, ap, ◌∙◌}
use Rattle.lf_classes.specs.views.PatternCache.{passing_row}
use Rattle.lf_classes.proofs.universe.Universe.cache_row.Goals as goal

pub invariant_of-self : goal.invariant_of-self
invariant_of-self c =
    let is = c.requires ∙ ap (λ u. passing_row u c.args.label c.args.op c.args.pattern.now) (sym c.self.view_is) in
    record {
      within = c.self.invariant.within;
      star = c.self.invariant.star;
      empty = c.self.invariant.empty;
      shape = c.self.invariant.shape;
      patterns = c.add.ensures _ c.self.invariant.patterns is;
    }
