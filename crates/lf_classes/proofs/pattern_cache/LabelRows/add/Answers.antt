use Rattle.std.proofs.Common.{◌∙◌, ap}
use Rattle.lf_ast.specs.declared.expr.MatchOp.TheVariants.{Matches, NotMatches}
use Rattle.lf_classes.specs.views.PatternCache.{passing_row}
use Rattle.lf_classes.proofs.pattern_cache.LabelRows.add.Goals as goal

pub returns-in-Matches : goal.returns-in-Matches
returns-in-Matches c u label are is = record {
  matching = c.add.ensures.values (passing_row u label Matches) are.matching (is ∙ ap (λ op. passing_row u label op c.args.pattern.now) c.in-Matches.is);
  failing = are.failing;
}

pub returns-in-NotMatches : goal.returns-in-NotMatches
returns-in-NotMatches c u label are is = record {
  matching = are.matching;
  failing = c.add-in-NotMatches.ensures.values (passing_row u label NotMatches) are.failing (is ∙ ap (λ op. passing_row u label op c.args.pattern.now) c.in-NotMatches.is);
}
