use Rattle.std.proofs.Common.{◌≡◌, sym, subst}
use Rattle.std.specs.Prelude.{IfSome}
use Rattle.lf_ast.specs.declared.expr.MatchOp.{MatchOp}
use Rattle.lf_classes.specs.views.PatternCache.{passing_row}
use Rattle.lf_ast.specs.declared.expr.MatchOp.TheVariants.{Matches, NotMatches}
use Rattle.lf_classes.proofs.pattern_cache.LabelRows.get.Goals as goal

pub returns-in-Matches : goal.returns-in-Matches
returns-in-Matches c u label are =
    let P : MatchOp → Type 0 = λ op. IfSome c.get.result (λ row. row.now ≡ passing_row u label op c.args.pattern.now) in
    subst P (sym c.in-Matches.is) (c.get.ensures (passing_row u label Matches) are.matching)

pub returns-in-NotMatches : goal.returns-in-NotMatches
returns-in-NotMatches c u label are =
    let P : MatchOp → Type 0 = λ op. IfSome c.get-in-NotMatches.result (λ row. row.now ≡ passing_row u label op c.args.pattern.now) in
    subst P (sym c.in-NotMatches.is) (c.get-in-NotMatches.ensures (passing_row u label NotMatches) are.failing)
