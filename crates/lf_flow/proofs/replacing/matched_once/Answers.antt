use Rattle.std.proofs.Common.{◌≡◌, ◌+◌, length, sym, ◌∙◌, ap}
use Rattle.std.proofs.lemmas.Result.{IfOk-weaker}
use Rattle.lf_ast.specs.declared.expr.MatchOp.TheVariants.{Matches}
use Rattle.lf_classes.specs.views.PatternCache.{passing_row}
use Rattle.lf_semantics.specs.ClassRows.{holds, top}
use Rattle.lf_semantics.specs.Listing.{named_at}
use Rattle.lf_semantics.specs.RowTable.{may_match}
use Rattle.lf_semantics.proofs.RowLaws.{shape_top}
use Rattle.lf_flow.specs.views.ClassSets.{IsSet}
use Rattle.lf_flow.proofs.PassingRows.{row_matching, shape_passing}
use Rattle.lf_flow.proofs.replacing.matched_once.Goals as goal

pub classes_in-requires-clause-shape : goal.classes_in-requires-clause-shape
classes_in-requires-clause-shape c =
    let u = c.args.universe.now in
    sym (shape_passing u c.args.label Matches c.as_str.result.now c.in-Some.passing.now (top u) (shape_top u) c.in-Some.ensures) ∙ shape_top u

pub returns-in-Some : goal.returns-in-Some
returns-in-Some c =
    let u = c.args.universe.now in
    let pattern = c.args.pattern.now in
    let label = c.args.label in
    let passing = c.in-Some.passing.now in
    let is : passing ≡ passing_row u label Matches pattern = c.in-Some.ensures ∙ ap (passing_row u label Matches) c.as_str.ensures in
    IfOk-weaker c.classes_in.result
    (λ on. IsSet (length (named_at u label) + 2) (holds passing label) on.items)
    (λ on. IsSet (length (named_at u label) + 2) (may_match u pattern label) on.items)
    (λ on set. row_matching u label pattern passing on.items c.requires.label is set)
    c.classes_in.ensures
