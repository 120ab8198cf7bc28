use Rattle.std.proofs.Common.{Bool, List, map, ◌∙◌, ap, ap₂, arith}
use Rattle.std.specs.Borrow.{Bor}
use Rattle.std.proofs.lemmas.List.{take_all}
use Rattle.lf_ast.specs.Tree.{tree}
use Rattle.lf_ast.specs.declared.expr.Expr.{Expr}
use Rattle.lf_ast.specs.views.Walks.{trees_at}
use Rattle.lf_built.specs.declared.marking.NodeMarks.{NodeMarks}
use Rattle.lf_built.specs.declared.marking.SideMark.{SideMark}
use Rattle.lf_built.specs.views.Marking.{marks_at}
use Rattle.lf_built.proofs.OneMore.{one_image_more}
use Rattle.lf_built.proofs.marking.marks_in.Goals as goal

abbrev both : (lost : List Bool) (sides : List SideMark) → NodeMarks
both lost sides = record { lost = lost; sides = sides }

pub loop-k-preserved : goal.loop-k-preserved
loop-k-preserved c =
    one_image_more (λ (e : Bor Expr). tree e.now) c.in_ok-nodes.nodes.items c.loop-k.k c.index-node.result.now (omega (arith, c.loop-k-test.true)) c.index-node.ensures (marks_at c.args.names.now)
    c.loop-k.all c.push.new.self _ c.loop-k.invariant (ap₂ both c.in_ok-lost.ensures c.in_ok-sides.ensures) c.in_ok-push.ensures.ok

pub returns : goal.returns
returns c =
    c.loop-k.invariant
    ∙ ap (λ (es : List (Bor Expr)). map (marks_at c.args.names.now) (trees_at es)) (take_all c.loop-k.k c.in_ok-nodes.nodes.items (omega (arith, c.loop-k-test.false)))
    ∙ ap (map (marks_at c.args.names.now)) c.in_ok-nodes.ensures
