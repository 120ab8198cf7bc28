use Rattle.std.proofs.Common.{length, ap, sym, ◌∙◌}
use Rattle.std.proofs.lemmas.List.{length-map}
use Rattle.lf_ast.specs.Tree.{Tree, parts_of, tree}
use Rattle.lf_ast.proofs.TreeOf.{tree_aggregate, tree_call}
use Rattle.lf_ast.proofs.Walks.{list_trees}
use Rattle.lf_parts.proofs.counting.part_count.Goals as goal

pub returns-in-Call : goal.returns-in-Call
returns-in-Call c =
    let s = c.in-Call in
    let is = tree_call c.args.expr.now s.name s.args s.span s.is in
    c.len.ensures ∙ sym (length-map s.args tree) ∙ ap length (sym (list_trees s.args)) ∙ ap (λ (e : Tree). length (parts_of e)) (sym is)

pub returns-in-Aggregate : goal.returns-in-Aggregate
returns-in-Aggregate c =
    let s = c.in-Aggregate in
    let is = tree_aggregate c.args.expr.now s.op s.grouping s.args s.span s.is in
    c.len-in-Aggregate.ensures ∙ sym (length-map s.args tree) ∙ ap length (sym (list_trees s.args)) ∙ ap (λ (e : Tree). length (parts_of e)) (sym is)
