use Rattle.std.proofs.Common.{◌++◌, ◌∷◌, sym, ap, ◌∙◌}
use Rattle.std.specs.Prelude.{string_bytes}
use Rattle.lf_ast.specs.Tree.{Tree}
use Rattle.lf_ast.proofs.TreeOf.{count_trees, tree_aggregate, tree_call}
use Rattle.lf_checks.specs.views.Keys.{agg_mark, count_code, grouping_code, node_code, text_code}
use Rattle.std.proofs.lemmas.Result.{on_ok_weaker}
use Rattle.lf_checks.proofs.rule_key.put_node.Goals as goal

pub returns-in-Call : goal.returns-in-Call
returns-in-Call c =
    let old = string_bytes c.args.key.now in
    let x = c.in-Call in
    on_ok_weaker c.put_call.result
    (λ e. e ∙ ap (λ n. old ++ 104 ∷ (text_code x.name ++ count_code n)) (c.len.ensures ∙ sym (count_trees x.args))
    ∙ ap (λ (t : Tree). old ++ node_code t) (sym (tree_call c.args.node.now x.name x.args x.span x.is)))
    c.put_call.ensures

pub returns-in-Aggregate : goal.returns-in-Aggregate
returns-in-Aggregate c =
    let old = string_bytes c.args.key.now in
    let x = c.in-Aggregate in
    on_ok_weaker c.put_aggregation.result
    (λ e. e ∙ ap (λ n. old ++ 105 ∷ agg_mark x.op ∷ (grouping_code x.grouping ++ count_code n)) (c.len-in-Aggregate.ensures ∙ sym (count_trees x.args))
    ∙ ap (λ (t : Tree). old ++ node_code t) (sym (tree_aggregate c.args.node.now x.op x.grouping x.args x.span x.is)))
    c.put_aggregation.ensures
