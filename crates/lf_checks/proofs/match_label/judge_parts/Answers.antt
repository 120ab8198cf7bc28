use Rattle.std.proofs.Common.{◌≤◌, List, [], length, map, sym, subst, arith}
use Rattle.std.specs.Borrow.{Bor}
use Rattle.std.proofs.lemmas.List.{length-map, take_all}
use Rattle.std.proofs.lemmas.Option.{get_or_from_slice_get, slice_get_within}
use Rattle.lf_laws.specs.Gaining.{OfSome}
use Rattle.lf_ast.specs.Tree.{Tree, parts_of, tree}
use Rattle.lf_ast.specs.declared.expr.Expr.{Expr}
use Rattle.lf_ast.specs.views.Walks.{trees_at}
use Rattle.lf_semantics.specs.RowTable.{row_of}
use Rattle.lf_checks.specs.views.Adding.{Adds}
use Rattle.lf_checks.specs.views.Conditions.{condition_of}
use Rattle.lf_checks.specs.views.Sought.{IsOfPart}
use Rattle.lf_checks.proofs.Added.{adds_of_more}
use Rattle.lf_checks.proofs.SoughtLaws.{told_at}
use Rattle.lf_checks.proofs.match_label.judge_parts.Goals as goal

pub judge_part-requires-clause-rows : goal.judge_part-requires-clause-rows
judge_part-requires-clause-rows c =
    let (env, ok, are) = c.requires.rows in
    let all = trees_at c.args.parts.now in
    let of = λ (t : Tree). map (row_of c.args.universe.now env) (parts_of t) in
    (env, ok, told_at of all c.args.rows.now c.loop-k.k (tree c.node_at-part.result.now) c.group_at-own_rows.result.now are c.node_at-part.ensures c.group_at-own_rows.ensures)

pub judge_part-requires-clause-conditions : goal.judge_part-requires-clause-conditions
judge_part-requires-clause-conditions c =
    let all = trees_at c.args.parts.now in
    let of = λ (t : Tree). map condition_of (parts_of t) in
    told_at of all c.args.conditions.now c.loop-k.k (tree c.node_at-part.result.now) c.group_at-own_conditions.result.now c.requires.conditions c.node_at-part.ensures c.group_at-own_conditions.ensures

pub loop-k-preserved : goal.loop-k-preserved
loop-k-preserved c = λ env are.
    let u = c.args.universe.now in
    let k = c.loop-k.k in
    let all = trees_at c.args.parts.now in
    let x = tree c.node_at-part.result.now in
    let at = c.node_at-part.ensures in
    let of = λ (t : Tree). map (row_of u env) (parts_of t) in
    let rows = told_at of all c.args.rows.now k x c.group_at-own_rows.result.now are at c.group_at-own_rows.ensures in
    let old = c.loop-k.found.items in
    let new = c.judge_part.new.found.items in
    adds_of_more (IsOfPart u env) all k x [] old new (slice_get_within all k x at) (c.loop-k.invariant env are)
    (subst (λ (t : Tree). Adds (IsOfPart u env t) old new) (sym (get_or_from_slice_get all k x x at)) (c.in_ok-judge_part.ensures env rows))

pub returns : goal.returns
returns c = λ env are.
    let all = trees_at c.args.parts.now in
    let count = length-map c.args.parts.now (λ (b : Bor Expr). tree b.now) in
    let end : length all ≤ c.loop-k.k = omega (arith, count, c.loop-k-test.false) in
    subst (λ (xs : List Tree). Adds (OfSome (IsOfPart c.args.universe.now env) xs) [] c.loop-k.found.items) (take_all c.loop-k.k all end) (c.loop-k.invariant env are)
