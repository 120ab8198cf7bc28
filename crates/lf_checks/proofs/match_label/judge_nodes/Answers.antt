use Rattle.std.proofs.Common.{◌∙◌, List, [], map, ap, sym, subst}
use Rattle.lf_ast.specs.Tree.{Tree, parts_of}
use Rattle.lf_semantics.specs.RowTable.{row_of}
use Rattle.lf_checks.specs.views.Adding.{Adds}
use Rattle.lf_checks.specs.views.Conditions.{condition_of}
use Rattle.lf_checks.specs.views.Sought.{IsOfPart}
use Rattle.std.proofs.lemmas.Result.{IfOk-weaker}
use Rattle.lf_laws.specs.Gaining.{OfSome}
use Rattle.lf_checks.proofs.match_label.judge_nodes.Goals as goal

pub by_parts-requires : goal.by_parts-requires
by_parts-requires c = let (env, ok, are) = c.requires.rows in (row_of c.args.universe.now env, are)

pub judge_parts-requires-clause-rows : goal.judge_parts-requires-clause-rows
judge_parts-requires-clause-rows c =
    let (env, ok, are) = c.requires.rows in
    let of = λ (t : Tree). map (row_of c.args.universe.now env) (parts_of t) in
    (env, ok, c.as_slice-parts_rows.ensures.value ∙ c.in_ok-rows.ensures (row_of c.args.universe.now env) are ∙ sym (ap (map of) c.requires.parts))

pub judge_parts-requires-clause-conditions : goal.judge_parts-requires-clause-conditions
judge_parts-requires-clause-conditions c =
    let of = λ (t : Tree). map condition_of (parts_of t) in
    c.as_slice-parts_conditions.ensures.value ∙ c.in_ok-conditions.ensures ∙ sym (ap (map of) c.requires.parts)

pub returns : goal.returns
returns c env are =
    let u = c.args.universe.now in
    let of = λ (t : Tree). map (row_of u env) (parts_of t) in
    let rows = c.as_slice-parts_rows.ensures.value ∙ c.in_ok-rows.ensures (row_of u env) are ∙ sym (ap (map of) c.requires.parts) in
    IfOk-weaker c.judge_parts.result _ _
    (λ found a. subst (λ (xs : List Tree). Adds (OfSome (IsOfPart u env) xs) [] found.items) c.requires.parts a)
    (c.judge_parts.ensures env rows)
