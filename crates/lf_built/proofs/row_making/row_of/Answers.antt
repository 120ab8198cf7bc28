use Rattle.std.proofs.Common.{List, length, cond, get_or, Option, Some, None, ◌∙◌, ap, arith}
use Rattle.lf_ast.specs.Rules.{rule_tree}
use Rattle.lf_semantics.specs.ClassRows.{Sets, is_live}
use Rattle.lf_semantics.specs.RowTable.{row_of}
use Rattle.lf_built.specs.views.RuleRows.{own_or}
use Rattle.lf_built.proofs.OwnRows.{begins, own_is}
use Rattle.lf_built.proofs.row_making.row_of.Goals as goal

pub bounds-rows-0 : goal.bounds-rows-0
bounds-rows-0 c =
    let first = ap length (begins (row_of c.args.universe.now c.args.env.now) (rule_tree c.args.rule.now).expr c.args.rows.now c.requires.rows) in
    omega (arith, first)

pub stored_row-recorded-requires-clause-row : goal.stored_row-recorded-requires-clause-row
stored_row-recorded-requires-clause-row c =
    let u = c.args.universe.now in
    let e = c.args.env.now in
    let first = begins (row_of u e) (rule_tree c.args.rule.now).expr c.args.rows.now c.requires.rows in
    c.in_ok-whole.ensures e (c.index-rows-0.is ∙ ap (λ (all : List Sets). get_or all 0 c.index-rows-0.result) first)

pub returns-clause-own : goal.returns-clause-own
returns-clause-own c =
    let u = c.args.universe.now in
    let e = c.args.env.now in
    let r = rule_tree c.args.rule.now in
    let first = begins (row_of u e) r.expr c.args.rows.now c.requires.rows in
    let own = c.in_ok-whole.ensures e (c.index-rows-0.is ∙ ap (λ (all : List Sets). get_or all 0 c.index-rows-0.result) first) in
    ap (λ (o : Option Sets). own_or o (row_of u e r.expr)) (c.in_ok-own.ensures ∙ ap (λ (row : Sets). cond (is_live row) None (Some row)) own) ∙ own_is u c.labels-labels.ensures.within.listing e r
