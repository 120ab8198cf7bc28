use Rattle.std.proofs.Common.{List, Some, sym, ◌∙◌, ap, subst}
use Rattle.std.specs.Prelude.{slice_get}
use Rattle.lf_ast.specs.Tree.{Tree, parts_of, tree}
use Rattle.lf_built.specs.views.Indexed.{env_of, universe_of}
use Rattle.lf_built.specs.views.Marking.{arguments_of, grouping_of}
use Rattle.lf_built.specs.views.Spots.{tree_at}
use Rattle.lf_built.specs.views.Tasks.{call_wanted, nameless_if, one_wanted, parts_wanted}
use Rattle.lf_built.specs.views.Works.{AreParts}
use Rattle.lf_ast.specs.Functions.{aggregation, called_by, function_named}
use Rattle.lf_ast.specs.Tree.{list, trees}
use Rattle.lf_ast.specs.declared.expr.Expr.{Expr}
use Rattle.lf_ast.specs.declared.expr.Grouping.TheVariants.{None as Ungrouped}
use Rattle.lf_ast.proofs.TreeOf.{tree_aggregate, tree_call}
use Rattle.lf_built.proofs.prepared.Prepared.parts.Goals as goal

pub sides-requires-clause-sides : goal.sides-requires-clause-sides
sides-requires-clause-sides c = (tree c.in-Binary.left.value, tree c.in-Binary.right.value, ap (λ (x : Expr). parts_of (tree x)) c.in-Binary.is)

pub operand-requires-clause-parts : goal.operand-requires-clause-parts
operand-requires-clause-parts c = ap parts_of (tree_call c.args.spot.now.expr.now c.in-Call.name c.in-Call.args c.in-Call.span c.in-Call.is) ∙ ap (λ (xs : List Expr). list (trees xs)) (sym c.as_slice-in-Call.ensures)

pub operand-requires-clause-args : goal.operand-requires-clause-args
operand-requires-clause-args c = ap arguments_of (tree_call c.args.spot.now.expr.now c.in-Call.name c.in-Call.args c.in-Call.span c.in-Call.is) ∙ ap trees (sym c.as_slice-in-Call.ensures)

pub operand-requires-in-Aggregate-clause-args : goal.operand-requires-in-Aggregate-clause-args
operand-requires-in-Aggregate-clause-args c = ap arguments_of (tree_aggregate c.args.spot.now.expr.now c.in-Aggregate.op c.in-Aggregate.grouping c.in-Aggregate.args c.in-Aggregate.span c.in-Aggregate.is) ∙ ap trees (sym c.as_slice-in-Aggregate.ensures)

pub operand-requires-in-Aggregate-clause-parts : goal.operand-requires-in-Aggregate-clause-parts
operand-requires-in-Aggregate-clause-parts c = ap parts_of (tree_aggregate c.args.spot.now.expr.now c.in-Aggregate.op c.in-Aggregate.grouping c.in-Aggregate.args c.in-Aggregate.span c.in-Aggregate.is) ∙ ap (λ (xs : List Expr). list (trees xs)) (sym c.as_slice-in-Aggregate.ensures)

pub returns-in-Subquery : goal.returns-in-Subquery
returns-in-Subquery c D stands =
    let u = universe_of c.args.self.now in
    let env = env_of c.args.self.now in
    subst (λ (x : Expr). AreParts c.args.self.now (tree x) (parts_wanted u env (tree x) D) c.one.result) (sym c.in-Subquery.is)
    (subst (λ (x : Expr). AreParts c.args.self.now (tree x) (one_wanted D (slice_get (parts_of (tree x)) 0)) c.one.result) c.in-Subquery.is (c.one.ensures D stands))

pub returns-in-Paren : goal.returns-in-Paren
returns-in-Paren c D stands =
    let u = universe_of c.args.self.now in
    let env = env_of c.args.self.now in
    subst (λ (x : Expr). AreParts c.args.self.now (tree x) (parts_wanted u env (tree x) D) c.one-in-Paren.result) (sym c.in-Paren.is)
    (subst (λ (x : Expr). AreParts c.args.self.now (tree x) (one_wanted D (slice_get (parts_of (tree x)) 0)) c.one-in-Paren.result) c.in-Paren.is (c.one-in-Paren.ensures D stands))

pub returns-in-Unary : goal.returns-in-Unary
returns-in-Unary c D stands =
    let u = universe_of c.args.self.now in
    let env = env_of c.args.self.now in
    subst (λ (x : Expr). AreParts c.args.self.now (tree x) (parts_wanted u env (tree x) D) c.one-in-Unary.result) (sym c.in-Unary.is)
    (subst (λ (x : Expr). AreParts c.args.self.now (tree x) (one_wanted (nameless_if c.in-Unary.minus D) (slice_get (parts_of (tree x)) 0)) c.one-in-Unary.result) c.in-Unary.is (c.one-in-Unary.ensures (nameless_if c.in-Unary.minus D) (c.nameless_if-texts.ensures u D c.requires.known.within (c.as_slice.ensures.value ∙ c.requires.known.names) stands)))

pub returns-in-Call : goal.returns-in-Call
returns-in-Call c D stands =
    let u = universe_of c.args.self.now in
    let env = env_of c.args.self.now in
    let is = tree_call c.args.spot.now.expr.now c.in-Call.name c.in-Call.args c.in-Call.span c.in-Call.is in
    subst (λ (t : Tree). AreParts c.args.self.now (tree_at c.args.spot.now) (parts_wanted u env t D) c.operand.result) (sym is)
    (subst (λ (xs : List Expr). AreParts c.args.self.now (tree_at c.args.spot.now) (call_wanted (function_named c.in-Call.name) Ungrouped (trees xs) D) c.operand.result) c.as_slice-in-Call.ensures
    (subst (λ (t : Tree). AreParts c.args.self.now (tree_at c.args.spot.now) (call_wanted (called_by t) (grouping_of t) (trees c.as_slice-in-Call.result.now) D) c.operand.result) is (c.operand.ensures D stands)))

pub returns-in-Aggregate : goal.returns-in-Aggregate
returns-in-Aggregate c D stands =
    let u = universe_of c.args.self.now in
    let env = env_of c.args.self.now in
    let is = tree_aggregate c.args.spot.now.expr.now c.in-Aggregate.op c.in-Aggregate.grouping c.in-Aggregate.args c.in-Aggregate.span c.in-Aggregate.is in
    subst (λ (t : Tree). AreParts c.args.self.now (tree_at c.args.spot.now) (parts_wanted u env t D) c.operand-in-Aggregate.result) (sym is)
    (subst (λ (xs : List Expr). AreParts c.args.self.now (tree_at c.args.spot.now) (call_wanted (Some (aggregation c.in-Aggregate.op)) c.in-Aggregate.grouping (trees xs) D) c.operand-in-Aggregate.result) c.as_slice-in-Aggregate.ensures
    (subst (λ (t : Tree). AreParts c.args.self.now (tree_at c.args.spot.now) (call_wanted (called_by t) (grouping_of t) (trees c.as_slice-in-Aggregate.result.now) D) c.operand-in-Aggregate.result) is (c.operand-in-Aggregate.ensures D stands)))
