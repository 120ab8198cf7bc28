use Rattle.std.proofs.Common.{◌≡◌, ◌∷◌, List, length, map, ◌∙◌, ap, arith}
use Rattle.std.specs.Prelude.{slice_index_or}
use Rattle.lf_ast.specs.Rules.{rule_tree}
use Rattle.lf_ast.specs.Tree.{Tree, nodes, parts_of}
use Rattle.lf_ast.proofs.Listing.{nodes_all, nodes_parts}
use Rattle.lf_semantics.specs.ClassRows.{Sets}
use Rattle.lf_semantics.specs.Listing.{Listing}
use Rattle.lf_semantics.specs.RowTable.{Environment, row_of}
use Rattle.lf_checks.proofs.MadeRows.{when_some}
use Rattle.lf_checks.proofs.checker.own_row.Goals as goal

-- the rows of an expression and its parts begin with its own
begins : (u : Listing) (e : Environment) (t : Tree) (rows : List Sets) → rows ≡ map (row_of u e) (nodes t) → rows ≡ row_of u e t ∷ map (row_of u e) (nodes_all (parts_of t))
begins u e t rows are = are ∙ ap (map (row_of u e)) (nodes_parts t)

pub index-requires : goal.index-requires
index-requires c =
    let first = ap length (begins c.args.universe.now c.args.env.now (rule_tree c.args.rule.now).expr c.in-Some.rows.items (when_some _ _ _ c.in-Some.is c.requires.rows)) in
    omega (arith, first, c.in-Some.rows.ok)

pub returns-in-Some : goal.returns-in-Some
returns-in-Some c =
    let first = begins c.args.universe.now c.args.env.now (rule_tree c.args.rule.now).expr c.in-Some.rows.items (when_some _ _ _ c.in-Some.is c.requires.rows) in
    c.rule_row_by.ensures c.args.env.now (c.index.ensures ∙ ap (λ (all : List Sets). slice_index_or all 0 c.index.result.now) first)
