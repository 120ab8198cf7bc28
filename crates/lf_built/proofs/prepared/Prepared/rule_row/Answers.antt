use Rattle.std.proofs.Common.{◌≡◌, ◌<◌, ℕ, Option, Some, length, sym, subst, ap, ◌∙◌, arith}
use Rattle.std.specs.Prelude.{IfOk, slice_get}
use Rattle.std.proofs.lemmas.List.{length-map}
use Rattle.lf_laws.proofs.Slices.{some_at}
use Rattle.lf_ast.specs.Rules.{RuleTree, rule_tree}
use Rattle.lf_semantics.specs.ClassRows.{Sets}
use Rattle.lf_semantics.specs.RowTable.{row_of}
use Rattle.lf_built.specs.declared.prepared.Prepared.{Prepared}
use Rattle.lf_built.specs.views.Indexed.{env_of, trees_of, universe_of}
use Rattle.lf_built.specs.views.RuleRows.{own_or}
use Rattle.lf_built.proofs.Fits.{first_row, own_at, own_there, row_within}
use Rattle.lf_built.proofs.StandingParts.{is_row}
use Rattle.lf_built.proofs.prepared.Prepared.rule_row.Goals as goal

-- the rule with the number
rule_at : (p : Prepared) (rule : ℕ) → rule < length p.rules.now → (r : RuleTree) × (slice_get (trees_of p) rule ≡ Some r)
rule_at p rule less = some_at (trees_of p) rule (subst (λ n. rule < n) (sym (length-map p.rules.now rule_tree)) less)

pub index-requires : goal.index-requires
index-requires c = let p = c.args.self.now in omega (arith, own_there p c.requires.known, length-map p.rules.now rule_tree, c.requires.rule)

pub row-requires-clause-place : goal.row-requires-clause-place
row-requires-clause-place c =
    let p = c.args.self.now in
    let r = rule_at p c.args.rule c.requires.rule in
    row_within p c.requires.known c.args.rule r.0 c.index-in-None.result.now r.1 c.index-in-None.ensures

pub row-requires-clause-row : goal.row-requires-clause-row
row-requires-clause-row c =
    let p = c.args.self.now in
    let r = rule_at p c.args.rule c.requires.rule in
    (row_of (universe_of p) (env_of p) r.0.expr, is_row p c.requires.known r.0.expr, first_row p c.requires.known c.args.rule r.0 c.index-in-None.result.now r.1 c.index-in-None.ensures)

pub returns-in-Some : goal.returns-in-Some
returns-in-Some c r is =
    let p = c.args.self.now in
    let same = ap (λ (o : Option Sets). own_or o (row_of (universe_of p) (env_of p) r.expr)) (sym c.in-Some.is) ∙ own_at p c.requires.known c.args.rule r c.index.result.now is c.index.ensures in
    subst (λ (row : Sets). IfOk c.copy.result (λ whole. whole ≡ row)) same c.copy.ensures

pub returns-in-None : goal.returns-in-None
returns-in-None c r is =
    let p = c.args.self.now in
    let e = r.expr in
    let same = ap (λ (o : Option Sets). own_or o (row_of (universe_of p) (env_of p) e)) (sym c.in-None.is) ∙ own_at p c.requires.known c.args.rule r c.index.result.now is c.index.ensures in
    subst (λ (row : Sets). IfOk c.row.result (λ whole. whole ≡ row)) same
    (c.row.ensures (row_of (universe_of p) (env_of p) e) (is_row p c.requires.known e) (first_row p c.requires.known c.args.rule r c.index-in-None.result.now is c.index-in-None.ensures))
