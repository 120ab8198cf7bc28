use Rattle.std.proofs.Common.{◌↔◌, ℕ, List, ◌∙◌, ap, subst, arith}
use Rattle.std.specs.List.{Contains, flat_map}
use Rattle.lf_ast.specs.Labels.{Bytes}
use Rattle.lf_ast.specs.Rules.{RuleTree, rule_trees}
use Rattle.lf_graph.specs.Paths.{IsReached}
use Rattle.lf_forks.specs.views.NameMarks.{Marks, NameMarks}
use Rattle.lf_forks.specs.views.Uses.{AreUses, fork_nodes}
use Rattle.lf_forks.proofs.MadeByForks.{uses_graph}
use Rattle.lf_forks.proofs.Told.{starts_below, tells}
use Rattle.lf_forks.proofs.forks.Forks.of.Goals as goal

pub of-requires : goal.of-requires
of-requires c =
    let rules : List RuleTree = rule_trees c.args.rules.now in
    let is = c.in_ok-own.ensures in
    let names : List Bytes = c.in_ok-own.own.names in
    let P : List Bytes → Type 0 = λ l. AreUses rules l c.in_ok-uses.uses in
    uses_graph rules names is.names c.in_ok-uses.uses (subst P (ap (λ (m : NameMarks). m.names) c.own.view_is) c.in_ok-uses.ensures)

pub reached-requires-clause-start : goal.reached-requires-clause-start
reached-requires-clause-start c u there =
    let rules : List RuleTree = rule_trees c.args.rules.now in
    let own : NameMarks = c.in_ok-own.own in
    let P : List ℕ → Type 0 = λ l. Contains l u in
    let Q : List Bytes → Type 0 = λ l. AreUses rules l c.in_ok-uses.uses in
    let uses : AreUses rules own.names c.in_ok-uses.uses = subst Q (ap (λ (m : NameMarks). m.names) c.own.view_is) c.in_ok-uses.ensures in
    let below = starts_below rules own c.in_ok-own.ensures u (subst P (c.as_slice.ensures ∙ c.in_ok-start.ensures) there) in
    let numbered = c.in_ok-graph.ensures.numbered.nodes in
    omega (arith, below, numbered, uses.count)

pub returns : goal.returns
returns c =
    let rules : List RuleTree = rule_trees c.args.rules.now in
    let own : NameMarks = c.in_ok-own.own in
    let is = c.in_ok-own.ensures in
    let uses : List (List ℕ) = c.in_ok-uses.uses in
    let made : List ℕ = c.in_ok-made.made in
    let Q : List Bytes → Type 0 = λ l. AreUses rules l uses in
    let are : AreUses rules own.names uses = subst Q (ap (λ (m : NameMarks). m.names) c.own.view_is) c.in_ok-uses.ensures in
    let P : List ℕ → Type 0 = λ l. (v : ℕ) → Contains made v ↔ IsReached uses l v in
    let reached : P (flat_map (fork_nodes own) rules) = subst P (c.as_slice.ensures ∙ c.in_ok-start.ensures) (c.in_ok-made.ensures.members uses c.in_ok-graph.ensures) in
    let M : List ℕ → Type 0 = λ l. Marks l own c.with.result in
    tells rules own is uses are made reached c.with.result (subst M c.as_slice-2.ensures c.with.ensures)
