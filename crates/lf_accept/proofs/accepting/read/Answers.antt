use Rattle.std.proofs.Common.{List, map, subst, sym}
use Rattle.std.proofs.lemmas.Result.{err_from_is_err_and}
use Rattle.lf_ast.specs.Rules.{rule_trees}
use Rattle.lf_rules.specs.Sources.{source_in}
use Rattle.lf_rules.specs.declared.source.RuleInTree.{RuleInTree}
use Rattle.lf_yaml.specs.Tree.{tree}
use Rattle.lf_accept.specs.Accepted.{Says}
use Rattle.lf_accept.proofs.Steps.{accepts, at_rules, at_tree, none_at_rules, none_at_tree, refuses_rule}
use Rattle.lf_accept.proofs.Takings.{file_taken, none_taken}
use Rattle.lf_accept.proofs.accepting.read.Goals as goal

pub returns-in_err-tree-clause-refused : goal.returns-in_err-tree-clause-refused
returns-in_err-tree-clause-refused c =
    let p = err_from_is_err_and c.from_residual.result c.from_residual.ensures.1 in
    rw (p.1, p.2) (at_tree c.args.bytes.now c.in_err-tree.field-0.0 c.in_err-tree.ensures.refused)

pub returns-in_err-tree-clause-taken : goal.returns-in_err-tree-clause-taken
returns-in_err-tree-clause-taken c =
    let p = err_from_is_err_and c.from_residual.result c.from_residual.ensures.1 in
    rw (p.1, p.2) (none_taken c.args.bytes.now c.args.allowance.now.left c.in_err-tree.field-0.0 (none_at_tree c.args.bytes.now c.in_err-tree.field-0.0 c.in_err-tree.ensures.refused))

pub returns-in_err-sources-clause-refused : goal.returns-in_err-sources-clause-refused
returns-in_err-sources-clause-refused c =
    let p = err_from_is_err_and c.from_residual-in_err-sources.result c.from_residual-in_err-sources.ensures.1 in
    rw (p.1, p.2) (at_rules c.args.bytes.now (tree c.in_ok-tree.tree) c.in_ok-tree.ensures.found c.in_err-sources.field-0.0 c.in_err-sources.ensures.refused)

pub returns-in_err-sources-clause-taken : goal.returns-in_err-sources-clause-taken
returns-in_err-sources-clause-taken c =
    let p = err_from_is_err_and c.from_residual-in_err-sources.result c.from_residual-in_err-sources.ensures.1 in
    rw (p.1, p.2) (none_taken c.args.bytes.now c.args.allowance.now.left c.in_err-sources.field-0.0 (none_at_rules c.args.bytes.now (tree c.in_ok-tree.tree) c.in_ok-tree.ensures.found c.in_err-sources.field-0.0 c.in_err-sources.ensures.refused))

pub returns-clause-found : goal.returns-clause-found
returns-clause-found c =
    let P : List RuleInTree → Type 0 = λ ss. Says c.args.bytes.now (map source_in ss) in
    accepts c.args.file c.args.bytes.now (map source_in c.as_slice.result.now) (subst P (sym c.as_slice.ensures) (tree c.in_ok-tree.tree, c.in_ok-tree.ensures.found, c.in_ok-sources.ensures.found)) rule_trees c.rules_of.result c.rules_of.ensures.found

pub returns-clause-refused : goal.returns-clause-refused
returns-clause-refused c =
    let P : List RuleInTree → Type 0 = λ ss. Says c.args.bytes.now (map source_in ss) in
    refuses_rule c.args.bytes.now (map source_in c.as_slice.result.now) (subst P (sym c.as_slice.ensures) (tree c.in_ok-tree.tree, c.in_ok-tree.ensures.found, c.in_ok-sources.ensures.found)) c.rules_of.result c.rules_of.ensures.refused

pub returns-clause-taken : goal.returns-clause-taken
returns-clause-taken c =
    let P : List RuleInTree → Type 0 = λ ss. Says c.args.bytes.now (map source_in ss) in
    file_taken c.args.file c.args.bytes.now (map source_in c.as_slice.result.now) (subst P (sym c.as_slice.ensures) (tree c.in_ok-tree.tree, c.in_ok-tree.ensures.found, c.in_ok-sources.ensures.found)) c.args.allowance.now.left c.rules_of.new.allowance.left rule_trees c.rules_of.result
    c.rules_of.ensures.found c.rules_of.ensures.taken c.rules_of.ensures.spent
