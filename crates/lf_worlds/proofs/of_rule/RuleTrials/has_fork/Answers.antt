use Rattle.std.proofs.Common.{Bool, Option, List, ap, ◌∙◌, subst, slice_get}
use Rattle.std.specs.Prelude.{IfSome}
use Rattle.lf_laws.proofs.Options.{same_option}
use Rattle.lf_ast.specs.Rules.{RuleTree, rule_tree, rule_trees}
use Rattle.lf_ast.specs.Tree.{Tree}
use Rattle.lf_deps.proofs.RuleTrees.{tree_at}
use Rattle.lf_trials.specs.Forks.{TellsForks, has_passing}
use Rattle.lf_forks.specs.views.Holding.{test_of}
use Rattle.lf_built.specs.views.Built.{OfRule}
use Rattle.lf_worlds.specs.views.Tried.{IsForkedAt}
use Rattle.lf_worlds.proofs.SharedAbsence.{forked_by}
use Rattle.lf_worlds.proofs.of_rule.RuleTrials.has_fork.Goals as goal

pub returns-in-Some-clause-fork : goal.returns-in-Some-clause-fork
returns-in-Some-clause-fork c =
    let s = c.self.inside in
    let trees : List RuleTree = rule_trees s.rules.now in
    let known = subst (λ (o : Option Bool). IfSome o (IsForkedAt trees s.number (has_passing (test_of s.forks.now)))) c.in-Some.is c.self.invariant.8 in
    subst (λ (v : OfRule). (h : Tree → Bool) → TellsForks (rule_trees v.rules) h → IsForkedAt (rule_trees v.rules) v.number h c.in-Some.forked) c.self.view_is
    (forked_by trees (test_of s.forks.now) c.self.invariant.6 s.number c.in-Some.forked known)

pub returns-in_ok-forked-in-None-clause-fork : goal.returns-in_ok-forked-in-None-clause-fork
returns-in_ok-forked-in-None-clause-fork c =
    let s = c.self.inside in
    let trees : List RuleTree = rule_trees s.rules.now in
    let rule = c.get-rule.result.now in
    let known : IsForkedAt trees s.number (has_passing (test_of s.forks.now)) c.in_ok-forked-in-None.forked =
    λ r at. c.in_ok-forked-in-None.ensures ∙ ap (λ (x : RuleTree). has_passing (test_of s.forks.now) x.expr) (same_option (slice_get trees s.number) (rule_tree rule) r (tree_at s.rules.now s.number rule c.get-rule.ensures.value) at) in
    subst (λ (v : OfRule). (h : Tree → Bool) → TellsForks (rule_trees v.rules) h → IsForkedAt (rule_trees v.rules) v.number h c.in_ok-forked-in-None.forked) c.self.view_is
    (forked_by trees (test_of s.forks.now) c.self.invariant.6 s.number c.in_ok-forked-in-None.forked known)
