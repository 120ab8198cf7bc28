use Rattle.std.proofs.Common.{◌≡◌, List, length, ap, subst, sym, ◌∙◌}
use Rattle.std.specs.List.{list_any}
use Rattle.std.proofs.lemmas.List.{length-map}
use Rattle.lf_ast.specs.Rules.{RuleTree, rule_tree, rule_trees}
use Rattle.lf_open.specs.views.Firsts.{rules_in}
use Rattle.lf_worlds.specs.views.Told.{rule_verdict}
use Rattle.lf_judge.specs.Judged.{has_unresolved}
use Rattle.lf_judge.specs.declared.rule_found.RuleFound.{RuleFound}
use Rattle.lf_judge.specs.views.RulesFound.{NameFirsts}
use Rattle.lf_judge.proofs.Named.{none_of}
use Rattle.lf_judge.proofs.firsts.firsts_of.Goals as goal

pub returns-then-not-any_unresolved : goal.returns-then-not-any_unresolved
returns-then-not-any_unresolved c = λ i x at some.
    absurd
    (none_of (λ (rule : RuleFound). has_unresolved (rule_verdict rule.known)) c.args.found.now i x
    (sym (ap (list_any (λ (rule : RuleFound). has_unresolved (rule_verdict rule.known))) c.as_slice.ensures) ∙ sym c.any_unresolved.ensures ∙ c.if-not-any_unresolved.true) at some)

pub firsts_by-requires-clause-count : goal.firsts_by-requires-clause-count
firsts_by-requires-clause-count c = c.requires.count ∙ sym (length-map c.args.rules.now rule_tree) ∙ ap length c.in_ok-opens.ensures.0 ∙ sym (ap length c.in_ok-open_firsts.ensures.1)

pub returns : goal.returns
returns c =
    let rules : rules_in c.in_ok-open_firsts.open_firsts ≡ rule_trees c.args.rules.now = c.in_ok-open_firsts.ensures.1 ∙ sym c.in_ok-opens.ensures.0 in
    subst (λ (rs : List RuleTree). NameFirsts rs c.args.found.now c.in_ok-firsts.firsts) rules c.in_ok-firsts.ensures
