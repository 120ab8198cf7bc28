use Rattle.std.proofs.Common.{◌++◌, ◌∙◌, ap, append-nil, sym}
use Rattle.std.proofs.lemmas.List.{map-append}
use Rattle.lf_ast.specs.Rules.{rule_tree, rule_trees}
use Rattle.lf_judge.specs.Founds.{rules_in}
use Rattle.lf_judge.specs.declared.accepting.FileContent.{FileContent}
use Rattle.lf_judge.specs.views.Accepting.{content_of}
use Rattle.lf_judge.proofs.accepting.move_found.Goals as goal

pub returns-in_ok-move_behind-in-Rules-clause-rules : goal.returns-in_ok-move_behind-in-Rules-clause-rules
returns-in_ok-move_behind-in-Rules-clause-rules c =
    let before = c.args.rules.now in
    ap rule_trees c.in_ok-move_behind-in-Rules.ensures ∙ map-append rule_tree before c.in-Rules.of ∙ ap (λ (f : FileContent). rule_trees before ++ rules_in (content_of f)) (sym c.in-Rules.is)

pub returns-in-Refused-clause-rules : goal.returns-in-Refused-clause-rules
returns-in-Refused-clause-rules c =
    let before = c.args.rules.now in
    sym (append-nil (rule_trees before)) ∙ ap (λ (f : FileContent). rule_trees before ++ rules_in (content_of f)) (sym c.in-Refused.is)
