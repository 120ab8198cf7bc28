use Rattle.std.proofs.Common.{◌≡◌, get_or, sym, rules}
use Rattle.lf_ast.specs.declared.rule.Template.{Template}
use Rattle.lf_ast.specs.Rules.{rule_tree}
use Rattle.lf_checks.specs.views.TemplateCases.{IsOfTemplate}
use Rattle.lf_checks.proofs.Lists.{along_end, along_next}
use Rattle.lf_checks.proofs.TemplateCases.{of_templates}
use Rattle.lf_checks.proofs.alert_template.alert_template.Goals as goal

pub loop-template-preserved : goal.loop-template-preserved
loop-template-preserved c =
    along_next (IsOfTemplate c.args.universe.now c.args.row.now) c.args.rule.now.templates c.loop-template.template-index c.template-item.result (search rules) (search rules) c.loop-template.found.items
    c.in_ok-more.more.items c.append.new.self.items (search rules) c.loop-template.invariant (search rules)

pub of_template-requires : goal.of_template-requires
of_template-requires c =
    let t : Template = c.template-item.result in
    let is : t ≡ get_or c.args.rule.now.templates c.loop-template.template-index t = search rules in
    let sources = c.requires.sources t (c.loop-template.template-index, search rules, sym is) in
    record { shape = c.requires.shape; from = sources.0; rises = sources.1 }

pub returns : goal.returns
returns c =
    of_templates c.args.universe.now c.args.row.now (rule_tree c.args.rule.now) (search rules) c.loop-template.found.items
    (along_end (IsOfTemplate c.args.universe.now c.args.row.now) c.args.rule.now.templates c.loop-template.template-index (search rules) c.loop-template.found.items c.loop-template.invariant)
