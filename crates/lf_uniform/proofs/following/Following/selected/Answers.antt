use Rattle.std.proofs.Common.{◌≡◌, Option, subst}
use Rattle.std.specs.Prelude.{IfOk}
use Rattle.lf_ast.specs.Labels.{Bytes}
use Rattle.lf_ast.specs.Rules.{rule_trees}
use Rattle.lf_trials.specs.Follow.{follow_name}
use Rattle.lf_uniform.specs.views.Following.{known_by}
use Rattle.lf_uniform.proofs.following.Following.selected.Goals as goal

pub returns-in-Some : goal.returns-in-Some
returns-in-Some c =
    let f = c.args.self.now in
    subst (λ (o : Option Bytes). IfOk c.named.result (λ text. text ≡ follow_name f.setting.now.universe (rule_trees f.setting.now.rules) f.label.now f.given.now (known_by f.names.now f.values.now) o c.args.matchers.now)) c.in-Some.ensures
    (c.named.ensures c.args.matchers.now)
