use Rattle.std.proofs.Common.{ℕ, IfSome, Option, subst}
use Rattle.lf_ast.specs.Rules.{rule_trees}
use Rattle.lf_uniform.specs.views.Texts.{IsOnly}
use Rattle.lf_uniform.proofs.texts.first_followed.Goals as goal

pub if_followed-requires-clause-only : goal.if_followed-requires-clause-only
if_followed-requires-clause-only c own at =
    subst (λ (o : Option ℕ). IfSome o (IsOnly c.args.setting.now.universe (rule_trees c.args.setting.now.rules) c.args.number own c.args.label)) c.in-Some.is (c.in_ok-class.ensures.only own at)
