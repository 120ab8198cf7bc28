use Rattle.std.proofs.Common.{◌∙◌, ap}
use Rattle.lf_ast.specs.Tree.{tree}
use Rattle.lf_trials.specs.Names.{name_for}
use Rattle.lf_built.proofs.Unnamed.{same_matchers}
use Rattle.lf_built.proofs.unsaid.sought_for.Goals as goal

pub returns-in_ok-class-in-Some : goal.returns-in_ok-class-in-Some
returns-in_ok-class-in-Some c = λ rules are. (
  c.in_ok-class-in-Some.ensures.class,
  λ matchers unnamed.
      c.in_ok-class-in-Some.ensures.name rules are
      ∙ ap (name_for c.args.universe.now rules) (same_matchers (tree c.args.expr.now) c.in-Some.name.now c.in-Some.matchers.now matchers c.in-Some.ensures.some unnamed),
)
