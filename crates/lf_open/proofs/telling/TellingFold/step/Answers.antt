use Rattle.std.proofs.Common.{◌≡◌, sym, ◌∙◌, ap}
use Rattle.std.proofs.lemmas.Result.{IfOk-weaker}
use Rattle.lf_ast.specs.Tree.{Tree, tree}
use Rattle.lf_open.specs.declared.told.ExpressionFacts.{ExpressionFacts}
use Rattle.lf_open.specs.views.Telling.{facts_of}
use Rattle.lf_open.specs.views.Told.{Facts, made, told}
use Rattle.lf_open.proofs.ToldLaws.{told_is}
use Rattle.lf_open.proofs.telling.TellingFold.step.Goals as goal

pub returns : goal.returns
returns c =
    let f : Facts = facts_of c.args.self.now in
    let e : Tree = tree c.args.expr.now in
    IfOk-weaker c.made.result (λ (m : ExpressionFacts). m ≡ made f e c.args.values.items) (λ (m : ExpressionFacts). m ≡ told f e) (λ m is. is ∙ ap (made f e) c.requires ∙ sym (told_is f e)) c.made.ensures
