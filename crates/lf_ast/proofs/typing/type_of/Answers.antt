use Rattle.lf_base.proofs.Answering.{breach, found, only, refused, refused_in}
use Rattle.lf_ast.specs.Breaches.{Tells}
use Rattle.lf_ast.specs.reading.Judging.{judged}
use Rattle.lf_ast.specs.Tree.{tree}
use Rattle.lf_ast.specs.Types.{HasType}
use Rattle.lf_ast.proofs.BreachesInside.{breach_lies}
use Rattle.lf_ast.proofs.Judged.{decides}
use Rattle.lf_ast.proofs.typing.type_of.Goals as goal

pub returns : goal.returns
returns c =
    let e = tree c.args.expr.now in
    let r = c.read_type.result in
    let given = c.read_type.ensures in
    let told = refused (λ t. t) (HasType e) (Tells e) (judged e) (decides e) r given in
    record {
      found = found (λ t. t) (HasType e) (Tells e) (judged e) (decides e) r given;
      only = only (λ t. t) (HasType e) (Tells e) (judged e) (decides e) r given;
      refused = told;
      breach = breach (λ t. t) (HasType e) (Tells e) (judged e) (decides e) r given;
      refused_inside = λ n inside. refused_in n (Tells e) (λ f tells. breach_lies n e f inside tells.0) r told;
    }
