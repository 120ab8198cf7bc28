use Rattle.lf_base.proofs.Answering.{breach, found, only, refused, refused_in}
use Rattle.lf_ast.specs.Tree.{tree}
use Rattle.lf_semantics.specs.PatternBreaches.{TellsPattern}
use Rattle.lf_semantics.proofs.PatternsInside.{pattern_within}
use Rattle.lf_classes.specs.Checked.{HasNoBreach}
use Rattle.lf_classes.specs.reading.Checking.{patterns_checked}
use Rattle.lf_classes.proofs.FaultsFound.{decides}
use Rattle.lf_classes.proofs.checking.check_patterns_by.Goals as goal

pub returns : goal.returns
returns c =
    let e = tree c.args.expr.now in
    let r = c.check.result in
    let given = c.check.ensures in
    let told = refused (λ t. t) (HasNoBreach e) (TellsPattern e) (patterns_checked e) (decides e) r given in
    record {
      found = found (λ t. t) (HasNoBreach e) (TellsPattern e) (patterns_checked e) (decides e) r given;
      only = only (λ t. t) (HasNoBreach e) (TellsPattern e) (patterns_checked e) (decides e) r given;
      refused = told;
      breach = breach (λ t. t) (HasNoBreach e) (TellsPattern e) (patterns_checked e) (decides e) r given;
      refused_inside = λ n inside. refused_in n (TellsPattern e) (λ f tells. pattern_within n e f inside tells.0) r told;
    }
