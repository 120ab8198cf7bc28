use Rattle.std.proofs.Common.{◌≡◌, ◌↔◌, ◌&&◌, Bool, true, false, IsTrue, List, sym, ◌∙◌, ap, subst}
use Rattle.std.proofs.lemmas.Result.{IfOk-weaker}
use Rattle.lf_ast.specs.Rules.{RuleTree}
use Rattle.lf_ast.specs.Tree.{Tree, tree}
use Rattle.lf_trials.specs.Forks.{has_passing}
use Rattle.lf_forks.specs.views.Holding.{test_of}
use Rattle.lf_open.specs.Constructs.{NarrowsFork}
use Rattle.lf_open.specs.views.Known.{rules_of}
use Rattle.lf_open.specs.views.Names.{narrows}
use Rattle.lf_open.proofs.Narrowed.{narrowing}
use Rattle.lf_open.proofs.names.narrows_fork.Goals as goal

pub returns-then-narrows : goal.returns-then-narrows
returns-then-narrows c =
    let rules : List RuleTree = rules_of c.args.known.now in
    let e : Tree = tree c.args.expr.now in
    let test = test_of c.args.known.now.forks.now in
    let is : (narrows e && has_passing test e) ≡ has_passing test e = ap (λ (b : Bool). b && has_passing test e) (sym c.narrows.ensures ∙ c.if-narrows.true) in
    IfOk-weaker c.is_in.result (λ (found : Bool). found ≡ has_passing test e) (λ (found : Bool). IsTrue found ↔ NarrowsFork rules e) (λ found same. subst (λ (b : Bool). IsTrue b ↔ NarrowsFork rules e) (is ∙ sym same) (narrowing rules test c.requires.forks e)) c.is_in.ensures

pub returns-else-narrows : goal.returns-else-narrows
returns-else-narrows c =
    let rules : List RuleTree = rules_of c.args.known.now in
    let e : Tree = tree c.args.expr.now in
    let test = test_of c.args.known.now.forks.now in
    let is : (narrows e && has_passing test e) ≡ false = ap (λ (b : Bool). b && has_passing test e) (sym c.narrows.ensures ∙ c.if-narrows.false) in
    subst (λ (b : Bool). IsTrue b ↔ NarrowsFork rules e) is (narrowing rules test c.requires.forks e)
