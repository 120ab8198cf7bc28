use Rattle.std.proofs.Common.{List}
use Rattle.std.proofs.lemmas.Result.{on_ok_weaker}
use Rattle.lf_laws.proofs.Gaining.{gains_both}
use Rattle.lf_ast.specs.Rules.{RuleTree}
use Rattle.lf_ast.specs.Tree.{Tree, tree}
use Rattle.lf_open.specs.declared.open_at.OpenAt.{OpenAt}
use Rattle.lf_open.specs.views.Adding.{Adds, IsByForm, IsByItself, IsByNames}
use Rattle.lf_open.specs.views.Known.{rules_of}
use Rattle.lf_open.proofs.nodes.add_by_itself.Goals as goal

pub returns : goal.returns
returns c =
    let rules : List RuleTree = rules_of c.args.known.now in
    let k = c.args.rule in
    let e : Tree = tree c.args.expr.now in
    let old : List OpenAt = c.args.found.now.items in
    let first : List OpenAt = c.add_by_form.new.found.items in
    let new : List OpenAt = c.add_by_names.new.found.items in
    on_ok_weaker {P = Adds (IsByNames rules k e) first new} {Q = Adds (IsByItself rules k e) old new} c.add_by_names.result (λ a. gains_both _ (IsByForm rules k e) (IsByNames rules k e) old first new (c.in_ok-add_by_form.ensures rules) a) c.add_by_names.ensures
