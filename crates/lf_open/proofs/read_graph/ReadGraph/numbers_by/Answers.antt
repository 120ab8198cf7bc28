use Rattle.std.proofs.Common.{List, sym, subst}
use Rattle.std.proofs.lemmas.Result.{IfOk-weaker}
use Rattle.lf_ast.specs.Rules.{RuleTree}
use Rattle.lf_deps.specs.views.Names.{AreNumbersBy}
use Rattle.lf_open.specs.views.ReadNames.{IsReadGraph, ReadGraph}
use Rattle.lf_open.proofs.read_graph.ReadGraph.numbers_by.Goals as goal

pub read_by-requires : goal.read_by-requires
read_by-requires c =
    let rules : List RuleTree = c.requires.0 in
    let is = subst (IsReadGraph rules) (sym c.self.view_is) c.requires.1 in
    (rules, is.graph)

pub returns : goal.returns
returns c rules of =
    let is = subst (IsReadGraph rules) (sym c.self.view_is) of in
    IfOk-weaker c.read_by.result (AreNumbersBy rules c.self.inside.names c.args.selector.now) (AreNumbersBy rules c.args.self.now.names c.args.selector.now)
    (λ found are. subst (λ (g : ReadGraph). AreNumbersBy rules g.names c.args.selector.now found) c.self.view_is are) (c.read_by.ensures rules is.graph)
