use Rattle.std.proofs.Common.{sym, ◌∙◌, refl, arith}
use Rattle.std.proofs.lemmas.List.{get_or_read}
use Rattle.lf_graph.specs.declared.search.NodeState.TheVariants.{Unmet}
use Rattle.lf_graph.proofs.Joining.{at_closed, joins_later}
use Rattle.lf_graph.proofs.search.Search.follow.Goals as goal

pub returns-in-Open-clause-search : goal.returns-in-Open-clause-search
returns-in-Open-clause-search c =
    let size = c.requires.search.open_nodes.nodes in
    let read = get_or_read c.args.self.now.nodes.items c.args.node c.index.result.now (let n = c.requires.node in omega (arith, n, size)) c.index.ensures Unmet in
    joins_later c.args.edges.now c.args.self.now (record c.args.self.now { parts = c.join.new.parts }) c.args.node c.in-Open.place c.requires.search c.requires.leads (sym read ∙ c.in-Open.is) refl c.join.ensures.rise c.join.ensures.kept

pub returns-in-Closed-clause-search : goal.returns-in-Closed-clause-search
returns-in-Closed-clause-search c =
    let size = c.requires.search.open_nodes.nodes in
    let read = get_or_read c.args.self.now.nodes.items c.args.node c.index.result.now (let n = c.requires.node in omega (arith, n, size)) c.index.ensures Unmet in
    at_closed c.args.edges.now c.args.self.now c.args.node c.in-Closed.field-0 c.requires.search (sym read ∙ c.in-Closed.is)
