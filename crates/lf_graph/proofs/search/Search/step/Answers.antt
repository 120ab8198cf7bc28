use Rattle.lf_graph.proofs.Taking.{all_lead_later, takes_later, within}
use Rattle.lf_graph.proofs.search.Search.step.Goals as goal

pub follow-requires-clause-node : goal.follow-requires-clause-node
follow-requires-clause-node c = within c.args.edges.now c.args.self.now c.take_due.new.self c.in-Some.node c.requires.graph c.requires.search c.in-Some.ensures.some

pub follow-requires-clause-search : goal.follow-requires-clause-search
follow-requires-clause-search c = takes_later c.args.edges.now c.args.self.now c.take_due.new.self c.in-Some.node c.requires.graph c.requires.search c.in-Some.ensures.some

pub follow-requires-clause-leads : goal.follow-requires-clause-leads
follow-requires-clause-leads c = all_lead_later c.args.edges.now c.args.self.now c.take_due.new.self c.in-Some.node c.requires.graph c.requires.search c.in-Some.ensures.some
