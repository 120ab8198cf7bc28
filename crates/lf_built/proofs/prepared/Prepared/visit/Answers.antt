use Rattle.lf_built.proofs.Works.{handed_some, next_visit}
use Rattle.lf_built.proofs.prepared.Prepared.visit.Goals as goal

pub returns-in-Some-clause-goes : goal.returns-in-Some-clause-goes
returns-in-Some-clause-goes c whole left =
    let p = c.args.self.now in
    let next = next_visit p whole c.args.spot c.args.texts c.args.work.now left in
    let h = handed_some p whole c.args.spot c.args.texts c.in-Some.texts c.args.work.now next (c.in-Some.ensures next.given next.stands) in
    c.build_from.ensures.goes whole h.0 h.1 h.2
