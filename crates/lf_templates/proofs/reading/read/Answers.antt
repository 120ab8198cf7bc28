use Rattle.lf_templates.proofs.Advancing.{refused, finished, advances_as}
use Rattle.lf_templates.proofs.reading.read.Goals as goal

pub returns-in-Err : goal.returns-in-Err
returns-in-Err c =
    refused c.args.from.now c.args.text.now c.begin-state.result c.loop-at.state c.loop-at.at c.begin-state.ensures.bodies c.begin-state.ensures.flaw c.begin-state.ensures.renamed c.begin-state.ensures.found c.loop-at.invariant.same c.in-Err.refusal (advances_as c.args.from.now c.args.text.now c.loop-at.state c.loop-at.at _ _ c.in-Err.is c.advance.ensures)

pub returns : goal.returns
returns c =
    finished c.args.from.now c.args.text.now c.begin-state.result c.loop-at.state c.loop-at.at c.begin-state.ensures.bodies c.begin-state.ensures.flaw c.begin-state.ensures.renamed c.begin-state.ensures.found c.loop-at.invariant.same c.finish.result (c.finish.ensures c.args.from.now) c.loop-at-test.false
