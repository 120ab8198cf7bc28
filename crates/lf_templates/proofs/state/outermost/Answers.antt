use Rattle.std.proofs.Common.{sym}
use Rattle.lf_templates.proofs.Stacks.{outermost_got}
use Rattle.lf_templates.proofs.state.outermost.Goals as goal

pub returns-in-Some : goal.returns-in-Some
returns-in-Some c = sym (outermost_got c.args.bodies.now c.in-Some.body.now (sym (rw c.in-Some.is at c.first.ensures.value)))
