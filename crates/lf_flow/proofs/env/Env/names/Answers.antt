use Rattle.std.proofs.Common.{◌∙◌, arith}
use Rattle.lf_flow.proofs.ReadNumbers.{kept_count}
use Rattle.lf_flow.proofs.env.Env.names.Goals as goal

pub overflow_cast-result : goal.overflow_cast-result
overflow_cast-result c =
    omega (arith, c.self.invariant.few, c.len.ensures.count)

pub returns : goal.returns
returns c = c.len.ensures.count ∙ kept_count c.self.inside.names c.self.inside.rows.items c.args.self.now c.self.view_is c.self.invariant.count
