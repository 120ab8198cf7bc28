use Rattle.std.proofs.Common.{[], get_or, ◌∙◌, ap, arith}
use Rattle.lf_flow.proofs.ReadNumbers.{kept_count, kept_names}
use Rattle.lf_flow.proofs.env.Env.name.Goals as goal

pub get-requires : goal.get-requires
get-requires c = omega (arith, c.requires, kept_count c.self.inside.names c.self.inside.rows.items c.args.self.now c.self.view_is c.self.invariant.count)

pub returns : goal.returns
returns c = c.get.ensures ∙ ap (λ names. get_or names c.args.k []) (kept_names c.self.inside.names c.self.inside.rows.items c.args.self.now c.self.view_is c.self.invariant.count)
