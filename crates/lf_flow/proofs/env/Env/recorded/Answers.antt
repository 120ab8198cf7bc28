use Rattle.std.proofs.Common.{map, sym, ◌∙◌, ap}
use Rattle.lf_ast.specs.Labels.{Bytes}
use Rattle.lf_semantics.specs.ClassRows.{Sets}
use Rattle.lf_flow.proofs.Entries.{each_name}
use Rattle.lf_flow.proofs.env.Env.recorded.Goals as goal

pub returns : goal.returns
returns c = sym (each_name c.self.inside.names c.self.inside.rows.items c.self.invariant.count) ∙ ap (map (λ (entry : Bytes × Sets). entry.0)) c.self.view_is
