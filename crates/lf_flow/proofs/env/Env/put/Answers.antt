use Rattle.std.proofs.Common.{List, [], get_or, ◌∙◌, ap, arith}
use Rattle.std.proofs.Math.ListN.{set}
use Rattle.lf_ast.specs.Labels.{Bytes}
use Rattle.lf_semantics.specs.RowTable.{Environment}
use Rattle.lf_flow.proofs.ReadNumbers.{kept_count, kept_names, put_entry}
use Rattle.lf_flow.proofs.env.Env.put.Goals as goal

pub index_mut-requires : goal.index_mut-requires
index_mut-requires c =
    omega (arith, c.requires, c.self.invariant.count, c.self.inside.rows.ok.0, kept_count c.self.inside.names c.self.inside.rows.items c.args.self.now c.self.view_is c.self.invariant.count)

pub returns : goal.returns
returns c =
    let names = c.self.inside.names in
    let rows = c.self.inside.rows.items in
    let k = c.args.k in
    put_entry names rows k c.args.row c.self.invariant.count (omega (arith, c.requires, c.self.invariant.count, kept_count names rows c.args.self.now c.self.view_is c.self.invariant.count))
    ∙ ap (λ (env : Environment). set env k (get_or names k [], c.args.row)) c.self.view_is
    ∙ ap (λ (xs : List Bytes). set c.args.self.now k (get_or xs k [], c.args.row)) (kept_names names rows c.args.self.now c.self.view_is c.self.invariant.count)
