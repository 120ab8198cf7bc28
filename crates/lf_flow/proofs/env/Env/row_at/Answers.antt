use Rattle.std.proofs.Common.{◌<◌, List, [], map, length, get_or, sym, ◌∙◌, ap, arith}
use Rattle.std.proofs.lemmas.List.{get_or_read}
use Rattle.lf_ast.specs.Labels.{Bytes}
use Rattle.lf_semantics.specs.ClassRows.{Sets}
use Rattle.lf_flow.proofs.Entries.{each_row}
use Rattle.lf_flow.proofs.ReadNumbers.{kept_count}
use Rattle.lf_flow.proofs.env.Env.row_at.Goals as goal

pub index-requires : goal.index-requires
index-requires c =
    omega (arith, c.requires, c.self.invariant.count, c.self.inside.rows.ok.0, kept_count c.self.inside.names c.self.inside.rows.items c.args.self.now c.self.view_is c.self.invariant.count)

pub returns : goal.returns
returns c =
    let names = c.self.inside.names in
    let rows : List Sets = c.self.inside.rows.items in
    let k = c.args.k in
    let h : k < length rows = omega (arith, c.requires, c.self.invariant.count, kept_count names rows c.args.self.now c.self.view_is c.self.invariant.count) in
    get_or_read rows k c.index.result.now h c.index.ensures [] ∙ ap (λ (rs : List Sets). get_or rs k []) (sym (each_row names rows c.self.invariant.count) ∙ ap (map (λ (entry : Bytes × Sets). entry.1)) c.self.view_is)
