use Rattle.std.proofs.Common.{◌<◌, Some, length, sym, ◌∙◌, ap, arith, get_or}
use Rattle.lf_semantics.specs.Listing.{place}
use Rattle.lf_semantics.specs.RowTable.{row_named}
use Rattle.lf_flow.proofs.Entries.{named_row, none_named}
use Rattle.lf_flow.proofs.env.Env.row.Goals as goal

pub returns-then-place-len-clause-some : goal.returns-then-place-len-clause-some
returns-then-place-len-clause-some c =
    let names = c.self.inside.names in
    let rows = c.self.inside.rows.items in
    let name = c.args.name.now in
    let row = c.index.result.now in
    let within : place names name < length rows = omega (arith, c.place-place.ensures.place, c.if-place-len.true, c.len.ensures, c.self.inside.rows.ok.0) in
    ap (λ env. row_named env name) (sym c.self.view_is)
    ∙ named_row names rows name row c.self.invariant.count within
    ∙ ap (λ k. Some (get_or rows k row)) (sym c.place-place.ensures.place)
    ∙ ap Some (sym c.index.ensures)

pub returns-else-place-len-clause-none : goal.returns-else-place-len-clause-none
returns-else-place-len-clause-none c =
    let name = c.args.name.now in
    ap (λ env. row_named env name) (sym c.self.view_is)
    ∙ none_named c.self.inside.names c.self.inside.rows.items name c.self.invariant.count (omega (arith, c.place-place.ensures.place, c.if-place-len.false, c.len.ensures, c.self.inside.rows.ok.0))
