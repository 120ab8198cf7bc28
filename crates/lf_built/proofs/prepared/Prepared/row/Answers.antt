use Rattle.lf_semantics.specs.RowTable.{row_of}
use Rattle.lf_built.specs.views.Indexed.{env_of, universe_of}
use Rattle.lf_built.specs.views.Spots.{tree_at}
use Rattle.lf_built.proofs.StandingParts.{is_row, row_told, row_within}
use Rattle.lf_built.proofs.prepared.Prepared.row.Goals as goal

pub row-requires-clause-place : goal.row-requires-clause-place
row-requires-clause-place c = row_within c.args.self.now c.requires.known c.args.spot.now c.requires.spot c.index.result.now c.index.ensures

pub row-requires-clause-row : goal.row-requires-clause-row
row-requires-clause-row c =
    let p = c.args.self.now in
    let e = tree_at c.args.spot.now in
    (row_of (universe_of p) (env_of p) e, is_row p c.requires.known e, row_told p c.requires.known c.args.spot.now c.requires.spot c.index.result.now c.index.ensures)

pub returns : goal.returns
returns c =
    let p = c.args.self.now in
    let e = tree_at c.args.spot.now in
    c.row.ensures (row_of (universe_of p) (env_of p) e) (is_row p c.requires.known e) (row_told p c.requires.known c.args.spot.now c.requires.spot c.index.result.now c.index.ensures)
