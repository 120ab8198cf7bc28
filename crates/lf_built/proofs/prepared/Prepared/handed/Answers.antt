use Rattle.std.proofs.Common.{Bool, cond, Some, sym, subst, ◌∙◌}
use Rattle.lf_semantics.specs.RowTable.{row_of}
use Rattle.lf_trials.specs.Given.{completed}
use Rattle.lf_candidates.specs.views.ClassTexts.{StandsFor}
use Rattle.lf_built.specs.views.Indexed.{env_of, universe_of}
use Rattle.lf_built.specs.views.Spots.{tree_at}
use Rattle.lf_built.proofs.StandingParts.{is_row}
use Rattle.lf_built.proofs.prepared.Prepared.handed.Goals as goal

pub completed_by-requires-clause-row : goal.completed_by-requires-clause-row
completed_by-requires-clause-row c =
    let p = c.args.self.now in
    let e = tree_at c.args.spot.now in
    (row_of (universe_of p) (env_of p) e, ((is_row p c.requires.known e).0, c.packed_row.ensures))

pub returns-else-is_fork : goal.returns-else-is_fork
returns-else-is_fork c = λ D stands.
    let p = c.args.self.now in
    let u = universe_of p in
    let e = tree_at c.args.spot.now in
    let row = row_of u (env_of p) e in
    subst (λ (b : Bool). StandsFor u c.completed_by.result (cond b (Some D) (completed u row D))) (sym c.if-is_fork.false ∙ c.is_fork.ensures)
    (c.completed_by.ensures row D ((is_row p c.requires.known e).0, c.packed_row.ensures) stands)
