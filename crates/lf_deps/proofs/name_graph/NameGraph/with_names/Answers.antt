use Rattle.std.proofs.Common.{ℕ, List, sym, subst}
use Rattle.lf_graph.specs.Paths.{IsGraph}
use Rattle.lf_deps.proofs.NamePaths.{is_graph}
use Rattle.lf_deps.proofs.name_graph.NameGraph.with_names.Goals as goal

pub of-requires : goal.of-requires
of-requires c =
    let P : List (List ℕ) → Type 0 = λ edges. IsGraph edges in
    subst P (sym c.in_ok-edges.ensures) (is_graph c.args.sources.now c.requires.index c.args.names.now c.requires.names)
