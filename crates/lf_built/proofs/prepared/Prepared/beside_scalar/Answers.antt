use Rattle.std.proofs.Common.{Bool, not, ◌∙◌, subst}
use Rattle.std.specs.Prelude.{slice_get}
use Rattle.lf_ast.specs.Tree.{parts_of}
use Rattle.lf_built.specs.views.Indexed.{universe_of}
use Rattle.lf_built.specs.views.Spots.{tree_at}
use Rattle.lf_built.specs.views.Tasks.{nameless_if, one_wanted}
use Rattle.lf_built.specs.views.Works.{AreParts}
use Rattle.lf_built.proofs.prepared.Prepared.beside_scalar.Goals as goal

pub returns : goal.returns
returns c D stands =
    let at = slice_get (parts_of (tree_at c.args.spot.now)) c.args.at in
    subst (λ (b : Bool). AreParts c.args.self.now (tree_at c.args.spot.now) (one_wanted (nameless_if (not b) D) at) c.one.result) c.is_filter-drops.ensures
    (c.one.ensures (nameless_if (not c.is_filter-drops.result) D) (c.nameless_if-texts.ensures (universe_of c.args.self.now) D c.requires.known.within (c.as_slice.ensures.value ∙ c.requires.known.names) stands))
