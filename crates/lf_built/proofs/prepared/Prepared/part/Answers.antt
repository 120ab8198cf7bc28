use Rattle.std.proofs.Common.{◌≡◌, ℕ, Option, Some, None, refl, sym, subst}
use Rattle.std.specs.Prelude.{slice_get}
use Rattle.lf_ast.specs.Tree.{Tree, parts_of, tree, nodes}
use Rattle.lf_built.specs.views.Indexed.{trees_of}
use Rattle.lf_built.specs.views.Places.{StandsFrom}
use Rattle.lf_built.specs.views.Spots.{IsPartSpot, tree_at}
use Rattle.lf_built.proofs.PartSpots.{none_at, some_at}
use Rattle.lf_built.proofs.Places.{part_stands}
use Rattle.lf_built.proofs.prepared.Prepared.part.Goals as goal

pub place_of-requires-clause-part : goal.place_of-requires-clause-part
place_of-requires-clause-part c = (tree c.in-Some.expr.now, some_at (parts_of (tree_at c.args.spot.now)) c.args.at _ _ c.in-Some.ensures.0)

pub returns-in-Some : goal.returns-in-Some
returns-in-Some c =
    let e : Tree = tree c.in-Some.expr.now in
    let spot = c.requires.spot in
    let there : slice_get (parts_of (tree_at c.args.spot.now)) c.args.at ≡ Some e = some_at (parts_of (tree_at c.args.spot.now)) c.args.at _ _ c.in-Some.ensures.0 in
    let stands = part_stands (nodes spot.0.expr) c.args.spot.now.place (tree_at c.args.spot.now) c.args.at e spot.2 there in
    let at = subst (λ (n : ℕ). StandsFrom (nodes spot.0.expr) n e) (sym c.place_of.ensures) stands in
    subst (λ (o : Option Tree). IsPartSpot (trees_of c.args.self.now) o (Some (record { rule = c.args.spot.now.rule; place = c.place_of.result; expr = c.in-Some.expr }))) (sym there) ((spot.0, spot.1, at), refl)

pub returns-in-None : goal.returns-in-None
returns-in-None c =
    subst (λ (o : Option Tree). IsPartSpot (trees_of c.args.self.now) o None) (sym (none_at (parts_of (tree_at c.args.spot.now)) c.args.at c.in-None.ensures)) tt
