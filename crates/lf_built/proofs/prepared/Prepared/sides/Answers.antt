use Rattle.std.proofs.Common.{◌≡◌, Bool, true, false, not, List, Option, Some, ◌∙◌, ap, subst}
use Rattle.std.specs.Prelude.{slice_get}
use Rattle.lf_ast.specs.Tree.{Tree, parts_of}
use Rattle.lf_semantics.specs.Grouped.{is_filter}
use Rattle.lf_semantics.specs.Parts.{is_scalar_part}
use Rattle.lf_built.specs.declared.spots.Spot.{Spot}
use Rattle.lf_built.specs.views.Indexed.{env_of, trees_of, universe_of}
use Rattle.lf_built.specs.views.Spots.{IsPartSpot, tree_at}
use Rattle.lf_built.specs.views.Tasks.{binary_wanted, nameless_if, one_wanted}
use Rattle.lf_built.specs.views.Works.{AreParts}
use Rattle.lf_built.proofs.prepared.Prepared.sides.Goals as goal

pub returns-in-true-false : goal.returns-in-true-false
returns-in-true-false c l r D parts stands =
    let rules = trees_of c.args.self.now in
    let e = tree_at c.args.spot.now in
    let left = subst (λ (ps : List Tree). IsPartSpot rules (slice_get ps 0) (Some c.unwrap-left.result)) parts (subst (λ (s : Option Spot). IsPartSpot rules (slice_get (parts_of e) 0) s) c.unwrap-left.ensures c.part.ensures) in
    let right = subst (λ (ps : List Tree). IsPartSpot rules (slice_get ps 1) (Some c.unwrap-right.result)) parts (subst (λ (s : Option Spot). IsPartSpot rules (slice_get (parts_of e) 1) s) c.unwrap-right.ensures c.part-2.ensures) in
    let a : true ≡ is_scalar_part l = c.in-true-false.ensures ∙ ap is_scalar_part left.1 in
    let b : false ≡ is_scalar_part r = c.in-true-false.ensures' ∙ ap is_scalar_part right.1 in
    subst (λ (x : Bool). AreParts c.args.self.now (tree_at c.args.spot.now) (binary_wanted (universe_of c.args.self.now) (env_of c.args.self.now) c.args.op c.args.matching.now x (is_scalar_part r) l r D) c.beside_scalar.result) a
    (subst (λ (y : Bool). AreParts c.args.self.now (tree_at c.args.spot.now) (binary_wanted (universe_of c.args.self.now) (env_of c.args.self.now) c.args.op c.args.matching.now true y l r D) c.beside_scalar.result) b
    (subst (λ (ps : List Tree). AreParts c.args.self.now (tree_at c.args.spot.now) (one_wanted (nameless_if (not (is_filter c.args.op c.args.matching.now)) D) (slice_get ps 1)) c.beside_scalar.result) parts (c.beside_scalar.ensures D stands)))

pub returns-in-false-true : goal.returns-in-false-true
returns-in-false-true c l r D parts stands =
    let rules = trees_of c.args.self.now in
    let e = tree_at c.args.spot.now in
    let left = subst (λ (ps : List Tree). IsPartSpot rules (slice_get ps 0) (Some c.unwrap-left.result)) parts (subst (λ (s : Option Spot). IsPartSpot rules (slice_get (parts_of e) 0) s) c.unwrap-left.ensures c.part.ensures) in
    let right = subst (λ (ps : List Tree). IsPartSpot rules (slice_get ps 1) (Some c.unwrap-right.result)) parts (subst (λ (s : Option Spot). IsPartSpot rules (slice_get (parts_of e) 1) s) c.unwrap-right.ensures c.part-2.ensures) in
    let a : false ≡ is_scalar_part l = c.in-false-true.ensures ∙ ap is_scalar_part left.1 in
    let b : true ≡ is_scalar_part r = c.in-false-true.ensures' ∙ ap is_scalar_part right.1 in
    subst (λ (x : Bool). AreParts c.args.self.now (tree_at c.args.spot.now) (binary_wanted (universe_of c.args.self.now) (env_of c.args.self.now) c.args.op c.args.matching.now x (is_scalar_part r) l r D) c.beside_scalar-in-false-true.result) a
    (subst (λ (y : Bool). AreParts c.args.self.now (tree_at c.args.spot.now) (binary_wanted (universe_of c.args.self.now) (env_of c.args.self.now) c.args.op c.args.matching.now false y l r D) c.beside_scalar-in-false-true.result) b
    (subst (λ (ps : List Tree). AreParts c.args.self.now (tree_at c.args.spot.now) (one_wanted (nameless_if (not (is_filter c.args.op c.args.matching.now)) D) (slice_get ps 0)) c.beside_scalar-in-false-true.result) parts (c.beside_scalar-in-false-true.ensures D stands)))
