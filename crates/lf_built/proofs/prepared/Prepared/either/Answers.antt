use Rattle.std.proofs.Common.{Bool, cond, List, [], ◌∷◌, Some, sym, ◌∙◌, ap, subst}
use Rattle.std.specs.Prelude.{slice_get}
use Rattle.lf_ast.specs.Tree.{Tree}
use Rattle.lf_semantics.specs.ClassRows.{Sets}
use Rattle.lf_trials.specs.Given.{holds_texts}
use Rattle.lf_built.specs.views.Indexed.{universe_of}
use Rattle.lf_built.specs.views.Spots.{tree_at}
use Rattle.lf_built.specs.views.Tasks.{one_wanted, want}
use Rattle.lf_built.specs.views.Works.{AreParts}
use Rattle.lf_built.proofs.StandingParts.{shape_of}
use Rattle.lf_built.proofs.prepared.Prepared.either.Goals as goal

pub is_held_by-requires-clause-shape : goal.is_held_by-requires-clause-shape
is_held_by-requires-clause-shape c = shape_of c.args.self.now c.requires.known (tree_at c.args.left.now) c.in_ok-row.row c.in_ok-row.ensures

pub returns-then-is_held_by : goal.returns-then-is_held_by
returns-then-is_held_by c right D parts stands =
    let held = sym (c.is_held_by.ensures D stands ∙ ap (λ (row : Sets). holds_texts (universe_of c.args.self.now) row D) c.in_ok-row.ensures) ∙ c.if-is_held_by.true in
    subst (λ (b : Bool). AreParts c.args.self.now (tree_at c.args.spot.now) (Some (want (cond b (tree_at c.args.left.now) right) D ∷ [])) c.one.result) (sym held)
    (subst (λ (ps : List Tree). AreParts c.args.self.now (tree_at c.args.spot.now) (one_wanted D (slice_get ps 0)) c.one.result) parts (c.one.ensures D stands))

pub returns : goal.returns
returns c right D parts stands =
    let held = sym (c.is_held_by.ensures D stands ∙ ap (λ (row : Sets). holds_texts (universe_of c.args.self.now) row D) c.in_ok-row.ensures) ∙ c.if-is_held_by.false in
    subst (λ (b : Bool). AreParts c.args.self.now (tree_at c.args.spot.now) (Some (want (cond b (tree_at c.args.left.now) right) D ∷ [])) c.one-else-is_held_by.result) (sym held)
    (subst (λ (ps : List Tree). AreParts c.args.self.now (tree_at c.args.spot.now) (one_wanted D (slice_get ps 1)) c.one-else-is_held_by.result) parts (c.one-else-is_held_by.ensures D stands))
