-- A building as it begins.
use Rattle.std.proofs.Common.{◌≡◌, ℕ, List, [], ◌∷◌, length, reverse, Option, Some, sym, ◌∙◌, ap, subst}
use Rattle.lf_ast.specs.Rules.{RuleTree}
use Rattle.lf_trials.specs.Building.{Building, and_then}
use Rattle.lf_trials.specs.Given.{Given}
use Rattle.lf_candidates.specs.views.ClassTexts.{Stands}
use Rattle.lf_built.specs.declared.prepared.Prepared.{Prepared}
use Rattle.lf_built.specs.declared.spots.Spot.{Spot}
use Rattle.lf_built.specs.declared.work.Pending.{Pending}
use Rattle.lf_built.specs.declared.work.Pending.TheVariants as T
use Rattle.lf_built.specs.declared.work.Work.{Work}
use Rattle.lf_built.specs.views.Begun.{begun_of}
use Rattle.lf_built.specs.views.Indexed.{env_of, forks_of, trees_of, universe_of}
use Rattle.lf_built.specs.views.Spots.{IsSpot, tree_at}
use Rattle.lf_built.specs.views.Tasks.{Task, Visit, outcome, want}
use Rattle.lf_built.specs.views.Works.{AreTasks, Builds, marks_of, so_far}
use Rattle.lf_built.proofs.Tasks.{and_nothing, nothing_and}

pub begun : (p : Prepared) (i : ℕ) (r : RuleTree) (D : Given) (spot : Spot) (texts : List (Option ℕ)) (w : Work) → w.stack.items ≡ T.Visit spot texts ∷ [] → IsSpot (trees_of p) spot → tree_at spot ≡ r.expr → Stands (universe_of p) texts D
    → w.marked ≡ i ∷ [] → w.unmarked ≡ length (trees_of p) → so_far w.made ≡ record { series = []; steps = []; selectors = 0 } → Builds p (begun_of p i r D) w
begun p i r D spot texts w stack is_spot is_expr stands marked unmarked made =
    let tasks : List Task = Visit (want r.expr D) ∷ [] in
    let left : ℕ → List ℕ → Option Building = λ n m. outcome (universe_of p) (env_of p) (trees_of p) (forks_of p) n m tasks in
    record {
      tasks = tasks;
      are = subst (λ (s : List Pending). AreTasks p s tasks) (sym (ap reverse stack)) (is_spot, is_expr, stands, tt);
      rest =
          sym (and_nothing (begun_of p i r D))
          ∙ ap (λ n. left n (i ∷ [])) (sym unmarked)
          ∙ ap (λ (m : List ℕ). left w.unmarked m) (sym (ap reverse marked))
          ∙ sym (nothing_and (left w.unmarked (marks_of w)))
          ∙ ap (λ (b : Building). and_then (Some b) (left w.unmarked (marks_of w))) (sym made);
    }
