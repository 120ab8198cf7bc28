-- A building as it begins and as it ends: how contracts see the code. It defines nothing.
use Rattle.std.specs.Prelude.{◌≡◌, ◌≤◌, ◌∷◌, [], ℕ, length, Option, Some, None}
use Rattle.lf_ast.specs.Rules.{RuleTree}
use Rattle.lf_trials.specs.Building.{Building}
use Rattle.lf_trials.specs.Built.{build, build_by_rule, builder, built_trial}
use Rattle.lf_trials.specs.Given.{Given}
use Rattle.lf_trials.specs.Reached.{Trial}
use Rattle.lf_built.specs.declared.prepared.Prepared.{Prepared}
use Rattle.lf_built.specs.views.Indexed.{env_of, forks_of, trees_of, universe_of}
use Rattle.lf_built.specs.views.Works.{NoWorld}

-- what is built for a rule of this number from texts
abbrev pub begun_of : Prepared → ℕ → RuleTree → Given → Option Building
begun_of p i r D =
    build (universe_of p) (env_of p) (trees_of p) (forks_of p) r.expr
    (builder (universe_of p) (env_of p) (trees_of p) (forks_of p) (build_by_rule (universe_of p) (env_of p) (trees_of p) (forks_of p) (length (trees_of p)) (i ∷ [])) r.expr) D

-- the trial of what was built, or there is no world of so few selectors
abbrev pub IsTrialOf : ℕ → Option Building → Option Trial → Type 0
IsTrialOf most whole (Some trial) = (b : Building) × (whole ≡ Some b) × (b.selectors ≤ most) × (trial ≡ built_trial b)
IsTrialOf most whole None = NoWorld most whole
