-- Built worlds of a file of rules, by computation.
use Rattle.std.proofs.Common.{◌≡◌, Bool, true, false, ℕ, List, [], ◌∷◌, map, Option, Some, None, codes, refl}
use Rattle.std.specs.Fmt.{digits}
use Rattle.lf_ast.specs.Labels.{Bytes}
use Rattle.lf_ast.specs.Rules.{RuleTree}
use Rattle.lf_ast.specs.Selectors.{metric}
use Rattle.lf_ast.specs.declared.expr.Group.TheVariants.{Left}
use Rattle.lf_ast.specs.declared.expr.MatchOp.TheVariants.{Equal, NotEqual}
use Rattle.lf_ast.specs.declared.expr.Op.TheVariants.{Greater, Multiply, Or, Unless}
use Rattle.lf_semantics.specs.Environments.{recorded_row}
use Rattle.lf_semantics.specs.Listing.{Listing, universe_of}
use Rattle.lf_semantics.specs.RowTable.{Environment}
use Rattle.lf_semantics.proofs.Written.{asks, between, matching, number, paren, record_rule, selector, sum_by, unmodified}
use Rattle.lf_trials.specs.Building.{Building}
use Rattle.lf_trials.specs.Built.{building_of}
use Rattle.lf_trials.specs.Candidates.{other_name}
use Rattle.lf_trials.specs.Forks.{has_own_fork}
use Rattle.lf_trials.proofs.WorkedBuilt.{labelled}

abbrev job : Bytes
job = codes "job"

abbrev env_label : Bytes
env_label = codes "env"

abbrev version : Bytes
version = codes "version"

-- `a:x`: `sum by (job, env) (x)`
abbrev summed : RuleTree
summed = record_rule (codes "a:x") [] (sum_by (job ∷ env_label ∷ []) (selector (codes "x") []))

-- `a:y`: `a:x`, recorded without `env`
abbrev again : RuleTree
again = record_rule (codes "a:y") ((env_label, []) ∷ []) (selector (codes "a:x") [])

-- `a:z`: `a * on (instance) group_left (version) b{version!=""}`
abbrev versions : RuleTree
versions = record_rule (codes "a:z") [] (between Multiply (matching false (Some (codes "instance" ∷ [])) None Left (version ∷ [])) (selector (codes "a") []) (selector (codes "b") (asks version NotEqual [] ∷ [])))

-- `a:w`: `foo unless (foo > 5)`
abbrev small : RuleTree
small = record_rule (codes "a:w") [] (between Unless unmodified (selector (codes "foo") []) (paren (between Greater unmodified (selector (codes "foo") []) number)))

-- `a:v`: `foo{a="x",a="y"}`
abbrev never : RuleTree
never = record_rule (codes "a:v") [] (selector (codes "foo") (asks (codes "a") Equal (codes "x") ∷ asks (codes "a") Equal (codes "y") ∷ []))

-- `a:u`: `sum by (job) (a:x or y{job="a"})`
abbrev either : RuleTree
either = record_rule (codes "a:u") [] (sum_by (job ∷ []) (between Or unmodified (selector (codes "a:x") []) (selector (codes "y") (asks job Equal (codes "a") ∷ []))))

abbrev rules : List RuleTree
rules = summed ∷ again ∷ versions ∷ small ∷ never ∷ either ∷ []

abbrev u : Listing
u = record {
  names = metric ∷ job ∷ env_label ∷ codes "instance" ∷ version ∷ codes "a" ∷ [];
  named = (codes "x" ∷ codes "a:x" ∷ codes "a:y" ∷ codes "a" ∷ codes "b" ∷ codes "a:z" ∷ codes "foo" ∷ codes "a:w" ∷ codes "a:v" ∷ codes "y" ∷ codes "a:u" ∷ [])
      ∷ (codes "a" ∷ []) ∷ [] ∷ [] ∷ [] ∷ (codes "x" ∷ codes "y" ∷ []) ∷ [] ∷ [];
}

universe : universe_of rules ≡ u
universe = refl

-- the row of `a:x`, which alone is read
abbrev env : Environment
env = (codes "a:x", recorded_row u [] summed) ∷ []

abbrev shown : ℕ → RuleTree → Bytes → Bool → Option Building
shown i r label presence = building_of u env rules (has_own_fork rules) i r label presence

-- the series of a name and further pairs
abbrev built : List (List (Bytes × Bytes)) → List ℕ → ℕ → Option Building
built series steps selectors = Some (record { series = map labelled series; steps = steps; selectors = selectors })

x_job : shown 0 summed job true ≡ built (((metric, codes "x") ∷ (job, codes "a") ∷ []) ∷ []) [] 1
unfolding digits
x_job = refl

x_no_job : shown 0 summed job false ≡ built (((metric, codes "x") ∷ []) ∷ []) [] 1
x_no_job = refl

x_env : shown 0 summed env_label true ≡ built (((metric, codes "x") ∷ (env_label, codes "v1") ∷ []) ∷ []) [] 1
unfolding digits
x_env = refl

-- the label that the rule removes is on its expression's samples
y_job : shown 1 again job true ≡ built (((metric, codes "x") ∷ (job, codes "a") ∷ []) ∷ []) (0 ∷ []) 2
y_job = refl

y_env : shown 1 again env_label true ≡ built (((metric, codes "x") ∷ (env_label, codes "v1") ∷ []) ∷ []) (0 ∷ []) 2
unfolding digits
y_env = refl

y_no_env : shown 1 again env_label false ≡ built (((metric, codes "x") ∷ []) ∷ []) (0 ∷ []) 2
y_no_env = refl

-- of the many side the label in question, and of the one side the version, which can't be lacking
z_job : shown 2 versions job true ≡ built (((metric, codes "a") ∷ (job, codes "a") ∷ []) ∷ ((metric, codes "b") ∷ (version, codes "v1") ∷ []) ∷ []) [] 2
unfolding digits
z_job = refl

z_no_job : shown 2 versions job false ≡ built (((metric, codes "a") ∷ []) ∷ ((metric, codes "b") ∷ (version, codes "v1") ∷ []) ∷ []) [] 2
unfolding digits
z_no_job = refl

z_instance : shown 2 versions (codes "instance") true ≡ built (((metric, codes "a") ∷ (codes "instance", codes "v1") ∷ []) ∷ ((metric, codes "b") ∷ (codes "instance", codes "v1") ∷ (version, codes "v1") ∷ []) ∷ []) [] 2
unfolding digits
z_instance = refl

z_a : shown 2 versions (codes "a") true ≡ built (((metric, codes "a") ∷ (codes "a", codes "x") ∷ []) ∷ ((metric, codes "b") ∷ (version, codes "v1") ∷ []) ∷ []) [] 2
unfolding digits
z_a = refl

z_other : shown 2 versions (other_name u) true ≡ built (((metric, codes "a") ∷ (codes "x1", codes "v1") ∷ []) ∷ ((metric, codes "b") ∷ (version, codes "v1") ∷ []) ∷ []) [] 2
unfolding digits
z_other = refl

-- no sample has two texts of one label, so there is no world
never_a : shown 4 never (codes "a") true ≡ None
never_a = refl

-- the left side of `or`, as its row holds the job
u_job : shown 5 either job true ≡ built (((metric, codes "x") ∷ (job, codes "a") ∷ []) ∷ []) (0 ∷ []) 2
u_job = refl

u_no_job : shown 5 either job false ≡ built (((metric, codes "x") ∷ []) ∷ []) (0 ∷ []) 2
u_no_job = refl
