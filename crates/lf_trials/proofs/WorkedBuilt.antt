-- Built worlds of worked rules, by computation.
use Rattle.std.proofs.Common.{◌≡◌, Bool, true, false, List, [], ◌∷◌, map, Some, None, codes, refl}
use Rattle.std.specs.Fmt.{digits}
use Rattle.lf_ast.specs.Labels.{Bytes, Labels}
use Rattle.lf_ast.specs.Rules.{RuleTree}
use Rattle.lf_ast.specs.Selectors.{metric}
use Rattle.lf_ast.specs.Tree.{Tree}
use Rattle.lf_ast.specs.declared.expr.Group.TheVariants.{One, Left, Right}
use Rattle.lf_ast.specs.declared.expr.MatchOp.TheVariants.{Equal, NotEqual}
use Rattle.lf_ast.specs.declared.expr.Op.TheVariants.{Multiply, Or}
use Rattle.lf_semantics.specs.ClassRows.{Sets}
use Rattle.lf_semantics.specs.Environments.{recorded_row}
use Rattle.lf_semantics.specs.Evaluation.{bare}
use Rattle.lf_semantics.specs.Listing.{Listing, universe_of}
use Rattle.lf_semantics.specs.RowTable.{Environment}
use Rattle.lf_semantics.specs.Texts.{with_label}
use Rattle.lf_semantics.proofs.Written.{asks, between, matching, number, record_rule, selector, sum_by}
use Rattle.lf_trials.specs.Candidates.{other_name}
use Rattle.lf_trials.specs.Built.{building_of}
use Rattle.lf_trials.specs.Forks.{has_own_fork}

-- a label set by its pairs
abbrev pub labelled : List (Bytes × Bytes) → Labels
labelled [] = bare
labelled (pair ∷ pairs) = with_label pair.0 pair.1 (labelled pairs)

abbrev job : Bytes
job = codes "job"

-- `job:foo:sum` is `sum by (job) (foo{env="p"})`
abbrev pub sum : RuleTree
sum = record_rule (codes "job:foo:sum") [] (sum_by (job ∷ []) (selector (codes "foo") (asks (codes "env") Equal (codes "p") ∷ [])))

abbrev pub sum_u : Listing
sum_u = record { names = metric ∷ job ∷ codes "env" ∷ []; named = (codes "foo" ∷ codes "job:foo:sum" ∷ []) ∷ [] ∷ (codes "p" ∷ []) ∷ [] ∷ [] }

sum_universe : universe_of (sum ∷ []) ≡ sum_u
sum_universe = refl

pub sum_with_job : building_of sum_u [] (sum ∷ []) (has_own_fork (sum ∷ [])) 0 sum job true
    ≡ Some (record { series = labelled ((metric, codes "foo") ∷ (job, codes "v1") ∷ (codes "env", codes "p") ∷ []) ∷ []; steps = []; selectors = 1 })
unfolding digits
sum_with_job = refl

pub sum_without_job : building_of sum_u [] (sum ∷ []) (has_own_fork (sum ∷ [])) 0 sum job false
    ≡ Some (record { series = labelled ((metric, codes "foo") ∷ (codes "env", codes "p") ∷ []) ∷ []; steps = []; selectors = 1 })
unfolding digits
sum_without_job = refl

-- `r:r` is `a * on (instance) group_left (version) b{version!=""}`
abbrev pub joined : RuleTree
joined = record_rule (codes "r:r") [] (between Multiply (matching false (Some (codes "instance" ∷ [])) None Left (codes "version" ∷ [])) (selector (codes "a") []) (selector (codes "b") (asks (codes "version") NotEqual [] ∷ [])))

abbrev pub joined_u : Listing
joined_u = record { names = metric ∷ codes "instance" ∷ codes "version" ∷ []; named = (codes "a" ∷ codes "b" ∷ codes "r:r" ∷ []) ∷ [] ∷ [] ∷ [] ∷ [] }

joined_universe : universe_of (joined ∷ []) ≡ joined_u
joined_universe = refl

pub joined_with_instance : building_of joined_u [] (joined ∷ []) (has_own_fork (joined ∷ [])) 0 joined (codes "instance") true
    ≡ Some (record { series = labelled ((metric, codes "a") ∷ (codes "instance", codes "v1") ∷ []) ∷ labelled ((metric, codes "b") ∷ (codes "instance", codes "v1") ∷ (codes "version", codes "v1") ∷ []) ∷ []; steps = []; selectors = 2 })
unfolding digits
joined_with_instance = refl

-- `a:one` is `sum by (job, env) (x)`, `a:two` is `a:one` without `env`, and `a:three` is `sum by (job, env) (a:two)`
abbrev sum_of : Bytes → Tree
sum_of name = sum_by (job ∷ codes "env" ∷ []) (selector name [])

abbrev pub three : RuleTree
three = record_rule (codes "a:three") [] (sum_of (codes "a:two"))

abbrev pub chain : List RuleTree
chain = record_rule (codes "a:one") [] (sum_of (codes "x")) ∷ record_rule (codes "a:two") ((codes "env", []) ∷ []) (selector (codes "a:one") []) ∷ three ∷ []

abbrev pub chain_u : Listing
chain_u = record { names = metric ∷ job ∷ codes "env" ∷ []; named = (codes "x" ∷ codes "a:one" ∷ codes "a:two" ∷ codes "a:three" ∷ []) ∷ [] ∷ [] ∷ [] ∷ [] }

chain_universe : universe_of chain ≡ chain_u
chain_universe = refl

-- of the name the empty text, the four names, and any other
abbrev chain_row : List Bool → List Bool → Sets
chain_row name env = name ∷ (true ∷ true ∷ []) ∷ env ∷ (true ∷ false ∷ []) ∷ []

abbrev pub chain_env : Environment
chain_env =
    (codes "a:one", chain_row (false ∷ false ∷ true ∷ false ∷ false ∷ false ∷ []) (true ∷ true ∷ []))
    ∷ (codes "a:two", chain_row (false ∷ false ∷ false ∷ true ∷ false ∷ false ∷ []) (true ∷ false ∷ []))
    ∷ (codes "a:three", chain_row (false ∷ false ∷ false ∷ false ∷ true ∷ false ∷ []) (true ∷ false ∷ []))
    ∷ []

chain_records : map (recorded_row chain_u chain_env) chain ≡ map (λ entry. entry.1) chain_env
chain_records = refl

pub chain_with_job : building_of chain_u chain_env chain (has_own_fork chain) 2 three job true
    ≡ Some (record { series = labelled ((metric, codes "x") ∷ (job, codes "v1") ∷ []) ∷ []; steps = 0 ∷ 1 ∷ []; selectors = 3 })
unfolding digits
chain_with_job = refl

-- `a:t` is `sum by (job) (a:t)`, and also `sum by (job, env) (x)`
abbrev pub itself : RuleTree
itself = record_rule (codes "a:t") [] (sum_by (job ∷ []) (selector (codes "a:t") []))

abbrev pub twice : List RuleTree
twice = itself ∷ record_rule (codes "a:t") [] (sum_of (codes "x")) ∷ []

abbrev pub twice_u : Listing
twice_u = record { names = metric ∷ job ∷ codes "env" ∷ []; named = (codes "a:t" ∷ codes "x" ∷ []) ∷ [] ∷ [] ∷ [] ∷ [] }

twice_universe : universe_of twice ≡ twice_u
twice_universe = refl

abbrev pub twice_env : Environment
twice_env = (codes "a:t", (false ∷ true ∷ false ∷ false ∷ []) ∷ (true ∷ true ∷ []) ∷ (true ∷ true ∷ []) ∷ (true ∷ false ∷ []) ∷ []) ∷ []

pub twice_with_job : building_of twice_u twice_env twice (has_own_fork twice) 0 itself job true
    ≡ Some (record { series = labelled ((metric, codes "x") ∷ (job, codes "v1") ∷ []) ∷ []; steps = 1 ∷ []; selectors = 2 })
unfolding digits
twice_with_job = refl

-- `a:s` is `1`, and `b:t` is `a:s * on () group_right foo`
abbrev pub one : RuleTree
one = record_rule (codes "a:s") [] number

abbrev pub scaled : RuleTree
scaled = record_rule (codes "b:t") [] (between Multiply (matching false (Some []) None Right []) (selector (codes "a:s") []) (selector (codes "foo") []))

abbrev pub scaled_u : Listing
scaled_u = record { names = metric ∷ []; named = (codes "a:s" ∷ codes "foo" ∷ codes "b:t" ∷ []) ∷ [] ∷ [] }

scaled_universe : universe_of (one ∷ scaled ∷ []) ≡ scaled_u
scaled_universe = refl

-- of the name the empty text, the three names, and any other
abbrev pub scaled_env : Environment
scaled_env = (codes "a:s", (false ∷ true ∷ false ∷ false ∷ false ∷ []) ∷ (true ∷ false ∷ []) ∷ []) ∷ (codes "b:t", (false ∷ false ∷ false ∷ true ∷ false ∷ []) ∷ (true ∷ true ∷ []) ∷ []) ∷ []

scaled_records_one : recorded_row scaled_u scaled_env one ≡ (false ∷ true ∷ false ∷ false ∷ false ∷ []) ∷ (true ∷ false ∷ []) ∷ []
scaled_records_one = refl

scaled_records : recorded_row scaled_u scaled_env scaled ≡ (false ∷ false ∷ false ∷ true ∷ false ∷ []) ∷ (true ∷ true ∷ []) ∷ []
scaled_records = refl

pub scaled_with_other : building_of scaled_u scaled_env (one ∷ scaled ∷ []) (has_own_fork (one ∷ scaled ∷ [])) 1 scaled (other_name scaled_u) true
    ≡ Some (record { series = labelled ((metric, codes "foo") ∷ (codes "x1", codes "v1") ∷ []) ∷ []; steps = 0 ∷ []; selectors = 2 })
unfolding digits
scaled_with_other = refl

-- `r:r` is `sum by (job) (x or y{job="a"})`
abbrev pub either : RuleTree
either = record_rule (codes "r:r") [] (sum_by (job ∷ []) (between Or (matching false None None One []) (selector (codes "x") []) (selector (codes "y") (asks job Equal (codes "a") ∷ []))))

abbrev pub either_u : Listing
either_u = record { names = metric ∷ job ∷ []; named = (codes "x" ∷ codes "y" ∷ codes "r:r" ∷ []) ∷ (codes "a" ∷ []) ∷ [] ∷ [] }

either_universe : universe_of (either ∷ []) ≡ either_u
either_universe = refl

pub either_with_job : building_of either_u [] (either ∷ []) (has_own_fork (either ∷ [])) 0 either job true
    ≡ Some (record { series = labelled ((metric, codes "x") ∷ (job, codes "a") ∷ []) ∷ []; steps = []; selectors = 1 })
unfolding digits
either_with_job = refl
