-- Uniform worlds of worked rules, by computation.
use Rattle.std.proofs.Common.{◌≡◌, true, false, length, [], ◌∷◌, Option, Some, None, codes, refl}
use Rattle.std.specs.Fmt.{digits}
use Rattle.lf_ast.specs.Functions.{function_named, functions}
use Rattle.lf_ast.specs.Labels.{Bytes}
use Rattle.lf_ast.specs.Rules.{RuleTree}
use Rattle.lf_ast.specs.Selectors.{metric}
use Rattle.lf_ast.specs.Tree.{Tree}
use Rattle.lf_ast.specs.declared.expr.Group.TheVariants.{One}
use Rattle.lf_ast.specs.declared.expr.MatchOp.TheVariants.{Equal}
use Rattle.lf_ast.specs.declared.expr.Op.TheVariants.{Add, Or, Unless}
use Rattle.lf_semantics.specs.Listing.{Listing, universe_of}
use Rattle.lf_semantics.proofs.Written.{asks, between, call, matching, number, record_rule, selector, selects, sight, sum_by, unmodified}
use Rattle.lf_trials.specs.Candidates.{other_name}
use Rattle.lf_trials.specs.Follow.{follow_from}
use Rattle.lf_trials.specs.Reached.{with_reach}
use Rattle.lf_trials.specs.Selected.{selected_by}
use Rattle.lf_trials.specs.Uniform.{has_texts, passes_over, uniform_series, uniform_texts}
use Rattle.lf_trials.proofs.WorkedBuilt.{chain, chain_u, joined, joined_u, labelled, three}

abbrev job : Bytes
job = codes "job"

-- `r:r` is `x{env="p"} + ignoring (env) x`. Its built world has `x` with and without `env`, so that the right side has two samples of equal signature. The uniform one has
-- `x` with `env` alone
abbrev pub shifted : RuleTree
shifted = record_rule (codes "r:r") [] (between Add (matching false None (Some (codes "env" ∷ [])) One []) (selector (codes "x") (asks (codes "env") Equal (codes "p") ∷ [])) (selector (codes "x") []))

abbrev pub shifted_u : Listing
shifted_u = record { names = metric ∷ codes "env" ∷ []; named = (codes "x" ∷ codes "r:r" ∷ []) ∷ (codes "p" ∷ []) ∷ [] ∷ [] }

shifted_universe : universe_of (shifted ∷ []) ≡ shifted_u
shifted_universe = refl

shifted_texts : has_texts shifted_u (uniform_texts shifted_u (shifted ∷ []) 0 shifted (other_name shifted_u) true) ≡ true
unfolding digits
shifted_texts = refl

pub shifted_series : uniform_series shifted_u (shifted ∷ []) (selected_by (shifted ∷ []) (with_reach 0 [])) (uniform_texts shifted_u (shifted ∷ []) 0 shifted (other_name shifted_u) true)
    ≡ labelled ((metric, codes "x") ∷ (codes "env", codes "p") ∷ (codes "x1", codes "v1") ∷ []) ∷ []
unfolding digits
shifted_series = refl

-- `a * on (instance) group_left (version) b{version!=""}`: the version of `b` can't be the empty text, so that `a` has it too
pub joined_series : uniform_series joined_u (joined ∷ []) (selected_by (joined ∷ []) (with_reach 0 [])) (uniform_texts joined_u (joined ∷ []) 0 joined (codes "instance") true)
    ≡ labelled ((metric, codes "a") ∷ (codes "instance", codes "v1") ∷ (codes "version", codes "v1") ∷ []) ∷ labelled ((metric, codes "b") ∷ (codes "instance", codes "v1") ∷ (codes "version", codes "v1") ∷ []) ∷ []
unfolding digits
joined_series = refl

-- `a:three` reads `a:one` and `a:two`: two passes over two rules
pub chain_series : uniform_series chain_u chain (selected_by chain (with_reach 2 (0 ∷ 1 ∷ []))) (uniform_texts chain_u chain 2 three job true) ≡ labelled ((metric, codes "x") ∷ (job, codes "v1") ∷ []) ∷ []
unfolding digits
chain_series = refl

pub chain_steps : passes_over (0 ∷ 1 ∷ []) ≡ 0 ∷ 1 ∷ 0 ∷ 1 ∷ []
chain_steps = refl

-- nine rules are passed over eight times
eight_passes : length (passes_over (0 ∷ 1 ∷ 2 ∷ 3 ∷ 4 ∷ 5 ∷ 6 ∷ 7 ∷ 8 ∷ [])) ≡ 72
eight_passes = refl

-- To follow a label

abbrev followed : Tree → Bytes → Bytes → Option Bytes
followed e label text = follow_from (universe_of (record_rule (codes "r:r") [] e ∷ [])) (record_rule (codes "r:r") [] e ∷ []) label text 0 (record_rule (codes "r:r") [] e)

abbrev foo : Tree
foo = selector (codes "foo") (asks job Equal (codes "a") ∷ [])

abbrev bar : Tree
bar = selector (codes "bar") (asks job Equal (codes "b") ∷ [])

-- a matcher that fails
follow_fails : followed foo job (codes "b") ≡ None
follow_fails = refl

follow_passes : followed foo job (codes "a") ≡ Some (codes "a")
follow_passes = refl

-- the name is that of the selector, whatever the text
follow_name : followed foo metric (codes "zoo") ≡ Some (codes "foo")
follow_name = refl

-- without `=` on the name it is the name of the selector's series, here `v1`: no candidate of a text is left but `r:r`, which is recorded
follow_any_name : followed (selects None (asks job Equal (codes "a") ∷ []) (sight None None)) metric [] ≡ Some (codes "v1")
unfolding digits
follow_any_name = refl

-- sides that differ in the signature: not for a scraped label that has one text, but for a constant
follow_sum : followed (between Add unmodified (sum_by (job ∷ []) foo) (sum_by [] foo)) job (codes "a") ≡ None
follow_sum = refl

-- the right side of `unless` isn't looked at, and that of `or` where the left one fails
follow_unless : followed (between Unless unmodified foo bar) job (codes "a") ≡ Some (codes "a")
follow_unless = refl

follow_or : followed (between Or unmodified foo bar) job (codes "b") ≡ Some (codes "b")
follow_or = refl

follow_neither : followed (between Or unmodified foo bar) job (codes "c") ≡ None
follow_neither = refl

-- `absent` gives the text that it seeks, and its operand isn't looked at
follow_absent : followed (call (codes "absent") (foo ∷ [])) job (codes "b") ≡ Some (codes "a")
unfolding function_named functions
follow_absent = refl

-- `le` has to be `+Inf`, and is lost
follow_bucket : followed (call (codes "histogram_quantile") (number ∷ selector (codes "h") [] ∷ [])) (codes "le") (codes "+Inf") ≡ Some []
unfolding function_named functions
follow_bucket = refl

follow_other_bucket : followed (call (codes "histogram_quantile") (number ∷ selector (codes "h") [] ∷ [])) (codes "le") (codes "1") ≡ None
unfolding function_named functions
follow_other_bucket = refl
