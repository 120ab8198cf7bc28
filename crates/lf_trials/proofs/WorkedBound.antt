-- A rule whose built world would build selectors too often, by computation: each of five sums adds the one before it to itself.
use Rattle.std.proofs.Common.{◌≡◌, true, false, Bool, List, [], ◌∷◌, map, Some, codes, option_map, refl}
use Rattle.std.specs.Fmt.{digits}
use Rattle.lf_ast.specs.Labels.{Bytes}
use Rattle.lf_ast.specs.Rules.{RuleTree}
use Rattle.lf_ast.specs.Selectors.{metric}
use Rattle.lf_ast.specs.declared.expr.Op.TheVariants.{Add}
use Rattle.lf_semantics.specs.ClassRows.{Sets}
use Rattle.lf_semantics.specs.Environments.{recorded_row}
use Rattle.lf_semantics.specs.Listing.{Listing, universe_of}
use Rattle.lf_semantics.specs.RowTable.{Environment}
use Rattle.lf_semantics.proofs.Written.{between, record_rule, selector, unmodified}
use Rattle.lf_trials.specs.Built.{building_of, selector_count}
use Rattle.lf_trials.specs.Candidates.{other_name}
use Rattle.lf_trials.specs.Forks.{has_own_fork}
use Rattle.lf_trials.specs.Reached.{with_reach}

-- a name as the sum of another and itself
abbrev doubles : Bytes → Bytes → RuleTree
doubles name of = record_rule name [] (between Add unmodified (selector of []) (selector of []))

abbrev last : RuleTree
last = doubles (codes "a:5") (codes "a:4")

abbrev rules : List RuleTree
rules = doubles (codes "a:1") (codes "x") ∷ doubles (codes "a:2") (codes "a:1") ∷ doubles (codes "a:3") (codes "a:2") ∷ doubles (codes "a:4") (codes "a:3") ∷ last ∷ []

abbrev u : Listing
u = record { names = metric ∷ []; named = (codes "x" ∷ codes "a:1" ∷ codes "a:2" ∷ codes "a:3" ∷ codes "a:4" ∷ codes "a:5" ∷ []) ∷ [] ∷ [] }

universe : universe_of rules ≡ u
universe = refl

-- of each recorded name: its name, and any other label
abbrev row : List Bool → Sets
row name = (false ∷ false ∷ name) ∷ (true ∷ true ∷ []) ∷ []

abbrev env : Environment
env =
    (codes "a:1", row (true ∷ false ∷ false ∷ false ∷ false ∷ false ∷ []))
    ∷ (codes "a:2", row (false ∷ true ∷ false ∷ false ∷ false ∷ false ∷ []))
    ∷ (codes "a:3", row (false ∷ false ∷ true ∷ false ∷ false ∷ false ∷ []))
    ∷ (codes "a:4", row (false ∷ false ∷ false ∷ true ∷ false ∷ false ∷ []))
    ∷ (codes "a:5", row (false ∷ false ∷ false ∷ false ∷ true ∷ false ∷ []))
    ∷ []

records : map (recorded_row u env) rules ≡ map (λ entry. entry.1) env
records = refl

-- the fourth builds 30 selectors where 8 stand, and the fifth 62 where 10 stand, which is more than four times as many
fourth : option_map (λ b. b.selectors) (building_of u env rules (has_own_fork rules) 3 (doubles (codes "a:4") (codes "a:3")) (other_name u) false) ≡ Some 30
unfolding digits
fourth = refl

fourth_stand : selector_count rules (with_reach 3 (0 ∷ 1 ∷ 2 ∷ [])) ≡ 8
fourth_stand = refl

pub fifth : option_map (λ b. b.selectors) (building_of u env rules (has_own_fork rules) 4 last (other_name u) false) ≡ Some 62
unfolding digits
fifth = refl

pub fifth_stand : selector_count rules (with_reach 4 (0 ∷ 1 ∷ 2 ∷ 3 ∷ [])) ≡ 10
fifth_stand = refl
