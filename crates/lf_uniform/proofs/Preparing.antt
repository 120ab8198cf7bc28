-- The rules of a uniform world are rules.
use Rattle.std.proofs.Common.{◌<◌, ℕ, List, length, inl, inr, arith}
use Rattle.std.specs.List.{Contains}
use Rattle.std.proofs.lemmas.Option.{slice_get_within}
use Rattle.lf_ast.specs.Rules.{RuleTree}
use Rattle.lf_ast.specs.Tree.{Tree}
use Rattle.lf_trials.specs.Reached.{IsReach, with_reach}
use Rattle.lf_uniform.proofs.WithReach.{of_with_reach}

pub reach_within : (rules : List RuleTree) (e : Tree) (reach : List ℕ) → IsReach rules e reach → (k : ℕ) → Contains reach k → k < length rules
reach_within rules e reach is k there = let r = (is.members k).0 there in slice_get_within rules k r.0 r.1

pub all_within : (rules : List RuleTree) (e : Tree) (reach : List ℕ) (i : ℕ) → IsReach rules e reach → i < length rules → (k : ℕ) → Contains (with_reach i reach) k → k < length rules
all_within rules e reach i is small k there = elim (of_with_reach i reach k there) [ inl own ↦ omega (arith, own, small) | inr reached ↦ reach_within rules e reach is k reached ]
