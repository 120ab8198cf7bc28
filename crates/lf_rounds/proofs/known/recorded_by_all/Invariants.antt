use Rattle.std.specs.Prelude.{◌≡◌, ◌<◌, ℕ, false, Some, length, slice_get, slice_index}
use Rattle.lf_ast.specs.Rules.{RuleTree, rule_trees}
use Rattle.lf_semantics.specs.Listing.{place}
use Rattle.lf_rounds.proofs.known.recorded_by_all.Given as goal

abbrev pub invariant-loop-k : goal.invariant-loop-k
invariant-loop-k l = record {
  count : length l.numbers ≡ l.k;
  each : (number : ℕ) (r : RuleTree) → number < l.k → slice_get (rule_trees l.rules) number ≡ Some r → r.alert ≡ false → slice_index l.numbers number ≡ place l.recorded r.name;
}
