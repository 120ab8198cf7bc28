-- The rules with some numbers, taken apart.
use Rattle.std.proofs.Common.{◌≡◌, ℕ, List, ◌++◌, Option, Some, None, ap, option_to_list, slice_get}
use Rattle.std.specs.List.{Contains}
use Rattle.std.proofs.lemmas.Grind.{flat_map-append}
use Rattle.lf_laws.proofs.Members.{none_in, of_flat_map, only_one}
use Rattle.lf_laws.proofs.Slices.{member_at}
use Rattle.lf_ast.specs.Rules.{RuleTree}
use Rattle.lf_witness.specs.StrictRuns.{rules_at}

pub of_listed : {X : Type 0} (o : Option X) (x : X) → Contains (option_to_list o) x → o ≡ Some x
of_listed None x there = absurd (none_in x there)
of_listed (Some y) x there = ap Some (only_one y x there)

module _ (rules : List RuleTree) where
  pub rules_both : (numbers more : List ℕ) → rules_at rules (numbers ++ more) ≡ rules_at rules numbers ++ rules_at rules more
  rules_both numbers more = flat_map-append (λ k. option_to_list (slice_get rules k)) numbers more

  -- they are of the rules
  pub rules_among : (numbers : List ℕ) (r : RuleTree) → Contains (rules_at rules numbers) r → Contains rules r
  rules_among numbers r there =
      let from = of_flat_map (λ k. option_to_list (slice_get rules k)) numbers r there in
      member_at rules from.0 r (of_listed (slice_get rules from.0) r from.2)
