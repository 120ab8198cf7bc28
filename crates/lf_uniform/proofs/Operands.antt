-- What is told of the operand of a call is what the definition follows.
use Rattle.std.proofs.Common.{◌≡◌, ℕ, zero, suc, List, map, take, drop, Option, None, Some, refl, ap}
use Rattle.lf_ast.specs.Functions.{Signature}
use Rattle.lf_ast.specs.Labels.{Bytes}
use Rattle.lf_ast.specs.Rules.{RuleTree}
use Rattle.lf_ast.specs.Tree.{Trees, Nil, Next, list}
use Rattle.lf_ast.specs.declared.expr.Grouping.{Grouping}
use Rattle.lf_ast.specs.views.Walks.{chosen}
use Rattle.lf_semantics.specs.Listing.{Listing}
use Rattle.lf_semantics.specs.Parts.{operand_place}
use Rattle.lf_trials.specs.Follow.{Followed, follow_argument, follow_call, follow_effect}
use Rattle.lf_uniform.specs.declared.told.FollowedText.{FollowedText}
use Rattle.lf_uniform.specs.views.Following.{followed_call, operand_of, told_of}
use Rattle.lf_nodes.specs.views.Needed.{operand_part}

module _ (u : Listing) (rules : List RuleTree) (label given : Bytes) (known : Bytes → Followed) where
  operand_is : (args : Trees) (k : ℕ) → operand_of (map (told_of u rules label given known) (take 1 (drop k (list args)))) ≡ follow_argument u rules label given known args k
  operand_is Nil zero = refl
  operand_is Nil (suc k) = refl
  operand_is (Next x xs) zero = refl
  operand_is (Next x xs) (suc k) = operand_is xs k

  -- what is told of the arguments that are looked at
  abbrev pub of_call : Option Signature → Trees → List FollowedText
  of_call o args = map (told_of u rules label given known) (chosen (operand_part o) (list args))

  pub call_is : (o : Option Signature) (grouping : Grouping) (args : Trees) → followed_call label o grouping args (operand_of (of_call o args)) ≡ follow_call label o grouping args (follow_argument u rules label given known args)
  call_is None grouping args = refl
  call_is (Some s) grouping args = ap (follow_effect label s.labels grouping args) (operand_is args (operand_place s))
