-- What an expression strictly gives behind a run.
use Rattle.std.proofs.Common.{◌≡◌, inl, inr, ℕ, Bool, true, false, List, Option, None, refl, subst}
use Rattle.lf_ast.specs.Labels.{Labels}
use Rattle.lf_ast.specs.Rules.{RuleTree, rule_trees}
use Rattle.lf_ast.specs.Tree.{Tree}
use Rattle.lf_ast.specs.declared.rule.Rule.{Rule}
use Rattle.lf_witness.specs.Strict.{AreSame}
use Rattle.lf_witness.specs.StrictRuns.{IsStrictAnswer, rules_at}
use Rattle.lf_witness.proofs.AscendingLists.{in_order}
use Rattle.lf_strict.specs.Steps.{IsAnswerAfter}
use Rattle.lf_strict.specs.views.Running.{IsStretch}
use Rattle.lf_strict.proofs.Answered.{over_same}
use Rattle.lf_strict.proofs.Runs.{run_answer, run_none}

-- a stretch of the rules and steps that were lent, as it went
pub stretch : (W V : List Labels) (rules lent : List Rule) (steps places : List ℕ) (went is : Bool) → lent ≡ rules → places ≡ steps → went ≡ is → IsStretch W (rules_at (rule_trees lent) places) V went
    → IsStretch W (rules_at (rule_trees rules) steps) V is
stretch W V rules lent steps places went is a b e ran =
    subst (IsStretch W (rules_at (rule_trees rules) steps) V) e
    (subst (λ (l : List ℕ). IsStretch W (rules_at (rule_trees rules) l) V went) b (subst (λ (l : List Rule). IsStretch W (rules_at (rule_trees l) places) V went) a ran))

module _ (series W V : List Labels) (rules : List RuleTree) (e : Tree) (same : AreSame series W) where
  -- what is stored, listed in ascending order, is what the run stored
  pub answer_after : IsStretch W rules V true → (o : Option (List Labels)) → IsStrictAnswer V e o → IsAnswerAfter series rules e o
  answer_after ran o is =
      let listed = in_order V in
      inr (listed.0, run_answer series W V rules listed.0 same ran listed.1 listed.2, over_same V listed.0 listed.1 e o is)

  pub none_after : IsStretch W rules V false → IsAnswerAfter series rules e None
  none_after none = inl (run_none series W V rules same none, refl)
