-- Steps of rules and stretches of them, and runs over series.
use Rattle.std.proofs.Common.{◌≡◌, inl, inr, ◌+◌, ◌<◌, ◌++◌, ℕ, zero, suc, true, false, List, [], ◌∷◌, Option, Some, None, drop, get_or, length, take, append-nil, append_assoc, option_to_list, sym, ap, ◌∙◌, subst, arith}
use Rattle.std.specs.Prelude.{slice_get, IfSome}
use Rattle.std.proofs.lemmas.List.{take_more}
use Rattle.lf_ast.specs.Labels.{Labels}
use Rattle.lf_ast.specs.Rules.{RuleTree}
use Rattle.lf_semantics.specs.Parts.{is_evaluated, type_by_form}
use Rattle.lf_semantics.specs.Worlds.{AreScraped, World}
use Rattle.lf_witness.specs.Ascending.{IsAscending}
use Rattle.lf_witness.specs.Strict.{AreSame}
use Rattle.lf_witness.specs.StrictRuns.{IsRuleAnswer, IsRunAnswer, IsStrictRun, StrictlyStored, rules_at}
use Rattle.lf_witness.proofs.Answers.{stored_into}
use Rattle.lf_witness.proofs.RulesAt.{rules_among, rules_both}
use Rattle.lf_witness.proofs.SameSets.{turned}
use Rattle.lf_witness.proofs.StrictRunIsRun.{world_of}
use Rattle.lf_strict.specs.views.Running.{IsStep, IsStretch}

-- a rule

pub rule_none : (W : List Labels) (r : RuleTree) → is_evaluated (type_by_form r.expr) ≡ false → IsRuleAnswer W r None
rule_none W r e = inl (e, tt)

-- stretches

pub no_step : (W : List Labels) → IsStretch W [] W true
no_step W later o is = is

pub step_more : (W V U : List Labels) (rules : List RuleTree) (r : RuleTree) → IsStretch W rules V true → IsStep V r U true → IsStretch W (rules ++ r ∷ []) U true
step_more W V U rules r before (A, adds, same) later o is =
    subst (λ (l : List RuleTree). StrictlyStored W l o) (sym (append_assoc rules (r ∷ []) later)) (before (r ∷ later) o (inr (A, adds, stored_into later U (V ++ A) (turned (V ++ A) U same) o is)))

pub step_none : (W V U : List Labels) (rules later : List RuleTree) (r : RuleTree) → IsStretch W rules V true → IsStep V r U false → StrictlyStored W (rules ++ r ∷ later) None
step_none W V U rules later r before none = before (r ∷ later) None (inl (none, tt))

-- the rules of the steps

module _ (rules : List RuleTree) where
  pub rules_at_push : (steps : List ℕ) (x : ℕ) (r : RuleTree) → slice_get rules x ≡ Some r → rules_at rules (steps ++ x ∷ []) ≡ rules_at rules steps ++ r ∷ []
  rules_at_push steps x r e = rules_both rules steps (x ∷ []) ∙ ap (λ (o : Option RuleTree). rules_at rules steps ++ (option_to_list o ++ [])) e

  pub rules_at_more : (steps : List ℕ) (k x : ℕ) (r : RuleTree) → k < length steps → x ≡ get_or steps k x → slice_get rules x ≡ Some r → rules_at rules (take (k + 1) steps) ≡ rules_at rules (take k steps) ++ r ∷ []
  rules_at_more steps k x r lt is e = ap (rules_at rules) (take_more steps k x lt ∙ ap (λ (y : ℕ). take k steps ++ y ∷ []) (sym is)) ∙ rules_at_push (take k steps) x r e

  pub rules_at_whole : (steps : List ℕ) (k x : ℕ) (r : RuleTree) → k < length steps → x ≡ get_or steps k x → slice_get rules x ≡ Some r → rules_at rules (take k steps) ++ r ∷ rules_at rules (drop (suc k) steps) ≡ rules_at rules steps
  rules_at_whole [] k x r lt is e = absurd (omega (arith, lt))
  rules_at_whole (y ∷ steps) zero x r lt is e = ap (λ (o : Option RuleTree). option_to_list o ++ rules_at rules steps) (sym e ∙ ap (slice_get rules) is)
  rules_at_whole (y ∷ steps) (suc k) x r lt is e =
      append_assoc (option_to_list (slice_get rules y)) (rules_at rules (take k steps)) (r ∷ rules_at rules (drop (suc k) steps))
      ∙ ap (λ (l : List RuleTree). option_to_list (slice_get rules y) ++ l) (rules_at_whole steps k x r (omega (arith, lt)) is e)

  -- a run that isn't None is a world's
  pub world_run : (series : List Labels) (steps : List ℕ) → AreScraped rules series → (o : Option (List Labels)) → IsRunAnswer series (rules_at rules steps) o
      → IfSome o (λ V. (world : World rules) × (world.series ≡ series) × IsStrictRun series (rules_at rules steps) V world.steps)
  world_run series steps scraped None is = tt
  world_run series steps scraped (Some V) is = world_of rules series scraped (rules_at rules steps) (rules_among rules steps) V is.0

-- the whole run

pub run_answer : (series W V : List Labels) (rules : List RuleTree) (R : List Labels) → AreSame series W → IsStretch W rules V true → AreSame V R → IsAscending R → IsRunAnswer series rules (Some R)
run_answer series W V rules R same ran stored ascends =
    (stored_into rules W series (turned series W same) (Some R) (subst (λ (l : List RuleTree). StrictlyStored W l (Some R)) (append-nil rules) (ran [] (Some R) stored)), ascends)

pub run_none : (series W V : List Labels) (rules : List RuleTree) → AreSame series W → IsStretch W rules V false → IsRunAnswer series rules None
run_none series W V rules same none = stored_into rules W series (turned series W same) None none
