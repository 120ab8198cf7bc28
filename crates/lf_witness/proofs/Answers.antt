-- An expression, a rule and a run have one answer: a list in ascending order, or None.
use Rattle.std.proofs.Common.{◌≡◌, inl, inr, true, false, List, [], ◌∷◌, ◌++◌, Option, Some, None, refl, sym, ap, ◌∙◌, subst, true≢false, Bool}
use Rattle.std.specs.List.{Contains}
use Rattle.lf_laws.proofs.Members.{none_in}
use Rattle.lf_ast.specs.Labels.{Labels}
use Rattle.lf_ast.specs.Rules.{RuleTree}
use Rattle.lf_ast.specs.Tree.{Tree}
use Rattle.lf_semantics.specs.Parts.{is_evaluated, type_by_form}
use Rattle.lf_semantics.specs.Worlds.{stored}
use Rattle.lf_witness.specs.Strict.{AreSame, HasOneOutcome, IsSameOutcome, Outcomes, StrictlyEvaluates, HasOutcome}
use Rattle.lf_witness.specs.StrictRuns.{InOrder, IsRuleAnswer, IsRunAnswer, IsStored, IsStrictAnswer, RuleStrictlyGives, StepAdds, StoredOf, StrictlyStored}
use Rattle.lf_witness.proofs.OneOutcome.{Respects, both_none, apart_respects, from_one, one_outcome, set_respects}
use Rattle.lf_witness.proofs.SameSets.{chained, same_behind, same_front, same_itself, turned}
use Rattle.lf_witness.proofs.SameSamples.{Into, from_into, rule_into}
use Rattle.lf_witness.proofs.SameResults.{TakesSame, evaluates_same, rule_same, run_same}
use Rattle.lf_witness.proofs.SomeOutcome.{apart_some, from_some, some_outcome}
use Rattle.lf_witness.proofs.AscendingLists.{in_order, one_list}

-- one at most

pub one_in_order : (f : Outcomes) → HasOneOutcome f → (o p : Option (List Labels)) → InOrder f o → InOrder f p → o ≡ p
one_in_order f one None None a b = refl
one_in_order f one None (Some R) a b = absurd (one None (Some R) a b.0)
one_in_order f one (Some P) None a b = absurd (one (Some P) None a.0 b)
one_in_order f one (Some P) (Some R) a b = ap Some (one_list P R a.1 b.1 (one (Some P) (Some R) a.0 b.0))

pub one_answer : (W : List Labels) (e : Tree) (o p : Option (List Labels)) → IsStrictAnswer W e o → IsStrictAnswer W e p → o ≡ p
one_answer W e = one_in_order (StrictlyEvaluates W e) (one_outcome W e)

pub rule_outcome : (W : List Labels) (r : RuleTree) → HasOneOutcome (RuleStrictlyGives W r)
rule_outcome W r None None a b = tt
rule_outcome W r None (Some R) (inl a) (inl b) = b.1
rule_outcome W r (Some P) p (inl a) b = absurd a.1
rule_outcome W r o (Some R) a (inl b) = absurd b.1
rule_outcome W r o p (inl a) (inr b) = absurd (true≢false (sym b.0 ∙ a.0))
rule_outcome W r o p (inr a) (inl b) = absurd (true≢false (sym a.0 ∙ b.0))
rule_outcome W r o p (inr a) (inr b) = one_outcome W r.expr o p a.1 b.1

pub one_rule_answer : (W : List Labels) (r : RuleTree) (o p : Option (List Labels)) → IsRuleAnswer W r o → IsRuleAnswer W r p → o ≡ p
one_rule_answer W r = one_in_order (RuleStrictlyGives W r) (rule_outcome W r)

-- runs

stored_respects : (r : RuleTree) (alert : _) → Respects (StoredOf r alert)
stored_respects r true = set_respects (λ P R. R ≡ []) (λ P Q R T same a b s c. absurd (none_in s (subst (λ (l : List Labels). Contains l s) a c)))
stored_respects r false = apart_respects (IsStored r) (λ s t u a b. a ∙ sym b)

step_outcome : (W : List Labels) (r : RuleTree) → HasOneOutcome (StepAdds W r)
step_outcome W r = from_one (RuleStrictlyGives W r) (StoredOf r r.alert) (rule_outcome W r) (stored_respects r r.alert)

pub step_into : (W V : List Labels) → AreSame W V → (r : RuleTree) → Into (StepAdds W r) (StepAdds V r)
step_into W V same r = from_into (RuleStrictlyGives W r) (RuleStrictlyGives V r) (StoredOf r r.alert) (StoredOf r r.alert) (rule_into W V same r) (λ P o is. is)

-- what is stored over some samples is stored over the same samples
pub stored_into : (rules : List RuleTree) (W V : List Labels) → AreSame W V → Into (StrictlyStored W rules) (StrictlyStored V rules)
stored_into [] W V same None is = is
stored_into [] W V same (Some R) is = chained V W R (turned W V same) is
stored_into (r ∷ later) W V same o is =
    from_into (StepAdds W r) (StepAdds V r) (λ A. StrictlyStored (W ++ A) later) (λ A. StrictlyStored (V ++ A) later) (step_into W V same r) (λ A. stored_into later (W ++ A) (V ++ A) (same_front W V A same)) o is

run_respects : (rules : List RuleTree) (W V : List Labels) → AreSame W V → (o p : Option (List Labels)) → StrictlyStored W rules o → StrictlyStored V rules p → IsSameOutcome o p
run_respects [] W V same o p a b = set_respects AreSame (λ P Q R T both a b s c. b.0 s (both.0 s (a.1 s c))) W V same o p a b
run_respects (r ∷ later) W V same o p (inl a) (inl b) = both_none o p a.1 b.1
run_respects (r ∷ later) W V same o p (inl a) (inr b) = absurd (step_outcome V r None (Some b.0) (step_into W V same r None a.0) b.1)
run_respects (r ∷ later) W V same o p (inr a) (inl b) = absurd (step_outcome V r (Some a.0) None (step_into W V same r (Some a.0) a.1) b.0)
run_respects (r ∷ later) W V same o p (inr a) (inr b) =
    let added = step_outcome V r (Some a.0) (Some b.0) (step_into W V same r (Some a.0) a.1) b.1 in
    let stored = chained (W ++ a.0) (V ++ a.0) (V ++ b.0) (same_front W V a.0 same) (same_behind V a.0 b.0 added) in
    run_respects later (W ++ a.0) (V ++ b.0) stored o p a.2 b.2

pub run_outcome : (W : List Labels) (rules : List RuleTree) → HasOneOutcome (StrictlyStored W rules)
run_outcome W rules = run_respects rules W W (same_itself W)

pub one_run_answer : (series : List Labels) (rules : List RuleTree) (o p : Option (List Labels)) → IsRunAnswer series rules o → IsRunAnswer series rules p → o ≡ p
one_run_answer series rules = one_in_order (StrictlyStored series rules) (run_outcome series rules)

-- one at least

some_in_order : (f : Outcomes) → HasOutcome f → TakesSame f → HasOutcome (InOrder f)
some_in_order f (None, none) same = (None, none)
some_in_order f (Some R, some) same = let listed = in_order R in (Some listed.0, (same R listed.0 listed.1 some, listed.2))

pub some_answer : (W : List Labels) (e : Tree) → HasOutcome (IsStrictAnswer W e)
some_answer W e = some_in_order (StrictlyEvaluates W e) (some_outcome W e) (evaluates_same W e)

rule_some : (W : List Labels) (r : RuleTree) → HasOutcome (RuleStrictlyGives W r)
rule_some W r = by (is_evaluated (type_by_form r.expr)) refl
  where
    by : (b : Bool) → is_evaluated (type_by_form r.expr) ≡ b → HasOutcome (RuleStrictlyGives W r)
    by false e = (None, inl (e, tt))
    by true e = let given = some_outcome W r.expr in (given.0, inr (e, given.1))

pub some_rule_answer : (W : List Labels) (r : RuleTree) → HasOutcome (IsRuleAnswer W r)
some_rule_answer W r = some_in_order (RuleStrictlyGives W r) (rule_some W r) (rule_same W r)

-- runs

step_some : (W : List Labels) (r : RuleTree) → HasOutcome (StepAdds W r)
step_some W r = from_some (RuleStrictlyGives W r) (StoredOf r r.alert) (rule_some W r) (by r.alert)
  where
    by : (alert : Bool) (P : List Labels) → HasOutcome (StoredOf r alert P)
    by true P = (Some [], refl)
    by false P = apart_some (IsStored r) (stored r) P (λ s c. refl) (λ s t u a b. a ∙ sym b)

pub run_some : (rules : List RuleTree) (W : List Labels) → HasOutcome (StrictlyStored W rules)
run_some [] W = (Some W, same_itself W)
run_some (r ∷ later) W = from_some (StepAdds W r) (λ A. StrictlyStored (W ++ A) later) (step_some W r) (λ A. run_some later (W ++ A))

pub some_run_answer : (series : List Labels) (rules : List RuleTree) → HasOutcome (IsRunAnswer series rules)
some_run_answer series rules = some_in_order (StrictlyStored series rules) (run_some rules series) (run_same rules series)
