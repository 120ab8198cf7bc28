-- What is found of a rule, beside what is named first for it.
use Rattle.std.proofs.Common.{◌≡◌, ℕ, true, List, Option, reverse, reverse, subst, sym, ap, ◌∙◌, arith}
use Rattle.std.proofs.lemmas.List.{reverse-reverse}
use Rattle.lf_open.specs.declared.open_at.OpenAt.{OpenAt}
use Rattle.lf_worlds.specs.views.Told.{rule_verdict}
use Rattle.lf_open.specs.OpenList.{IsFirstOpen}
use Rattle.lf_judge.specs.Judged.{has_unresolved}
use Rattle.lf_judge.specs.declared.at_hand.AtHand.{AtHand}
use Rattle.lf_judge.specs.declared.rule_found.RuleFound.{RuleFound}
use Rattle.lf_judge.specs.views.AtHand.{rules_of_hand}
use Rattle.lf_judge.specs.views.RulesFound.{AreFoundAt, IsFoundAt, NameFirsts, first_at}
use Rattle.lf_judge.proofs.Numbered.{EachFrom}

module _ (hand : AtHand) (firsts : List (Option OpenAt)) where
  -- it is found of the rule with a number, and what stands open first is named where it is to be
  pub record Waits (i : ℕ) (found : RuleFound) : Type 0 where
    pub is : IsFoundAt hand i found
    pub first : has_unresolved (rule_verdict found.known) ≡ true → IsFirstOpen (rules_of_hand hand) i (first_at firsts i)

  pub all_wait : (found taken : List RuleFound) → AreFoundAt hand found → NameFirsts (rules_of_hand hand) found firsts → taken ≡ reverse found → EachFrom Waits 0 (reverse taken)
  all_wait found taken are named turned =
      let back : found ≡ reverse taken = sym (ap reverse turned ∙ reverse-reverse found) in
      subst (EachFrom Waits 0) back
      (λ k m x e at. (let same : k ≡ m = omega (arith, e) in subst (λ j. Waits j x) same (record { is = are.each k x at; first = named k x at })))
