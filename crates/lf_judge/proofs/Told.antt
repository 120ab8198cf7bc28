-- What is told of each rule is told of all of them.
use Rattle.std.proofs.Common.{◌≡◌, ℕ, ◌+◌, zero, suc, Bool, List, [], ◌∷◌, length, map, Some, refl, sym, ap, ap₂, subst, ◌∙◌, arith}
use Rattle.std.specs.Prelude.{slice_get}
use Rattle.std.proofs.lemmas.List.{length-map}
use Rattle.lf_laws.proofs.Slices.{of_map_at}
use Rattle.std.proofs.lemmas.Option.{same_Some}
use Rattle.lf_ast.specs.Rules.{RuleTree}
use Rattle.lf_checks.specs.Files.{File}
use Rattle.lf_report.specs.declared.report.RuleReport.{RuleReport}
use Rattle.lf_semantics.specs.RowTable.{Environment}
use Rattle.lf_judge.specs.Judged.{Checked, ToldRule, rule_in, rules_told}
use Rattle.lf_judge.specs.views.Checking.{IsCheckedAt, TellsRule, TellsRules}
use Rattle.lf_judge.proofs.Contents.{same_list}

module _ (files : List File) (rules : List RuleTree) (env : Environment) (labels : Bool) where
  -- the rules that are told of from one number on, each with its verdict and findings
  record AreFrom (i : ℕ) (checked : List Checked) (told : List RuleReport) : Type 0 where
    pub count : length checked ≡ length told
    pub each : (k n : ℕ) (c : Checked) → n ≡ i + k → slice_get checked k ≡ Some c → IsCheckedAt files rules env labels n c
    pub told_are : map rule_in told ≡ rules_told labels i checked

  told_from : (i : ℕ) (told : List RuleReport) → ((k n : ℕ) (x : RuleReport) → n ≡ i + k → slice_get told k ≡ Some x → TellsRule files rules env labels n x)
      → (checked : List Checked) × AreFrom i checked told
  told_from i [] tells = ([], record { count = refl; each = λ k n c e at. cc; told_are = refl })
  told_from i (x ∷ told) tells =
      let first = tells 0 i x (omega arith) refl in
      let later = told_from (suc i) told (λ k n y e at. tells (suc k) n y (omega (arith, e)) at) in
      let c = first.0 in
      let rest = later.1 in (
        c ∷ later.0,
        record {
          count = ap (λ n. suc n) rest.count;
          each = λ k. by c first.1 later.0 rest.each k;
          told_are = ap₂ (λ (y : ToldRule) (l : List ToldRule). y ∷ l) first.2 rest.told_are;
        },
      )
    where
      by : (c : Checked) → IsCheckedAt files rules env labels i c → (checked : List Checked)
          → ((k n : ℕ) (d : Checked) → n ≡ suc i + k → slice_get checked k ≡ Some d → IsCheckedAt files rules env labels n d)
          → (k n : ℕ) (d : Checked) → n ≡ i + k → slice_get (c ∷ checked) k ≡ Some d → IsCheckedAt files rules env labels n d
      by c is checked later zero n d e at =
          let place : i ≡ n = omega (arith, e) in
          subst (λ m. IsCheckedAt files rules env labels m d) place (subst (IsCheckedAt files rules env labels i) (same_Some c d at) is)
      by c is checked later (suc k) n d e at = later k n d (omega (arith, e)) at

  pub all_told : (told : List RuleReport) → length told ≡ length rules → ((i : ℕ) (x : RuleReport) → slice_get told i ≡ Some x → TellsRule files rules env labels i x) → TellsRules files rules env labels told
  all_told told n tells =
      let found = told_from 0 told (λ k m x e at. (let same : k ≡ m = omega (arith, e) in subst (λ j. TellsRule files rules env labels j x) same (tells k x at))) in
      let checked = found.0 in
      let are = found.1 in
      let each : (i : ℕ) (c : Checked) → slice_get checked i ≡ Some c → IsCheckedAt files rules env labels i c = λ i c at. are.each i i c (omega arith) at in (
        checked,
        record {
          each_rule = same_list (map (λ (c : Checked). c.rule) checked) rules (length-map checked (λ (c : Checked). c.rule) ∙ are.count ∙ n)
              (λ i r s at there. (let c = of_map_at (λ (d : Checked). d.rule) checked i r at in sym c.2 ∙ same_Some c.0.rule s (sym (each i c.0 c.1).rule ∙ there)));
          each_verdict = λ i c at. (each i c at).verdict;
          each_open = λ on i c at. (each i c at).first on;
          each_list = λ i c at. (each i c at).list;
        },
        are.told_are,
      )
