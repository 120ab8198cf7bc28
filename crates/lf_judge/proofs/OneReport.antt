-- Reports on the same files tell the same: each file has one list of rules or one refusal, rules have one least environment, and each rule one verdict, one first open construct and one list of findings.
use Rattle.std.proofs.Common.{◌≡◌, ◌∙◌, Bool, true, false, ℕ, suc, List, [], ◌∷◌, map, Some, None, refl, sym, ap, ap₂, subst}
use Rattle.std.specs.Prelude.{slice_get}
use Rattle.lf_ast.specs.Rules.{RuleTree}
use Rattle.lf_semantics.specs.Environments.{IsLeast}
use Rattle.lf_semantics.specs.Listing.{universe_of}
use Rattle.lf_semantics.specs.RowTable.{Environment}
use Rattle.lf_checks.specs.Files.{File}
use Rattle.lf_checks.proofs.OneList.{one_list}
use Rattle.lf_report.specs.declared.report.Report.{Report}
use Rattle.lf_trials.specs.Verdicts.{IsRuleVerdict}
use Rattle.lf_trials.proofs.OneVerdict.{one_verdict}
use Rattle.lf_judge.specs.Founds.{Content, accepted}
use Rattle.lf_judge.specs.Judged.{AreChecked, Checked, IsReportOn, TellTheSame, ToldRule, files_told, finding_told, has_unresolved, is_empty, labels_of, rule_told, rules_told, verdicts_told}
use Rattle.lf_judge.proofs.Contents.{one_contents}
use Rattle.lf_judge.proofs.FirstOpen.{one_first, told_alike}
use Rattle.lf_judge.proofs.OneLeast.{one_least}

-- two of one rule with one verdict and one list of findings are told alike, by one first open construct where verdicts are told and leave a label unresolved
same_rule : (labels : Bool) (n : ℕ) (c d : Checked) → c.rule ≡ d.rule → c.verdict ≡ d.verdict → c.found ≡ d.found → (labels ≡ true → has_unresolved c.verdict ≡ true → c.first ≡ d.first)
    → rule_told labels n c ≡ rule_told labels n d
same_rule true n c d rule verdict found first =
    let told : verdicts_told c.first n c.rule c.verdict ≡ verdicts_told d.first n d.rule d.verdict =
    told_alike c.first d.first n c.rule c.verdict (first refl) ∙ ap₂ (verdicts_told d.first n) rule verdict in
    λ i. record {
      file = (rule i).file;
      alert = (rule i).alert;
      name = (rule i).name;
      name_span = (rule i).name_span;
      verdicts = Some (told i);
      empty = is_empty (verdict i);
      findings = map finding_told (found i);
    }
same_rule false n c d rule verdict found first =
    λ i. record {
      file = (rule i).file;
      alert = (rule i).alert;
      name = (rule i).name;
      name_span = (rule i).name_span;
      verdicts = None;
      empty = is_empty (verdict i);
      findings = map finding_told (found i);
    }

-- the same rules, each told alike, are told as one list
same_told : (labels : Bool) (n : ℕ) (xs ys : List Checked) → map (λ (c : Checked). c.rule) xs ≡ map (λ (c : Checked). c.rule) ys
    → ((m i : ℕ) (c d : Checked) → slice_get xs i ≡ Some c → slice_get ys i ≡ Some d → c.rule ≡ d.rule → rule_told labels m c ≡ rule_told labels m d) → rules_told labels n xs ≡ rules_told labels n ys
same_told labels n [] [] rules alike = refl
same_told labels n [] (d ∷ ys) rules alike = cc
same_told labels n (c ∷ xs) [] rules alike = cc
same_told labels n (c ∷ xs) (d ∷ ys) rules alike =
    let rule : c.rule ≡ d.rule = cc in
    let later : map (λ (x : Checked). x.rule) xs ≡ map (λ (x : Checked). x.rule) ys = cc in
    ap₂ (λ (x : ToldRule) (l : List ToldRule). x ∷ l) (alike n 0 c d refl refl rule) (same_told labels (suc n) xs ys later (λ m i x y. alike m (suc i) x y))

module _ (files : List File) (labels : Bool) where
  one_told : (rules : List RuleTree) (env : Environment) (xs ys : List Checked) → AreChecked files labels rules env xs → AreChecked files labels rules env ys → rules_told labels 0 xs ≡ rules_told labels 0 ys
  one_told rules env xs ys h k =
      same_told labels 0 xs ys (h.each_rule ∙ sym k.each_rule)
      (λ m i c d at there rule.
      let verdict : c.verdict ≡ d.verdict =
      one_verdict (universe_of rules) env rules i d.rule c.verdict d.verdict (subst (λ (r : RuleTree). IsRuleVerdict (universe_of rules) env rules i r c.verdict) rule (h.each_verdict i c at))
      (k.each_verdict i d there) in
      same_rule labels m c d rule verdict (one_list files rules env i c.found d.found (h.each_list i c at) (k.each_list i d there))
      (λ on some. one_first rules i c.first d.first (h.each_open on i c at some) (k.each_open on i d there (ap has_unresolved (sym verdict) ∙ some))))

  -- by one list of rules
  same_rules : (rules : List RuleTree) (env other : Environment) (xs ys : List Checked) → IsLeast (universe_of rules) rules env → IsLeast (universe_of rules) rules other
      → AreChecked files labels rules env xs → AreChecked files labels rules other ys → rules_told labels 0 xs ≡ rules_told labels 0 ys
  same_rules rules env other xs ys h k are those =
      let P : Environment → Type 0 = λ e. AreChecked files labels rules e ys in
      one_told rules env xs ys are (subst P (one_least (universe_of rules) rules other env k h) those)

  pub one_report : (a b : Report) → IsReportOn files labels a → IsReportOn files labels b → TellTheSame a b
  one_report a b h k =
      let contents : k.contents ≡ h.contents = one_contents files k.contents h.contents k.are_contents h.are_contents in
      let P : List Content → Type 0 = λ cs. IsLeast (universe_of (accepted cs)) (accepted cs) k.env in
      let Q : List Content → Type 0 = λ cs. AreChecked files labels (accepted cs) k.env k.checked in
      let same : rules_told labels 0 h.checked ≡ rules_told labels 0 k.checked = same_rules (accepted h.contents) h.env k.env h.checked k.checked h.least (subst P contents k.least) h.are_checked (subst Q contents k.are_checked) in
      record {
        labels_same = h.labels_are ∙ sym k.labels_are;
        files_same = h.files_are ∙ ap (files_told files) (sym contents) ∙ sym k.files_are;
        rules_same = h.rules_are ∙ same ∙ sym k.rules_are;
        universe_same = h.universe_is ∙ ap (λ (cs : List Content). labels_of (universe_of (accepted cs))) (sym contents) ∙ sym k.universe_is;
      }
