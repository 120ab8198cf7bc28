-- The rules of a report stand in its files, and what stays unresolved names one of these rules.
use Rattle.std.proofs.Common.{◌≡◌, ◌<◌, inl, inr, ℕ, suc, ◌+◌, Bool, true, false, List, [], ◌∷◌, length, Option, Some, None, if◌then◌else◌, sym, ◌∙◌, ap, arith, refl, subst}
use Rattle.std.specs.Prelude.{slice_get}
use Rattle.std.specs.List.{Contains}
use Rattle.std.proofs.lemmas.List.{length-map}
use Rattle.std.proofs.lemmas.List.Elements.{Contains-append_cases}
use Rattle.std.proofs.lemmas.Option.{slice_get_within}
use Rattle.lf_laws.proofs.Slices.{member_at, of_map_at, to_map_at}
use Rattle.lf_laws.proofs.Members.{any_has, here, none_in}
use Rattle.lf_ast.specs.Rules.{RuleTree}
use Rattle.lf_ast.specs.declared.verdict.RuleVerdicts.{RuleVerdicts}
use Rattle.lf_ast.specs.declared.verdict.Verdict.{Verdict}
use Rattle.lf_ast.specs.declared.verdict.Verdict.TheVariants as told
use Rattle.lf_base.specs.declared.place.Span.{Span}
use Rattle.lf_checks.specs.Files.{File}
use Rattle.lf_deps.specs.Ordering.{without}
use Rattle.lf_trials.specs.Verdicts.{LabelVerdict, RuleVerdict, Empty, Labels, Guaranteed, Impossible, Possible, Unresolved}
use Rattle.lf_judge.specs.Founds.{Content, accepted}
use Rattle.lf_judge.specs.Judged.{Checked, IsReportOn, ToldRule, files_told, has_unresolved, is_unresolved, rule_in, rule_told, unresolved_told, verdict_told, verdicts_told}
use Rattle.lf_open.specs.OpenList.{AreOpenOfEach, IsFirstOpen}
use Rattle.lf_open.specs.declared.open_at.OpenAt.{OpenAt}
use Rattle.lf_report.specs.Numbers.{NameRules, StandInFiles, labels_of}
use Rattle.lf_report.specs.declared.report.Report.{Report}
use Rattle.lf_report.specs.declared.report.RuleReport.{RuleReport}
use Rattle.lf_judge.proofs.Contents.{stand_in}
use Rattle.lf_lint.proofs.ToldRules.{told_at, told_count}

told_files_count : (files : List File) (contents : List Content) → length contents ≡ length files → length (files_told files contents) ≡ length files
told_files_count [] contents n = refl
told_files_count (file ∷ files) [] n = absurd (omega (arith, n))
told_files_count (file ∷ files) (content ∷ contents) n = ap (λ k. suc k) (told_files_count files contents (omega (arith, n)))

-- what stands open stands in one of the rules
module _ (rules : List RuleTree) where
  open_below : (numbers : List ℕ) (found : List OpenAt) → AreOpenOfEach rules numbers found → (o : OpenAt) → Contains found o → o.rule < length rules
  open_below [] found none o c = absurd (none_in o (subst (λ (l : List OpenAt). Contains l o) none c))
  open_below (k ∷ numbers) found (own, later, is, are, rest) o c = elim (Contains-append_cases own later o (subst (λ (l : List OpenAt). Contains l o) is c)) [
    | inl mine ↦ (let (of, (r, at, stands)) = are.each o mine in omega (arith, of, slice_get_within rules k r at))
    | inr behind ↦ open_below numbers later rest o behind
  ]

  -- so what is told of what stays unresolved names one of them
  names_below : (k : ℕ) (r : RuleTree) (first : Option OpenAt) → k < length rules → IsFirstOpen rules k first → (construct number : ℕ) (span : Span) → unresolved_told first k r ≡ told.Unresolved construct number span → number < length rules
  names_below k r None within is_first construct number span e = (let same : number ≡ k = cc in omega (arith, same, within))
  names_below k r (Some first) within (later, (s, at, reach, is, each)) construct number span e =
      let same : number ≡ first.rule = cc in
      omega (arith, same, open_below (k ∷ without k reach) (first ∷ later) each first (here first later))

  of_label : (k : ℕ) (r : RuleTree) (first : Option OpenAt) (v : LabelVerdict) → k < length rules → (is_unresolved v ≡ true → IsFirstOpen rules k first) → (construct number : ℕ) (span : Span) → verdict_told first k r v ≡ told.Unresolved construct number span
      → number < length rules
  of_label k r first Guaranteed within is_first construct number span e = absurd cc
  of_label k r first Impossible within is_first construct number span e = absurd cc
  of_label k r first (Possible present absent) within is_first construct number span e = absurd cc
  of_label k r first Unresolved within is_first construct number span e = names_below k r first within (is_first refl) construct number span e

  named_in : (labels : Bool) (k : ℕ) (r : RuleTree) (first : Option OpenAt) (v : RuleVerdict) → k < length rules → (labels ≡ true → has_unresolved v ≡ true → IsFirstOpen rules k first) → (l construct number : ℕ) (span : Span)
      → slice_get (labels_of (if labels then Some (verdicts_told first k r v) else None)) l ≡ Some (told.Unresolved construct number span) → number < length rules
  named_in false k r first v within is_first l construct number span e = absurd cc
  named_in true k r first Empty within is_first l construct number span e = absurd cc
  named_in true k r first (Labels verdicts) within is_first l construct number span e =
      let (v, at, is) = of_map_at (verdict_told first k r) verdicts l (told.Unresolved construct number span) e in
      of_label k r first v within (λ f. is_first refl (any_has is_unresolved verdicts v (member_at verdicts l v at) f)) construct number span is

module _ (files : List File) (labels : Bool) (report : Report) (on : IsReportOn files labels report) where
  -- what is told of the rule with a number
  told_of : (k : ℕ) (rule : RuleReport) → slice_get report.rules k ≡ Some rule → (c : Checked) × (slice_get on.checked k ≡ Some c) × (rule_told labels k c ≡ rule_in rule)
  told_of k rule at =
      let told = told_at labels 0 on.checked k (rule_in rule) (ap (λ l. slice_get l k) (sym on.rules_are) ∙ to_map_at rule_in report.rules k rule at) in
      let same : 0 + k ≡ k = omega arith in
      (told.0, told.1, ap (λ i. rule_told labels i told.0) (sym same) ∙ told.2)

  rule_at : (k : ℕ) (c : Checked) → slice_get on.checked k ≡ Some c → slice_get (accepted on.contents) k ≡ Some c.rule
  rule_at k c is = ap (λ l. slice_get l k) (sym on.are_checked.each_rule) ∙ to_map_at (λ (x : Checked). x.rule) on.checked k c is

  -- the report tells of as many rules as there are
  as_many : length report.rules ≡ length (accepted on.contents)
  as_many =
      sym (length-map report.rules rule_in) ∙ ap length on.rules_are ∙ told_count labels 0 on.checked ∙ sym (length-map on.checked (λ (c : Checked). c.rule)) ∙ ap length on.are_checked.each_rule

  pub stand_in_files : StandInFiles report
  stand_in_files k rule at =
      let (c, is, tells) = told_of k rule at in
      let file : c.rule.file ≡ rule.file = ap (λ (t : ToldRule). t.file) tells in
      let count : length report.files ≡ length files = ap length on.files_are ∙ told_files_count files on.contents on.are_contents.count in
      let of_file = stand_in files on.contents on.are_contents c.rule (member_at (accepted on.contents) k c.rule (rule_at k c is)) in
      omega (arith, file, count, slice_get_within files c.rule.file of_file.0 of_file.1)

  pub name_rules : NameRules report
  name_rules k rule at l verdict is_there construct number span unresolved =
      let (c, is, tells) = told_of k rule at in
      let rules = accepted on.contents in
      let verdicts : rule.verdicts ≡ (if labels then Some (verdicts_told c.first k c.rule c.verdict) else None) = sym (ap (λ (t : ToldRule). t.verdicts) tells) in
      let tells_that = ap (λ (v : Option RuleVerdicts). slice_get (labels_of v) l) (sym verdicts) ∙ is_there ∙ ap (λ (v : Verdict). Some v) unresolved in
      let below =
      named_in rules labels k c.rule c.first c.verdict (slice_get_within rules k c.rule (rule_at k c is)) (λ e. on.are_checked.each_open e k c is) l construct number span tells_that in
      omega (arith, below, as_many)
