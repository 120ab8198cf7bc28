-- That what is put together is the report on the files.
use Rattle.std.proofs.Common.{◌≡◌, Bool, List, map, ap, subst, ◌∙◌}
use Rattle.lf_ast.specs.Rules.{RuleTree}
use Rattle.lf_checks.specs.Files.{File}
use Rattle.lf_report.specs.declared.report.Report.{Report}
use Rattle.lf_report.specs.declared.report.RuleReport.{RuleReport}
use Rattle.lf_semantics.specs.Environments.{IsLeast}
use Rattle.lf_semantics.specs.Listing.{Listing, universe_of}
use Rattle.lf_semantics.specs.RowTable.{Environment}
use Rattle.lf_judge.specs.Founds.{AreContents, Content, accepted}
use Rattle.lf_judge.specs.Judged.{IsReportOn, rule_in}
use Rattle.lf_judge.specs.views.Checking.{IsPutTogether, TellsRules}

module _ (files : List File) (labels : Bool) (contents : List Content) (are : AreContents files contents) (env : Environment) (told : List RuleReport) (report : Report) where
  of_accepted : IsLeast (universe_of (accepted contents)) (accepted contents) env → TellsRules files (accepted contents) env labels told
      → IsPutTogether files labels (universe_of (accepted contents)) contents told report → IsReportOn files labels report
  of_accepted least (checked, are_checked, tells) put = record {
    contents = contents;
    are_contents = are;
    env = env;
    least = least;
    checked = checked;
    are_checked = are_checked;
    labels_are = put.labels_are;
    files_are = put.files_are;
    rules_are = ap (map rule_in) put.rules_are ∙ tells;
    universe_is = put.universe_is;
  }

  pub reported : (rules : List RuleTree) (u : Listing) → rules ≡ accepted contents → u ≡ universe_of rules → IsLeast u rules env → TellsRules files rules env labels told
      → IsPutTogether files labels u contents told report → IsReportOn files labels report
  reported rules u e is least tells put =
      let u_is : u ≡ universe_of (accepted contents) = is ∙ ap universe_of e in
      let P : List RuleTree → Type 0 = λ rs. IsLeast u rs env in
      let Q : Listing → Type 0 = λ v. IsLeast v (accepted contents) env in
      let S : List RuleTree → Type 0 = λ rs. TellsRules files rs env labels told in
      let T : Listing → Type 0 = λ v. IsPutTogether files labels v contents told report in
      of_accepted (subst Q u_is (subst P e least)) (subst S e tells) (subst T u_is put)
