-- A report that was written is true.
use Rattle.std.proofs.Common.{◌≡◌, Bool, List, Option, subst, ◌∙◌}
use Rattle.lf_ast.specs.Labels.{Bytes}
use Rattle.lf_checks.specs.Files.{File}
use Rattle.lf_judge.specs.Founds.{Content, accepted}
use Rattle.lf_judge.specs.Judged.{IsReportOn}
use Rattle.lf_judge.specs.Limits.{AreWithin, AreWithinLimits}
use Rattle.lf_report.specs.declared.report.Report.{Report}
use Rattle.lf_words.specs.Grammar.{Asks}
use Rattle.lf_words.specs.declared.options.Options.{Options}
use Rattle.lf_lint.specs.declared.making.FinishedReport.{FinishedReport}
use Rattle.lf_lint.specs.Asked.{tells_labels}
use Rattle.lf_lint.specs.Ends.{Wrote}
use Rattle.lf_lint.specs.Headline.{WroteTruth}
use Rattle.lf_judge.proofs.Contents.{one_contents}
use Rattle.lf_lint.specs.views.Making.{IsMade}
use Rattle.lf_lint.proofs.Truths.{true_report}

-- the rules that passed no limit are those of the report
fitting : (files : List File) (labels : Bool) (report : Report) → AreWithinLimits labels files → (on : IsReportOn files labels report) → AreWithin labels (accepted on.contents)
fitting files labels report fit on = subst (λ (contents : List Content). AreWithin labels (accepted contents)) (one_contents files fit.0 on.contents fit.1 on.are_contents) fit.2

-- a report that was made and then written is true
pub wrote_truth : (words : List Bytes) (held : Bytes → Option Bytes) (before now : Option Bytes) (options : Options) (made : FinishedReport) (text : Bytes) → Asks words options → IsMade held options made → text ≡ made.text → Wrote before now text → WroteTruth words held before now
wrote_truth words held before now options made text asks is same wrote =
    let files = is.files in
    let of = is.is_made_of in
    let labels = tells_labels options in (
      options,
      files,
      accepted of.is_report.contents,
      of.report,
      record { asks = asks; few = is.gathered.few; are_files = is.gathered.are_files; are_short = is.gathered.are_short; fit = of.fit; is_report = of.is_report },
      subst (Wrote before now) (same ∙ of.text) wrote,
      true_report files labels of.report of.is_report (fitting files labels of.report of.fit of.is_report),
    )
