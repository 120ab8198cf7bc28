use Rattle.std.proofs.Common.{[], false, codes, sym, ◌∙◌}
use Rattle.serde_json.specs.Written.{compact_text}
use Rattle.lf_report.specs.Json.{files_items, summary_data}
use Rattle.lf_report.specs.views.Pieces.{listed}
use Rattle.lf_report.proofs.Appends.{appended_five}
use Rattle.lf_report.proofs.Floats.{summary_floats}
use Rattle.lf_report.proofs.Pieces.{report_is}
use Rattle.lf_report.proofs.json.written.Goals as goal

pub returns : goal.returns
returns c =
    let report = c.args.report.now in
    appended_five [] (codes "{\"files\":[") (listed false (files_items report)) (codes "],\"summary\":") (compact_text (summary_data report)) (codes "}\n")
    c.in_ok-text.ensures c.in_ok-push_files.ensures c.in_ok-push.ensures.ok (c.in_ok-push_value.ensures (summary_data report) c.in_ok-summary.ensures (summary_floats report)) c.in_ok-push-2.ensures.ok
    ∙ sym (report_is report)
