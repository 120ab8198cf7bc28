use Rattle.std.proofs.Common.{◌++◌, codes, ap, sym, ◌∙◌}
use Rattle.std.proofs.lemmas.Result.{on_ok_weaker}
use Rattle.serde_json.specs.Written.{compact_text}
use Rattle.lf_report.specs.Json.{world_data}
use Rattle.lf_report.specs.views.Pieces.{possible_head}
use Rattle.lf_report.proofs.Appends.{appended_five}
use Rattle.lf_report.proofs.Pieces.{possible_json}
use Rattle.lf_report.proofs.json.labels.push_possible.Goals as goal

pub returns : goal.returns
returns c =
    let start = c.args.text.now in
    let label = c.args.label.now in
    let with = c.args.with.now in
    let without = c.args.without.now in
    on_ok_weaker c.push-2.result
    (λ e. appended_five start (possible_head label) (compact_text (world_data with)) (codes ",\"without\":") (compact_text (world_data without)) (codes "}")
    c.in_ok-push_possible_head.ensures c.in_ok-push_world.ensures c.in_ok-push.ensures.ok c.in_ok-push_world-2.ensures e
    ∙ ap (λ l. start ++ l) (sym (possible_json label with without)))
    c.push-2.ensures.ok
