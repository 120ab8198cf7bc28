use Rattle.std.proofs.Common.{◌++◌, false, codes, map, ap, sym, ◌∙◌}
use Rattle.std.proofs.lemmas.Result.{on_ok_weaker}
use Rattle.serde_json.specs.Written.{compact_text}
use Rattle.lf_report.specs.Json.{set_data}
use Rattle.lf_report.specs.views.Pieces.{listed, world_end}
use Rattle.lf_report.proofs.Appends.{appended_five}
use Rattle.lf_report.proofs.Pieces.{world_json}
use Rattle.lf_report.proofs.json.worlds.push_world.Goals as goal

pub returns : goal.returns
returns c =
    let world = c.args.world.now in
    let start = c.args.text.now in
    let series = c.in_ok-push_sets.ensures ∙ ap (λ l. c.push-2.new.self ++ listed false (map set_data l)) c.as_slice.ensures in
    on_ok_weaker c.push_world_end.result
    (λ e. appended_five start (codes "{\"sample\":") (compact_text (set_data world.sample)) (codes ",\"series\":[") (listed false (map set_data world.series)) (world_end world.steps)
    c.in_ok-push.ensures.ok c.in_ok-push_set.ensures c.in_ok-push-2.ensures.ok series (e ∙ ap (λ l. c.push_sets.new.text ++ world_end l) c.as_slice-2.ensures)
    ∙ ap (λ l. start ++ l) (sym (world_json world)))
    c.push_world_end.ensures
