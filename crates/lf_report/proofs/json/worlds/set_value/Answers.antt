use Rattle.std.proofs.Common.{ap, ◌∙◌, arith}
use Rattle.std.specs.FinMap as map_of
use Rattle.serde_json.specs.Data.{object, put, string}
use Rattle.serde_json.specs.View.{members_view}
use Rattle.lf_report.proofs.Sets.{set_all, set_more}
use Rattle.lf_report.proofs.json.worlds.set_value.Goals as goal

pub loop-k-preserved : goal.loop-k-preserved
loop-k-preserved c =
    let old = members_view c.loop-k.members.entries in
    let said = c.from-value.ensures ∙ ap string (c.in_ok-from_str.ensures.ok ∙ c.as_str.ensures) in
    set_more (map_of.entries c.args.set.now) c.loop-k.k c.pair.result.0.now c.pair.result.1.now c.pair.ensures.value c.loop-k.invariant
    (c.in_ok-put.ensures.ok ∙ ap (λ d. put c.as_str-in-loop-k.result.now d old) said ∙ ap (λ l. put l (string c.pair.result.1.now) old) c.as_str-in-loop-k.ensures)

pub returns : goal.returns
returns c = c.object_of.ensures ∙ ap object (c.loop-k.invariant ∙ set_all (map_of.entries c.args.set.now) c.loop-k.k (omega (arith, c.loop-k-test.false, c.len-k-end.ensures.value, map_of.len-entries c.args.set.now)))
