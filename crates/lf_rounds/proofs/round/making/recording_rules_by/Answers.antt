use Rattle.std.proofs.Common.{◌≡◌, ◌<◌, ℕ, List, get_or, length, ap, ◌∙◌, arith}
use Rattle.std.proofs.lemmas.Grind.{get_or_default_zero}
use Rattle.std.proofs.lemmas.List.{length-map}
use Rattle.lf_ast.specs.Rules.{rule_tree, rule_trees}
use Rattle.lf_deps.proofs.OrderLaws.{ordered_below}
use Rattle.lf_rounds.specs.Tasks.{is_recording}
use Rattle.lf_rounds.proofs.Pieces.{filter_next, next_piece}
use Rattle.lf_rounds.proofs.round.making.recording_rules_by.Goals as goal

pub add_recording-requires : goal.add_recording-requires
add_recording-requires c =
    let order : List ℕ = c.in_ok-order.order in
    let items : List ℕ = c.as_slice-number-items.result.now in
    let i : ℕ = c.loop-number.number-index in
    let same : items ≡ order = c.as_slice-number-items.ensures in
    let within : i < length order = omega (arith, c.loop-number-test.true, ap length same) in
    let below = ordered_below (rule_trees c.args.rules.now) order c.in_ok-order.ensures (get_or order i 0) (i, within, get_or_default_zero order i (get_or order i 0) within) in
    omega (arith, below, length-map c.args.rules.now rule_tree, ap (λ xs. get_or xs i 0) same)

pub loop-number-preserved : goal.loop-number-preserved
loop-number-preserved c =
    let items : List ℕ = c.as_slice-number-items.result.now in
    let i : ℕ = c.loop-number.number-index in
    let test = is_recording (rule_trees c.args.rules.now) in
    c.in_ok-add_recording.ensures ∙ ap (next_piece test (get_or items i 0)) c.loop-number.invariant ∙ filter_next test items i c.loop-number-test.true
