use denote.Param.Send.{sendable}
use Rattle.std.proofs.Crossing.{crosses}
use Rattle.lf_judge.proofs.Shared.{hand_sync}
use Rattle.std.proofs.Common.{◌∙◌, false, rules, sym}
use Rattle.std.proofs.lemmas.List.{length-map}
use Rattle.std.proofs.lemmas.Result.{IfOk-weaker}
use Rattle.lf_ast.specs.Rules.{rule_tree}
use Rattle.lf_judge.specs.views.AtHand.{TellsRuleAt, files_at, rules_of_hand}
use Rattle.lf_judge.proofs.Pieces.{each_value}
use Rattle.lf_judge.proofs.Told.{all_told}
use Rattle.lf_judge.proofs.telling.each_without_labels.Goals as goal

pub returns : goal.returns
returns g c =
    let hand = c.args.hand.now in
    IfOk-weaker c.map_pieces.result _ _
    (λ told is. all_told (files_at hand) (rules_of_hand hand) hand.env.now false told (is.count ∙ c.len.ensures ∙ sym (length-map hand.rules.now rule_tree)) (each_value _ _ _ (TellsRuleAt hand false) (λ i x h gave. search rules) told is))
    c.map_pieces.ensures.each

pub map_pieces-requires-sync-F : goal.map_pieces-requires-sync-F
map_pieces-requires-sync-F g c κs within =
    search (sendable, hand_sync, crosses) depth 40 fits 200000
