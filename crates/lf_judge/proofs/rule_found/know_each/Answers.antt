use denote.Param.Send.{sendable}
use Rattle.std.proofs.Crossing.{crosses}
use Rattle.lf_judge.proofs.Shared.{hand_sync, trials_sync}
use Rattle.std.proofs.Common.{◌∙◌, rules}
use Rattle.std.proofs.lemmas.Result.{IfOk-weaker}
use Rattle.lf_judge.specs.views.RulesFound.{IsKnownAt}
use Rattle.lf_judge.proofs.Pieces.{each_value}
use Rattle.lf_judge.proofs.rule_found.know_each.Goals as goal

pub returns : goal.returns
returns g c =
    IfOk-weaker c.map_pieces.result _ _ (λ known is. record { count = is.count ∙ c.len.ensures; each = each_value _ _ _ (IsKnownAt c.args.hand.now) (λ i x h gave. search rules) known is }) c.map_pieces.ensures.each

pub map_pieces-requires-sync-F : goal.map_pieces-requires-sync-F
map_pieces-requires-sync-F g c κs within =
    search (sendable, hand_sync, trials_sync, crosses) depth 40 fits 200000
