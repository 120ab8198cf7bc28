use denote.Param.Send.{sendable}
use Rattle.std.proofs.Crossing.{crosses}
use Rattle.lf_checks.proofs.rule_dependency.RecordedNames.TheSendSync as recorded
use Rattle.lf_forks.proofs.forks.Forks.TheSendSync as forks
use Rattle.lf_judge.proofs.Shared.{hand_sync}
use Rattle.std.proofs.Common.{◌∙◌, rules}
use Rattle.std.proofs.lemmas.Result.{IfOk-weaker}
use Rattle.lf_judge.specs.views.RulesFound.{IsReadAt}
use Rattle.lf_judge.proofs.Pieces.{each_value}
use Rattle.lf_judge.proofs.rule_read.read_rules.Goals as goal

pub returns : goal.returns
returns g c =
    let hand = c.args.hand.now in
    let forks = c.args.forks.now in
    IfOk-weaker c.map_pieces.result _ _ (λ read is. record { count = is.count ∙ c.len.ensures; each = each_value _ _ _ (IsReadAt hand forks) (λ k x h gave. search rules) read is }) c.map_pieces.ensures.each

pub map_pieces-requires-sync-F : goal.map_pieces-requires-sync-F
map_pieces-requires-sync-F g c κs within =
    search (sendable, hand_sync, recorded.the_sync, forks.the_sync, crosses) depth 40 fits 200000
