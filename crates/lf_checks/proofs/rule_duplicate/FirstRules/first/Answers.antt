use Rattle.std.proofs.Common.{◌<◌, ◌≤◌, length, sym, ◌∙◌, arith}
use Rattle.std.proofs.lemmas.List.{get_or_read}
use Rattle.lf_ast.specs.Rules.{rule_tree}
use Rattle.lf_checks.proofs.DuplicateLaws.{alert_kept, alone_kept, found_first, found_kept, unfound_first, unfound_kept}
use Rattle.lf_checks.proofs.rule_duplicate.FirstRules.first.Goals as goal

pub returns-then-rule-clause-kept : goal.returns-then-rule-clause-kept
returns-then-rule-clause-kept c rules among count kept named = alert_kept among rules c.args.self.now.keys c.args.self.now.numbers.items kept (rule_tree c.args.rule.now) c.if-rule.true

pub returns-then-not-shared-clause-first : goal.returns-then-not-shared-clause-first
returns-then-not-shared-clause-first c rules among count kept named alone = alone c.if-not-shared.true c.if-rule.false

pub returns-then-not-shared-clause-kept : goal.returns-then-not-shared-clause-kept
returns-then-not-shared-clause-kept c rules among count kept named = alone_kept among rules c.args.self.now.keys c.args.self.now.numbers.items kept (rule_tree c.args.rule.now) (named ∙ c.if-not-shared.true)

pub returns-then-at-len-clause-first : goal.returns-then-at-len-clause-first
returns-then-at-len-clause-first c rules among count kept named alone =
    let numbers = c.args.self.now.numbers.items in
    let within : c.in_ok-at.at < length numbers = omega (arith, c.if-at-len.true, c.len.ensures) in
    found_first among rules c.args.self.now.keys numbers kept (rule_tree c.args.rule.now) c.if-rule.false (named ∙ c.if-not-shared.false) c.as_str.result.now (c.as_str.ensures.value ∙ c.in_ok-key.ensures) c.in_ok-at.at c.in_ok-at.ensures.place c.index.result.now within
    (sym (get_or_read numbers c.in_ok-at.at c.index.result.now within c.index.ensures 0))

pub returns-then-at-len-clause-kept : goal.returns-then-at-len-clause-kept
returns-then-at-len-clause-kept c rules among count kept named =
    let numbers = c.args.self.now.numbers.items in
    let within : c.in_ok-at.at < length numbers = omega (arith, c.if-at-len.true, c.len.ensures) in
    found_kept among rules c.args.self.now.keys numbers kept (rule_tree c.args.rule.now) c.if-rule.false (named ∙ c.if-not-shared.false) c.as_str.result.now (c.as_str.ensures.value ∙ c.in_ok-key.ensures) c.in_ok-at.at c.in_ok-at.ensures.place c.add.new.self within c.in_ok-at.ensures.ok

pub returns-clause-first : goal.returns-clause-first
returns-clause-first c rules among count kept named alone =
    let numbers = c.args.self.now.numbers.items in
    let past : length numbers ≤ c.in_ok-at.at = omega (arith, c.if-at-len.false, c.len.ensures) in
    unfound_first among rules c.args.self.now.keys numbers kept (rule_tree c.args.rule.now) c.if-rule.false (named ∙ c.if-not-shared.false) c.as_str.result.now (c.as_str.ensures.value ∙ c.in_ok-key.ensures) c.in_ok-at.at c.in_ok-at.ensures.place past

pub returns-clause-kept : goal.returns-clause-kept
returns-clause-kept c rules among count kept named =
    let numbers = c.args.self.now.numbers.items in
    let past : length numbers ≤ c.in_ok-at.at = omega (arith, c.if-at-len.false, c.len.ensures) in
    unfound_kept among rules c.args.self.now.keys numbers kept (rule_tree c.args.rule.now) c.if-rule.false (named ∙ c.if-not-shared.false) c.as_str.result.now (c.as_str.ensures.value ∙ c.in_ok-key.ensures) c.in_ok-at.at c.in_ok-at.ensures.place c.add.new.self c.push.new.self.items c.in_ok-rule_number.field-0 past
    c.in_ok-at.ensures.ok c.in_ok-push.ensures.items (c.in_ok-rule_number.ensures ∙ sym count)
