use Rattle.std.proofs.Common.{◌++◌, ap, ◌∙◌, arith}
use Rattle.std.specs.List.{flat_map}
use Rattle.lf_report.specs.Numbers.{rules_of}
use Rattle.lf_base.specs.Lines.{lines_text}
use Rattle.lf_report.specs.Text.{rule_lines}
use Rattle.lf_report.proofs.Groups.{all_taken, number_within, numbers_here, rule_at}
use Rattle.lf_report.proofs.Lines.{rules_more}
use Rattle.lf_report.proofs.text.push_rules.Goals as goal

pub numbers_at-numbers-requires : goal.numbers_at-numbers-requires
numbers_at-numbers-requires c = omega (arith, c.requires.file, c.requires.lookup.rules_are.each_file)

pub get-rule-requires : goal.get-rule-requires
get-rule-requires c =
    let report = c.args.report.now in
    let numbers = c.numbers_at-numbers.result.now in
    let e = numbers_here report.files report.rules c.args.lookup.now.rules.items c.args.file numbers c.requires.lookup.rules_are c.requires.file c.numbers_at-numbers.ensures in
    number_within report.rules (rules_of report c.args.file) numbers e c.loop-k.k c.get.result.now (omega (arith, c.loop-k-test.true, c.len-k-end.ensures)) c.get.ensures.read

pub loop-k-preserved : goal.loop-k-preserved
loop-k-preserved c = λ it at.
    let report = c.args.report.now in
    let numbers = c.numbers_at-numbers.result.now in
    let rule = c.get-rule.result.now in
    let e = numbers_here report.files report.rules c.args.lookup.now.rules.items c.args.file numbers c.requires.lookup.rules_are c.requires.file c.numbers_at-numbers.ensures in
    let here = rule_at report.rules (rules_of report c.args.file) numbers e c.loop-k.k c.get.result.now (omega (arith, c.loop-k-test.true, c.len-k-end.ensures)) c.get.ensures.read rule c.get-rule.ensures.value in
    rules_more report it (rules_of report c.args.file) c.loop-k.k rule c.args.text.now c.loop-k.text _ here.0 here.1 (c.loop-k.invariant it at) (c.in_ok-push_rule.ensures it at)

pub returns : goal.returns
returns c = λ it at.
    let report = c.args.report.now in
    let numbers = c.numbers_at-numbers.result.now in
    let e = numbers_here report.files report.rules c.args.lookup.now.rules.items c.args.file numbers c.requires.lookup.rules_are c.requires.file c.numbers_at-numbers.ensures in
    c.loop-k.invariant it at
    ∙ ap (λ rs. c.args.text.now ++ lines_text (flat_map (rule_lines report it) rs)) (all_taken report.rules (rules_of report c.args.file) numbers c.loop-k.k e (omega (arith, c.loop-k-test.false, c.len-k-end.ensures)))
