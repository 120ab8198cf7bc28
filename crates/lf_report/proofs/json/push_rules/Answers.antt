use Rattle.std.proofs.Common.{◌++◌, false, map, ap, ◌∙◌, arith}
use Rattle.lf_report.specs.Json.{rule_data}
use Rattle.lf_report.specs.Numbers.{rules_of}
use Rattle.lf_report.specs.views.Pieces.{listed}
use Rattle.lf_report.proofs.Groups.{all_taken, number_at, number_within, numbers_here, rule_at}
use Rattle.lf_report.proofs.Pieces.{mapped_more}
use Rattle.lf_report.proofs.json.push_rules.Goals as goal

pub numbers_at-numbers-requires : goal.numbers_at-numbers-requires
numbers_at-numbers-requires c = omega (arith, c.requires.file, c.requires.lookup.rules_are.each_file)

pub push_rule_at-requires-clause-rule : goal.push_rule_at-requires-clause-rule
push_rule_at-requires-clause-rule c =
    let report = c.args.report.now in
    let numbers = c.numbers_at-numbers.result.now in
    let e = numbers_here report.files report.rules c.args.lookup.now.rules.items c.args.file numbers c.requires.lookup.rules_are c.requires.file c.numbers_at-numbers.ensures in
    number_within report.rules (rules_of report c.args.file) numbers e c.loop-k.k c.get.result.now (omega (arith, c.loop-k-test.true, c.len-k-end.ensures)) c.get.ensures.read

pub loop-k-preserved : goal.loop-k-preserved
loop-k-preserved c = λ it at.
    let report = c.args.report.now in
    let rules = rules_of report c.args.file in
    let numbers = c.numbers_at-numbers.result.now in
    let k = c.loop-k.k in
    let n = c.get.result.now in
    let e = numbers_here report.files report.rules c.args.lookup.now.rules.items c.args.file numbers c.requires.lookup.rules_are c.requires.file c.numbers_at-numbers.ensures in
    let found = number_at report.rules rules numbers k n e (omega (arith, c.loop-k-test.true, c.len-k-end.ensures)) c.get.ensures.read in
    let rule = found.0 in
    let here = rule_at report.rules rules numbers e k n (omega (arith, c.loop-k-test.true, c.len-k-end.ensures)) c.get.ensures.read rule found.1 in
    mapped_more (rule_data report it) rules k rule c.args.text.now here.0 here.1 (c.loop-k.invariant it at) c.in_ok-push_comma.ensures (c.in_ok-push_rule_at.ensures it rule at found.1)

pub returns : goal.returns
returns c = λ it at.
    let report = c.args.report.now in
    let numbers = c.numbers_at-numbers.result.now in
    let e = numbers_here report.files report.rules c.args.lookup.now.rules.items c.args.file numbers c.requires.lookup.rules_are c.requires.file c.numbers_at-numbers.ensures in
    c.loop-k.invariant it at
    ∙ ap (λ rs. c.args.text.now ++ listed false (map (rule_data report it) rs)) (all_taken report.rules (rules_of report c.args.file) numbers c.loop-k.k e (omega (arith, c.loop-k-test.false, c.len-k-end.ensures)))
