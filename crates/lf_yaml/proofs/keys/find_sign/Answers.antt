use Rattle.std.proofs.Common.{sym, ◌∙◌, ◌+◌, true, false, get_or}
use Rattle.lf_yaml.proofs.SignScan.{key-found, key-stopped, key-commented, key-goes, key-passed, key-end, ends-value, comments-value}
use Rattle.lf_yaml.proofs.keys.find_sign.Goals as goal

pub returns-then-ends_here-clause-value : goal.returns-then-ends_here-clause-value
returns-then-ends_here-clause-value c =
    sym (key-found c.args.flow c.args.at c.args.text.now c.loop-i.i c.loop-i-test.true
    (ends-value true c.args.at (get_or c.args.text.now c.loop-i.i 0) c.loop-i.i c.args.text.now c.past-rest.result.now c.ends_here.result c.past-rest.ensures c.ends_here.ensures.value c.if-ends_here.true))
    ∙ c.loop-i.invariant

pub returns-then-stops_here-clause-value : goal.returns-then-stops_here-clause-value
returns-then-stops_here-clause-value c =
    sym (key-stopped c.args.flow c.args.at c.args.text.now c.loop-i.i c.loop-i-test.true
    (ends-value false c.args.at (get_or c.args.text.now c.loop-i.i 0) c.loop-i.i c.args.text.now c.past-rest.result.now c.ends_here.result c.past-rest.ensures c.ends_here.ensures.value c.if-ends_here.false)
    (sym (c.stops_here.ensures (c.args.at + c.loop-i.i)) ∙ c.if-stops_here.true))
    ∙ c.loop-i.invariant

pub returns-then-comments_here-clause-value : goal.returns-then-comments_here-clause-value
returns-then-comments_here-clause-value c =
    sym (key-commented c.args.flow c.args.at c.args.text.now c.loop-i.i c.loop-i-test.true
    (ends-value false c.args.at (get_or c.args.text.now c.loop-i.i 0) c.loop-i.i c.args.text.now c.past-rest.result.now c.ends_here.result c.past-rest.ensures c.ends_here.ensures.value c.if-ends_here.false)
    (sym (c.stops_here.ensures (c.args.at + c.loop-i.i)) ∙ c.if-stops_here.false)
    (comments-value true c.args.at (get_or c.args.text.now c.loop-i.i 0) c.loop-i.i c.args.text.now c.past-rest.result.now c.comments_here.result c.past-rest.ensures c.comments_here.ensures c.if-comments_here.true))
    ∙ c.loop-i.invariant

pub loop-i-preserved : goal.loop-i-preserved
loop-i-preserved c =
    sym (key-goes c.args.flow c.args.at c.args.text.now c.loop-i.i c.loop-i-test.true
    (ends-value false c.args.at (get_or c.args.text.now c.loop-i.i 0) c.loop-i.i c.args.text.now c.past-rest.result.now c.ends_here.result c.past-rest.ensures c.ends_here.ensures.value c.if-ends_here.false)
    (sym (c.stops_here.ensures (c.args.at + c.loop-i.i)) ∙ c.if-stops_here.false)
    (comments-value false c.args.at (get_or c.args.text.now c.loop-i.i 0) c.loop-i.i c.args.text.now c.past-rest.result.now c.comments_here.result c.past-rest.ensures c.comments_here.ensures c.if-comments_here.false))
    ∙ c.loop-i.invariant

pub loop-i-preserved-then-goes_on : goal.loop-i-preserved-then-goes_on
loop-i-preserved-then-goes_on c =
    sym (key-passed c.args.flow c.args.at c.args.text.now c.loop-i.i c.loop-i-test.true (c.goes_on.ensures.stops c.if-goes_on.true) (c.goes_on.ensures.behind c.if-goes_on.true)) ∙ c.loop-i.invariant

pub returns-clause-value : goal.returns-clause-value
returns-clause-value c = sym (key-end c.args.flow c.args.at c.args.text.now c.loop-i.i c.loop-i-test.false) ∙ c.loop-i.invariant
