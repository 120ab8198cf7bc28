use Rattle.std.proofs.Common.{sym, ◌∙◌}
use Rattle.lf_scalar.proofs.BodyLines.{spaces-role, spaces-long, text-role, text-tab, behind-role, behind-tab}
use Rattle.lf_scalar.proofs.body.role_of.Goals as goal

pub returns-then-is_long : goal.returns-then-is_long
returns-then-is_long c = λ feed.
    rw c.bad_indent.ensures (spaces-long c.args.at c.args.line.now c.spaces-spaces.result feed (c.spaces-spaces.ensures.count c.args.at) c.args.leads c.args.above c.args.indent c.if-spaces-line.true (sym c.is_long.ensures ∙ c.if-is_long.true))

pub returns-else-is_long : goal.returns-else-is_long
returns-else-is_long c = λ feed.
    spaces-role c.args.at c.args.line.now c.spaces-spaces.result feed (c.spaces-spaces.ensures.count c.args.at) c.args.leads c.args.above c.args.indent c.if-spaces-line.true (sym c.is_long.ensures ∙ c.if-is_long.false)

pub returns-then-leads_with_tab : goal.returns-then-leads_with_tab
returns-then-leads_with_tab c = λ feed.
    rw c.bad_indent-then-leads_with_tab.ensures (text-tab c.args.at c.args.line.now c.spaces-spaces.result feed (c.spaces-spaces.ensures.count c.args.at) c.args.leads c.args.above c.args.indent c.if-spaces-line.false c.if-spaces-indent.true
    (sym (c.leads_with_tab.ensures c.args.at feed) ∙ c.if-leads_with_tab.true))

pub returns-else-leads_with_tab : goal.returns-else-leads_with_tab
returns-else-leads_with_tab c = λ feed.
    text-role c.args.at c.args.line.now c.spaces-spaces.result feed (c.spaces-spaces.ensures.count c.args.at) c.args.leads c.args.above c.args.indent c.if-spaces-line.false c.if-spaces-indent.true (sym (c.leads_with_tab.ensures c.args.at feed) ∙ c.if-leads_with_tab.false)

pub returns-then-stands_with_tab : goal.returns-then-stands_with_tab
returns-then-stands_with_tab c = λ feed.
    rw c.bad_indent-then-stands_with_tab.ensures (behind-tab c.args.at c.args.line.now c.spaces-spaces.result feed (c.spaces-spaces.ensures.count c.args.at) c.args.leads c.args.above c.args.indent c.if-spaces-line.false c.if-spaces-indent.false
    (sym (c.stands_with_tab.ensures c.args.at feed) ∙ c.if-stands_with_tab.true))

pub returns-else-stands_with_tab : goal.returns-else-stands_with_tab
returns-else-stands_with_tab c = λ feed.
    behind-role c.args.at c.args.line.now c.spaces-spaces.result feed (c.spaces-spaces.ensures.count c.args.at) c.args.leads c.args.above c.args.indent c.if-spaces-line.false c.if-spaces-indent.false
    (sym (c.stands_with_tab.ensures c.args.at feed) ∙ c.if-stands_with_tab.false)
