use Rattle.std.proofs.Common.{refl, sym, ◌∙◌}
use Rattle.lf_scalar.proofs.PlainCode.{tab-begun}
use Rattle.lf_scalar.proofs.plain.tab_with.Goals as goal

pub returns-then-has_tab-clause-value : goal.returns-then-has_tab-clause-value
returns-then-has_tab-clause-value c = λ b.
    let t = sym (c.has_tab.ensures c.args.at b) ∙ c.if-has_tab.true in
    rw (c.in-None.is, t, tab-begun c.args.at c.args.line.now b t) refl

pub returns-else-has_tab-clause-value : goal.returns-else-has_tab-clause-value
returns-else-has_tab-clause-value c = λ b.
    let t = sym (c.has_tab.ensures c.args.at b) ∙ c.if-has_tab.false in
    rw (c.in-None.is, t) refl
