use Rattle.std.proofs.Common.{◌≡◌, ◌+◌, suc, ap, ap₂, ◌∙◌, arith}
use Rattle.lf_sizes.specs.Sizes.{plus}
use Rattle.lf_flow.specs.views.Budget.{bytes_before}
use Rattle.lf_flow.proofs.patterns.text_bytes.Goals as goal

pub loop-class-preserved : goal.loop-class-preserved
loop-class-preserved c =
    let class = c.loop-class.class in
    let next : suc class ≡ class + 1 = omega arith in
    c.saturating_add-bytes.ensures ∙ ap₂ plus c.loop-class.invariant c.class_bytes.ensures ∙ ap (bytes_before c.args.universe.now c.args.label) next
