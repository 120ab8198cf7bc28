use Rattle.std.proofs.Common.{◌++◌, ◌%◌, ap, ◌∙◌}
use Rattle.lf_gen.specs.Generated.{head_lines, kind_lines}
use Rattle.lf_base.specs.Lines.{lines_text}
use Rattle.lf_gen.proofs.RuleLaws.{generated_more}
use Rattle.lf_gen.proofs.generating.gen_text.Goals as goal

pub loop-rule-preserved : goal.loop-rule-preserved
loop-rule-preserved c =
    let n = c.loop-rule.rule in
    c.in_ok-push_rule.ensures ∙ ap (λ l. l ++ lines_text (kind_lines (n % 4) n)) (c.in_ok-push_head.ensures ∙ ap (λ l. l ++ lines_text (head_lines n)) c.loop-rule.invariant) ∙ generated_more n
