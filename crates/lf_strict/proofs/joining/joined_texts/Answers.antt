use Rattle.std.proofs.Common.{◌++◌, sym, ◌∙◌, ap, ap₂, eqb, cond, []}
use Rattle.lf_ast.specs.Labels.{Bytes}
use Rattle.lf_semantics.specs.Texts.{value_of}
use Rattle.lf_strict.proofs.Joins.{joined_more}
use Rattle.lf_strict.proofs.joining.joined_texts.Goals as goal

pub loop-k-preserved : goal.loop-k-preserved
loop-k-preserved c =
    let s = c.args.sample.now in
    let k = c.loop-k.k in
    let separator = c.args.separator.now in
    let source = c.index-sources-k.result in
    let between = λ (x : Bytes) (t : Bytes). x ++ cond (eqb k 0) [] separator ++ t in
    c.in_ok-push-2.ensures.ok
    ∙ ap (λ (x : Bytes). x ++ c.text_of-in-loop-k.result.now) (c.in_ok-push.ensures.ok ∙ ap (λ (x : Bytes). c.loop-k.text ++ x) c.behind.ensures)
    ∙ ap₂ between c.loop-k.invariant (c.text_of-in-loop-k.ensures ∙ ap (value_of s) c.text_of.ensures)
    ∙ sym (joined_more separator (value_of s) c.args.sources.now k source c.loop-k-test.true c.index-sources-k.is)
