use Rattle.std.proofs.Common.{[], List, Bor, get_or, ◌∙◌, ap, sym}
use Rattle.std.proofs.lemmas.List.Sums.{fold_more}
use Rattle.lf_ast.specs.Labels.{Bytes}
use Rattle.lf_classes.specs.views.TextSets.{with_text}
use Rattle.lf_classes.proofs.read_patterns.ReadPatterns.learn.Goals as goal

pub loop-pattern-preserved : goal.loop-pattern-preserved
loop-pattern-preserved c =
    let none : Bor Bytes = record { ref_ptr = (0, 0); now = [] } in
    let patterns = c.args.patterns.now in
    let k = c.loop-pattern.pattern-index in
    c.in_ok-learn_one.ensures ∙ ap (λ (texts : List Bytes). with_text texts (get_or patterns k none).now) c.loop-pattern.invariant
    ∙ sym (fold_more (λ (texts : List Bytes) (pattern : Bor Bytes). with_text texts pattern.now) c.args.self.now patterns k none c.loop-pattern-test.true)
