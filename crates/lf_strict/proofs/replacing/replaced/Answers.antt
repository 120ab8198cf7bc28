use Rattle.std.proofs.Common.{List, ◌∙◌, ap, subst}
use Rattle.std.specs.Prelude.{IfOk}
use Rattle.lf_ast.specs.Labels.{Bytes, Labels}
use Rattle.lf_pattern.specs.Replacement.{IsPlainReplacement}
use Rattle.lf_semantics.specs.Evaluation.{IsReplaced}
use Rattle.lf_semantics.specs.Strings.{Replacing}
use Rattle.lf_witness.specs.Strict.{MadeApart, StrictlyEvaluates}
use Rattle.lf_witness.specs.StrictRuns.{InOrder, IsStrictAnswer}
use Rattle.lf_strict.proofs.Replacements.{plain_answer}
use Rattle.lf_strict.proofs.replacing.replaced.Goals as goal

pub returns-in-Some : goal.returns-in-Some
returns-in-Some c = λ W e given.
    let P : List Labels = c.in-Some.samples in
    let is = c.in_ok-how.ensures in
    let yes = c.if-not-branch.false in
    let plain = subst (λ (x : Bytes). IsPlainReplacement x) (ap (λ (p : Replacing). p.replacement) c.how.view_is ∙ ap (λ (p : Replacing). p.replacement) is) (c.in_ok-is_plain_replacement.ensures.0 yes) in
    plain_answer _ (StrictlyEvaluates W e) P c.replaced_apart.result plain (subst (IsStrictAnswer W e) c.in-Some.is given)
    (subst (λ (p : Replacing). IfOk c.replaced_apart.result (InOrder (MadeApart (IsReplaced p) P))) is c.replaced_apart.ensures)
