use Rattle.std.proofs.Common.{List, Some, sym, ap, subst, ◌∙◌}
use Rattle.std.specs.List.{AllZip}
use Rattle.lf_ast.specs.Labels.{Bytes, Labels}
use Rattle.lf_pattern.specs.Matching.{IsRead}
use Rattle.lf_semantics.specs.Evaluation.{IsReplaced}
use Rattle.lf_semantics.specs.Strings.{Replacing}
use Rattle.lf_witness.specs.Strict.{MadeApart}
use Rattle.lf_witness.specs.StrictRuns.{InOrder}
use Rattle.lf_strict.proofs.Replacements.{replaced_apart, stay_apart, unread_fails}
use Rattle.lf_strict.proofs.replacing.Replacing.replaced_apart.Goals as goal

pub returns-in_ok-made-in-Ok : goal.returns-in_ok-made-in-Ok
returns-in_ok-made-in-Ok c =
    let p = c.args.self.now in
    let made = subst (λ (l : List Labels). AllZip (IsReplaced p) l c.in_ok-made-in-Ok.made.items) c.as_slice.ensures c.in_ok-made-in-Ok.ensures in
    replaced_apart p c.requires.plain c.args.samples.now c.in_ok-made-in-Ok.made.items c.requires.ascending made c.apart.result c.apart.ensures

pub returns-in_ok-copied-in-Err-BadPattern : goal.returns-in_ok-copied-in-Err-BadPattern
returns-in_ok-copied-in-Err-BadPattern c =
    let p = c.args.self.now in
    let P : List Labels = c.args.samples.now in
    let unread = subst (λ (x : Bytes). IsRead x → ⊥) (ap (λ (p : Replacing). p.pattern) c.self.view_is) (c.in-Err-BadPattern.ensures.bad c.in-Err-BadPattern.field-0-is) in
    subst (λ (l : List Labels). InOrder (MadeApart (IsReplaced p) P) (Some l)) (sym (c.in_ok-copied-in-Err-BadPattern.ensures ∙ c.as_slice-in-Err-BadPattern.ensures)) (stay_apart p (unread_fails p.pattern unread) P c.requires.ascending)
