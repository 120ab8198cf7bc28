use Rattle.std.proofs.Common.{◌≡◌, ◌&&◌, Bool, sym, ◌∙◌, ap, subst}
use Rattle.std.specs.Prelude.{IfOk}
use Rattle.std.specs.List.{filter}
use Rattle.lf_ast.specs.Labels.{Bytes, Labels}
use Rattle.lf_pattern.specs.Matching.{is_read, matches}
use Rattle.lf_semantics.proofs.PatternFaults.{unread_is}
use Rattle.lf_semantics.specs.Texts.{value_of}
use Rattle.lf_strict.specs.views.Selected.{as_wanted}
use Rattle.lf_strict.proofs.Selected.{none_kept, read}
use Rattle.lf_strict.proofs.selecting.tried.Goals as goal

pub returns-in-Ok : goal.returns-in-Ok
returns-in-Ok c =
    let m = c.args.matcher.now in
    let P : (Labels → Bool) → Type 0 = λ f. IfOk c.matching.result (λ kept. kept.items ≡ filter f c.args.samples.now) in
    let found : Labels → Bool = λ s. as_wanted c.args.wanted (matches m.value (value_of s m.label)) in
    let same : (s : Labels) → as_wanted c.args.wanted (matches c.in-Ok.pattern (value_of s m.label)) ≡ (is_read m.value && found s) =
    λ s. ap (λ (p : Bytes). as_wanted c.args.wanted (matches p (value_of s m.label))) c.in-Ok.ensures.text ∙ sym (ap (λ b. b && found s) (read m.value c.in-Ok.ensures.read)) in
    subst P (λ i s. same s i) c.matching.ensures

pub returns-in-Err-BadPattern : goal.returns-in-Err-BadPattern
returns-in-Err-BadPattern c =
    let m = c.args.matcher.now in
    let found : Labels → Bool = λ s. as_wanted c.args.wanted (matches m.value (value_of s m.label)) in
    let fails = (unread_is m.value).1 (c.in-Err-BadPattern.ensures.bad c.in-Err-BadPattern.field-0-is) in
    c.new-in-Err-BadPattern.ensures.items ∙ sym (none_kept (λ s. is_read m.value && found s) c.args.samples.now (λ s. ap (λ b. b && found s) fails))
