use Rattle.std.proofs.Common.{◌≡◌, ◌++◌, ℕ, List, true, ap, sym, ◌∙◌, subst}
use Rattle.std.specs.List.{list_all}
use Rattle.std.proofs.lemmas.Result.{IfOk-weaker}
use Rattle.std.specs.Char.{encode_utf8}
use Rattle.lf_report.specs.Shown.{shown}
use Rattle.lf_report.specs.views.PlainNames.{is_plain}
use Rattle.std.proofs.lemmas.Iterator.{YieldsList-from_chars}
use Rattle.std.proofs.lemmas.Iterator.Consumers.{YieldsList-end}
use Rattle.lf_report.proofs.ShownNames.{shown_more, shown_all, shown_plain}
use Rattle.lf_report.proofs.shown.shown_name.Goals as goal

pub loop-c-preserved : goal.loop-c-preserved
loop-c-preserved c = c.in_ok-push_shown.ensures ∙ ap (λ l. l ++ shown (encode_utf8 c.in-Some.c)) c.loop-c.invariant ∙ sym (shown_more c.loop-c.yielded c.in-Some.c)

pub returns : goal.returns
returns c =
    let all = YieldsList-end (YieldsList-from_chars c.args.name.now c.utf8.name cc) c.loop-c.yielded _ c.loop-c.yielded_by _ _ c.in-None.is c.next.ensures.steps in
    c.from_string.ensures ∙ c.loop-c.invariant ∙ shown_all c.args.name.now c.loop-c.yielded c.utf8.name all.0

pub returns-then-is_plain : goal.returns-then-is_plain
returns-then-is_plain c =
    let plain : list_all is_plain c.args.name.now ≡ true = subst (λ (l : List ℕ). list_all is_plain l ≡ true) c.as_bytes.ensures.value (sym c.is_plain.ensures ∙ c.if-is_plain.true) in
    IfOk-weaker c.of.result _ _ (λ t e. e ∙ sym (shown_plain c.args.name.now plain)) c.of.ensures
