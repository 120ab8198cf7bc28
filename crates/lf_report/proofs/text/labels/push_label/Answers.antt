use Rattle.std.proofs.Common.{◌≡◌, ◌++◌, [], ◌∷◌, ap, ◌∙◌, append_assoc, append-nil}
use Rattle.std.proofs.lemmas.Result.{on_ok_weaker}
use Rattle.lf_ast.specs.Labels.{Bytes}
use Rattle.lf_report.specs.Text.{verdict_text}
use Rattle.lf_report.specs.views.Heads.{label_head}
use Rattle.lf_report.proofs.text.labels.push_label.Goals as goal

-- a line that is put together of its head and of what it says
put_together : (text head said : Bytes) → (text ++ head) ++ (said ++ 10 ∷ []) ≡ text ++ (((head ++ said) ++ 10 ∷ []) ++ [])
put_together text head said = simp (append_assoc, append-nil)

pub returns : goal.returns
returns c = λ name is.
    let text = c.args.text.now in
    let said = verdict_text c.args.report.now c.args.verdict.now in
    on_ok_weaker c.push_verdict.result (λ e. e ∙ ap (λ (l : Bytes). l ++ (said ++ 10 ∷ [])) (c.in_ok-push.ensures.ok ∙ ap (λ (l : Bytes). text ++ l) is) ∙ put_together text (label_head name) said) c.push_verdict.ensures
