use Rattle.std.proofs.Common.{◌++◌, ap, ◌∙◌, append_assoc}
use Rattle.std.proofs.lemmas.Result.{on_ok_weaker}
use Rattle.lf_report.proofs.text.labels.push_unresolved.Goals as goal

pub returns : goal.returns
returns c = on_ok_weaker c.push.result (λ e. e ∙ ap (λ l. c.args.text.now ++ l) (c.as_str.ensures.value ∙ c.in_ok-said.ensures.ok ∙ simp append_assoc)) c.push.ensures.ok
