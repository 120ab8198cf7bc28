use Rattle.std.proofs.Common.{rules, ap, ap₂, ◌≡◌, ◌∙◌, true, codes}
use Rattle.clap.specs.Words.{Shape, app_of, rule_of, new_app, with_rule}
use Rattle.clap.specs.Simple.{app_of_fields, on_top}
use Rattle.lf_words.specs.views.Commands.{valued_rule, labels_rule, files_rule}
use Rattle.lf_words.proofs.lint.lint_command.Goals as goal

pub returns : goal.returns
returns c =
    let workers_rule = valued_rule (codes "workers") in
    let format_rule = valued_rule (codes "format") in
    let workers_is : rule_of c.long-workers.result ≡ workers_rule = search rules in
    let format_is : rule_of c.long-format.result ≡ format_rule = search rules in
    let labels_is : rule_of c.action-labels.result ≡ labels_rule = search rules in
    let files_is : rule_of c.required-files.result ≡ files_rule = search rules in
    let one : app_of c.in_ok-arg.field-0 ≡ with_rule (new_app (codes "lint")) workers_rule = c.in_ok-arg.ensures.shape (search rules) ∙ ap₂ with_rule c.new-5.ensures.app workers_is in
    let two : app_of c.in_ok-arg-2.field-0 ≡ with_rule (with_rule (new_app (codes "lint")) workers_rule) format_rule = c.in_ok-arg-2.ensures.shape (search rules) ∙ ap₂ with_rule one format_is in
    let three : app_of c.in_ok-arg-3.field-0 ≡ with_rule (with_rule (with_rule (new_app (codes "lint")) workers_rule) format_rule) labels_rule = c.in_ok-arg-3.ensures.shape (search rules) ∙ ap₂ with_rule two labels_is in
    let four = c.in_ok-command.ensures.shape (search rules) ∙ ap₂ with_rule three files_is in
    ap app_of_fields c.disable_help_flag.ensures ∙ ap (on_top (λ (s : Shape). record s { disable_help_flag = true })) four
