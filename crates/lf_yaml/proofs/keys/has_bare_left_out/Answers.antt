use Rattle.std.proofs.Common.{sym, ◌∙◌}
use Rattle.lf_yaml.proofs.KeyText.{key-found, key-missing, not-plain}
use Rattle.lf_yaml.proofs.ShortKeys.{short-key}
use Rattle.lf_yaml.proofs.keys.has_bare_left_out.Goals as goal

pub returns-then-not-begins_plain : goal.returns-then-not-begins_plain
returns-then-not-begins_plain c = not-plain c.args.at c.args.text.now (sym (c.begins_plain.ensures c.args.at) ∙ c.if-not-begins_plain.true)

pub returns-in-Some : goal.returns-in-Some
returns-in-Some c =
    key-found c.args.at c.in-Some.place c.before-in-Some.result.now c.args.text.now c.in-Some.ensures.value c.before-in-Some.ensures (sym (c.begins_plain.ensures c.args.at) ∙ c.if-not-begins_plain.false)
    c.is_key_left_out.result (c.is_key_left_out.ensures c.args.at)

pub returns-in-None : goal.returns-in-None
returns-in-None c = key-missing c.args.at c.args.text.now c.in-None.ensures.value (sym (c.begins_plain.ensures c.args.at) ∙ c.if-not-begins_plain.false)

pub returns-then-text-le1024 : goal.returns-then-text-le1024
returns-then-text-le1024 c = short-key c.args.at c.args.text.now c.if-text-le1024.true (sym c.begins_null.ensures ∙ c.if-not-begins_null.true)
