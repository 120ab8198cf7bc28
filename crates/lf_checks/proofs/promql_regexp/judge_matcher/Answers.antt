use Rattle.std.proofs.Common.{sym, ◌∙◌}
use Rattle.std.proofs.lemmas.Result.{on_ok_weaker}
use Rattle.lf_checks.proofs.PatternLaws.{of_matcher}
use Rattle.lf_checks.proofs.promql_regexp.judge_matcher.Goals as goal

pub returns : goal.returns
returns c = on_ok_weaker c.tell_if-2.result (λ a. of_matcher c.args.matcher.now c.in_ok-plain.plain c.is_anchored-anchored.result c.args.found.now.items c.tell_if.new.found.items c.tell_if-2.new.found.items (sym c.takes_pattern.ensures ∙ c.if-not-takes_pattern.false) c.in_ok-plain.ensures (rw (c.as_bytes.ensures.value, c.as_str.ensures) at c.is_anchored-anchored.ensures) c.in_ok-tell_if.ensures a) c.tell_if-2.ensures
