use Rattle.lf_checks.proofs.promql_regexp.judge_part.Goals as goal

pub returns-in-Selector : goal.returns-in-Selector
returns-in-Selector c = rw (c.in-Selector.is, ← c.as_slice.ensures) c.judge_matchers.ensures
