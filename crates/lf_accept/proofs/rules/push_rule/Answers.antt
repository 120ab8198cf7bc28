use Rattle.std.proofs.Common.{rules}
use Rattle.lf_accept.proofs.rules.push_rule.Goals as goal

pub returns-clause-found : goal.returns-clause-found
returns-clause-found c = (_, c.in_ok-push.ensures.ok, search rules, search rules)
