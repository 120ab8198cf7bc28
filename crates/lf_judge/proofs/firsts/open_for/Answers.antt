use Rattle.std.proofs.lemmas.Result.{IfOk-weaker}
use Rattle.lf_open.specs.OpenList.{IsFirstOpen}
use Rattle.lf_open.specs.views.Firsts.{rules_in}
use Rattle.lf_judge.proofs.firsts.open_for.Goals as goal

pub returns-then-has_unresolved-clause-first : goal.returns-then-has_unresolved-clause-first
returns-then-has_unresolved-clause-first c = IfOk-weaker c.first.result (IsFirstOpen (rules_in c.args.open_firsts.now) c.args.number) _ (λ first is some. is) c.first.ensures.first
