use Rattle.std.proofs.Common.{subst}
use Rattle.lf_checks.specs.views.Adding.{Adds}
use Rattle.lf_checks.specs.views.Sought.{IsOfRow, for_left, for_right}
use Rattle.std.proofs.lemmas.Result.{on_ok_weaker}
use Rattle.lf_checks.proofs.Added.{adds_both}
use Rattle.lf_checks.proofs.match_label.judge_sides.Goals as goal

pub returns : goal.returns
returns c =
    let u = c.args.universe.now in
    let m = c.args.matching.now in
    let old = c.args.found.now.items in
    let mid = c.judge_operand.new.found.items in
    let new = c.judge_operand-2.new.found.items in
    let left = c.args.left.now in
    let right = c.args.right.now in
    on_ok_weaker c.judge_operand-2.result
    (λ b. adds_both _ _ old mid new
    (subst (λ names. Adds (IsOfRow u left names (for_left m.group m.include)) old mid) c.names_at-on.ensures
    (subst (λ names. Adds (IsOfRow u left c.names_at-on.result.now names) old mid) c.for_left.ensures c.in_ok-judge_operand.ensures))
    (subst (λ names. Adds (IsOfRow u right names (for_right m.group m.include)) mid new) c.names_at-on.ensures
    (subst (λ names. Adds (IsOfRow u right c.names_at-on.result.now names) mid new) c.for_right.ensures b)))
    c.judge_operand-2.ensures
