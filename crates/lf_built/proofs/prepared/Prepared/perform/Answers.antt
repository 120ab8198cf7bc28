use Rattle.std.proofs.Common.{◌≡◌, ◌≤◌, ◌+◌, true, ◌∷◌, ap, subst, arith}
use Rattle.std.proofs.lemmas.Result.{IfOk-weaker}
use Rattle.lf_built.specs.declared.work.Pending.{Pending}
use Rattle.lf_built.specs.views.Works.{Leaves, effort, stack_of, weight}
use Rattle.lf_built.proofs.prepared.Prepared.perform.Goals as goal

pub returns-in-Finish-clause-goes : goal.returns-in-Finish-clause-goes
returns-in-Finish-clause-goes c whole left =
    c.finish.ensures.goes c.args.self.now c.args.most whole c.requires.few (subst (λ (t : Pending). Leaves c.args.self.now whole (t ∷ stack_of c.args.work.now) c.args.work.now) c.in-Finish.is left)

pub returns-in-Finish-clause-less : goal.returns-in-Finish-clause-less
returns-in-Finish-clause-less c =
    let p = c.args.self.now in
    let one : weight c.args.task ≡ 1 = ap weight c.in-Finish.is in
    IfOk-weaker c.finish.result (λ goes. goes ≡ true → effort p c.args.most c.finish.new.work ≤ effort p c.args.most c.args.work.now)
    (λ goes. goes ≡ true → effort p c.args.most c.finish.new.work + 1 ≤ effort p c.args.most c.args.work.now + weight c.args.task) (λ goes h is. let k = h is in omega (arith, k, one)) (c.finish.ensures.less p c.args.most)
