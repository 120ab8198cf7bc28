use Rattle.std.proofs.Common.{◌≡◌, ◌-◌, List, [], ◌++◌, take, reverse, Option, refl, ◌∙◌, ap, arith}
use Rattle.lf_trials.specs.Building.{Building}
use Rattle.lf_built.specs.declared.work.Pending.{Pending}
use Rattle.lf_built.specs.declared.work.Work.{Work}
use Rattle.lf_built.specs.views.Works.{Builds}
use Rattle.lf_built.proofs.Efforts.{popped_less}
use Rattle.lf_built.proofs.Works.{done, goes_false, goes_true, popped, popped_stack}
use Rattle.lf_built.proofs.prepared.Prepared.build.Goals as goal

pub perform-requires-clause-leaves : goal.perform-requires-clause-leaves
perform-requires-clause-leaves c = (
  c.requires.builds.0,
  popped c.args.self.now c.requires.builds.0 c.in-Some.task c.tasks.work (record { stack = c.pop.new.self; marked = c.tasks.work.marked; unmarked = c.tasks.work.unmarked; made = c.tasks.work.made }) (popped_stack c.args.self.now _ _ c.in-Some.task c.in-Some.ensures.items) refl refl refl (c.tasks.invariant.builds c.requires.builds.0 c.requires.builds.1),
)

pub returns-then-not-branch : goal.returns-then-not-branch
returns-then-not-branch c whole builds =
    let p = c.args.self.now in
    let left = popped p whole c.in-Some.task c.tasks.work (record { stack = c.pop.new.self; marked = c.tasks.work.marked; unmarked = c.tasks.work.unmarked; made = c.tasks.work.made }) (popped_stack c.args.self.now _ _ c.in-Some.task c.in-Some.ensures.items) refl refl refl (c.tasks.invariant.builds whole builds) in
    goes_false p c.args.most whole c.perform.new.work c.in_ok-perform-in-Some.field-0 c.if-not-branch.true (c.in_ok-perform-in-Some.ensures.goes whole left)

pub tasks-preserved : goal.tasks-preserved
tasks-preserved c =
    let p = c.args.self.now in
    let left = λ (whole : Option Building) (builds : Builds p whole c.args.work).
    goes_true p c.args.most whole c.perform.new.work c.in_ok-perform-in-Some.field-0 c.if-not-branch.false
    (c.in_ok-perform-in-Some.ensures.goes whole (popped p whole c.in-Some.task c.tasks.work (record { stack = c.pop.new.self; marked = c.tasks.work.marked; unmarked = c.tasks.work.unmarked; made = c.tasks.work.made }) (popped_stack c.args.self.now _ _ c.in-Some.task c.in-Some.ensures.items) refl refl refl (c.tasks.invariant.builds whole builds))) in
    record { few = (left c.requires.builds.0 c.requires.builds.1).1; builds = λ whole builds. (left whole builds).0 }

pub returns-in-None : goal.returns-in-None
returns-in-None c whole builds =
    let none : c.tasks.work.stack.items ≡ [] = c.in-None.ensures.items ∙ ap (λ (l : List Pending). l ++ []) (c.in-None.ensures.rest ∙ ap (λ n. take (n - 1) c.tasks.work.stack.items) c.in-None.ensures.cases.0) in
    (done c.args.self.now whole c.tasks.work (ap reverse none) (c.tasks.invariant.builds whole builds), c.tasks.invariant.few)

pub tasks-smaller : goal.tasks-smaller
tasks-smaller c =
    let p = c.args.self.now in
    let front : Work = (record { stack = c.pop.new.self; marked = c.tasks.work.marked; unmarked = c.tasks.work.unmarked; made = c.tasks.work.made }) in
    let a = popped_less p c.args.most c.in-Some.task c.tasks.work front refl (popped_stack p _ _ c.in-Some.task c.in-Some.ensures.items) in
    let b = c.in_ok-perform-in-Some.ensures.less c.if-not-branch.false in
    omega (arith, a, b)
