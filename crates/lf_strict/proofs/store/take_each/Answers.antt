use Rattle.std.proofs.Common.{◌++◌, ◌∷◌, [], List, append-nil, sym, ◌∙◌, ap, subst}
use Rattle.lf_ast.specs.Labels.{Labels}
use Rattle.lf_witness.specs.Strict.{AreSame}
use Rattle.lf_witness.proofs.SameSets.{chained, same_itself}
use Rattle.lf_strict.proofs.SampleSets.{taken_over}
use Rattle.lf_strict.proofs.store.take_each.Goals as goal

pub loop-sample-init : goal.loop-sample-init
loop-sample-init c = same_itself (c.args.all.now.items ++ c.args.samples)

pub loop-sample-preserved : goal.loop-sample-preserved
loop-sample-preserved c =
    let old : List Labels = c.loop-sample.all.items in
    let samples : List Labels = c.loop-sample.samples in
    let new : List Labels = c.push.new.self.items in
    let front : List Labels = c.pop.new.self in
    let x : Labels = c.in-Some.sample in
    chained (c.args.all.now.items ++ c.args.samples) (old ++ samples) (new ++ front) c.loop-sample.invariant
    (taken_over old new samples front x c.in-Some.ensures.some (subst (AreSame (old ++ x ∷ [])) (sym c.in_ok-push.ensures.items) (same_itself (old ++ x ∷ []))))

pub returns : goal.returns
returns c =
    let all : List Labels = c.loop-sample.all.items in
    subst (AreSame (c.args.all.now.items ++ c.args.samples)) (ap (λ (l : List Labels). all ++ l) c.in_default.ensures.none.0 ∙ append-nil all) c.loop-sample.invariant
