use Rattle.std.proofs.Common.{◌++◌, List, append-nil, ◌∙◌, ap, subst}
use Rattle.lf_ast.specs.Labels.{Labels}
use Rattle.lf_witness.specs.Strict.{AreSame}
use Rattle.lf_witness.proofs.SameSets.{chained, same_itself}
use Rattle.lf_strict.proofs.SampleSets.{taken_over}
use Rattle.lf_strict.proofs.store.Store.take_listed.Goals as goal

pub loop-sample-init : goal.loop-sample-init
loop-sample-init c = same_itself (c.args.self.now ++ c.args.samples)

pub loop-sample-preserved : goal.loop-sample-preserved
loop-sample-preserved c =
    let old : List Labels = c.loop-sample.self in
    let samples : List Labels = c.loop-sample.samples in
    let new : List Labels = c.put.new.self in
    let front : List Labels = c.pop.new.self in
    chained (c.args.self.now ++ c.args.samples) (old ++ samples) (new ++ front) c.loop-sample.invariant
    (taken_over old new samples front c.in-Some.sample c.in-Some.ensures.some c.in_ok-put.ensures)

pub returns : goal.returns
returns c =
    let W : List Labels = c.loop-sample.self in
    subst (AreSame (c.args.self.now ++ c.args.samples)) (ap (λ (l : List Labels). W ++ l) c.in_default.ensures.none.0 ∙ append-nil W) c.loop-sample.invariant
