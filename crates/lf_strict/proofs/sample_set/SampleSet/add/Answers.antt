use Rattle.std.proofs.Common.{◌++◌, ◌∷◌, [], List, sym, subst}
use Rattle.std.specs.BTreeSet.{insert_key}
use Rattle.lf_ast.specs.Labels.{Labels}
use Rattle.lf_witness.specs.Ascending.{labels_cmp}
use Rattle.lf_witness.specs.Strict.{AreSame}
use Rattle.lf_strict.proofs.SampleSets.{pushed_with, with_key}
use Rattle.lf_strict.proofs.sample_set.SampleSet.add.Goals as goal

pub returns-clause-ok : goal.returns-clause-ok
returns-clause-ok c =
    let old : List Labels = c.self.inside.samples.keys in
    let s = c.args.sample in
    subst (λ (l : List Labels). AreSame (c.args.self.now ++ s ∷ []) l) (sym c.in_ok-insert.ensures.keys)
    (subst (λ (l : List Labels). AreSame (l ++ s ∷ []) (insert_key labels_cmp old s)) c.self.view_is (pushed_with s old (insert_key labels_cmp old s) (with_key s old)))
