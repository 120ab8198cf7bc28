use Rattle.std.proofs.Common.{◌++◌, ◌∷◌, [], List, Result, Ok, Err, append_assoc, sym, subst}
use Rattle.std.specs.Prelude.{OnOk}
use Rattle.lf_ast.specs.Labels.{Labels}
use Rattle.lf_witness.specs.Strict.{AreSame}
use Rattle.lf_strict.proofs.SampleSets.{few_more, others_more}
use Rattle.lf_strict.proofs.store.Store.put.Goals as goal

pub returns-then-len-lt-FEW : goal.returns-then-len-lt-FEW
returns-then-len-lt-FEW c =
    let given : List Labels = c.self.inside.given.now in
    let few : List Labels = c.self.inside.few.items in
    let others : List Labels = c.self.inside.others in
    let s : Labels = c.args.sample in
    subst (λ (l : List Labels). AreSame (c.args.self.now ++ s ∷ []) ((given ++ l) ++ others)) (sym c.in_ok-push.ensures.items)
    (subst (λ (l : List Labels). AreSame (c.args.self.now ++ s ∷ []) (l ++ others)) (append_assoc given few (s ∷ []))
    (subst (λ (l : List Labels). AreSame (l ++ s ∷ []) (((given ++ few) ++ s ∷ []) ++ others)) c.self.view_is (few_more s (given ++ few) others)))

done_so : {E : Type 0} (r : Result (Unit {0}) E) (P Q : Type 0) → (P → Q) → OnOk r P → OnOk r Q
done_so (Ok u) P Q from p = from p
done_so (Err e) P Q from p = tt

pub returns : goal.returns
returns c =
    let before : List Labels = c.self.inside.given.now ++ c.self.inside.few.items in
    let others : List Labels = c.self.inside.others in
    let s : Labels = c.args.sample in
    done_so c.put.result (AreSame (others ++ s ∷ []) c.put.new.self) (AreSame (c.args.self.now ++ s ∷ []) (before ++ c.put.new.self))
    (λ same. subst (λ (l : List Labels). AreSame (l ++ s ∷ []) (before ++ c.put.new.self)) c.self.view_is (others_more s before others c.put.new.self same)) c.put.ensures
