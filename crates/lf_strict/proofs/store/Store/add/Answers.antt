use Rattle.std.proofs.Common.{◌≡◌, ◌++◌, ◌∷◌, ◌+◌, [], List, append-nil, append_assoc, take, arith, sym, ap, ◌∙◌, subst}
use Rattle.std.proofs.lemmas.List.{take_all, take_more}
use Rattle.lf_ast.specs.Labels.{Labels}
use Rattle.lf_witness.specs.Strict.{AreSame}
use Rattle.lf_witness.proofs.SameSets.{chained, same_front, same_itself}
use Rattle.lf_strict.proofs.store.Store.add.Goals as goal

pub loop-sample-init : goal.loop-sample-init
loop-sample-init c = subst (λ (l : List Labels). AreSame l c.args.self.now) (sym (append-nil c.args.self.now)) (same_itself c.args.self.now)

pub loop-sample-preserved : goal.loop-sample-preserved
loop-sample-preserved c =
    let xs : List Labels = c.args.samples.now in
    let k = c.loop-sample.sample-index in
    let x = c.sample-item.result in
    let P : List Labels = c.args.self.now in
    let old : List Labels = c.loop-sample.self in
    let new : List Labels = c.put.new.self in
    let put : AreSame (old ++ x ∷ []) new = subst (λ (y : Labels). AreSame (old ++ y ∷ []) new) c.in_ok-copy.ensures c.in_ok-put.ensures in
    let more : P ++ take (k + 1) xs ≡ (P ++ take k xs) ++ x ∷ [] = ap (λ (l : List Labels). P ++ l) (take_more xs k x c.loop-sample-test.true ∙ ap (λ (y : Labels). take k xs ++ y ∷ []) (sym c.sample-item.is)) ∙ sym (append_assoc P (take k xs) (x ∷ [])) in
    subst (λ (l : List Labels). AreSame l new) (sym more) (chained ((P ++ take k xs) ++ x ∷ []) (old ++ x ∷ []) new (same_front (P ++ take k xs) old (x ∷ []) c.loop-sample.invariant) put)

pub returns : goal.returns
returns c =
    let xs : List Labels = c.args.samples.now in
    subst (λ (l : List Labels). AreSame (c.args.self.now ++ l) c.loop-sample.self) (take_all c.loop-sample.sample-index xs (omega arith)) c.loop-sample.invariant
