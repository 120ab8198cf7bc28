use Rattle.std.proofs.Common.{◌++◌, ◌∷◌, [], Global, List, Vec, OnOk, sym, ap, ◌∙◌, subst}
use Rattle.lf_ast.specs.Labels.{Labels}
use Rattle.lf_ast.specs.declared.label_set.LabelSet.{LabelSet}
use Rattle.lf_witness.specs.Strict.{AreSame}
use Rattle.lf_strict.specs.views.Lending.{samples_held}
use Rattle.lf_strict.proofs.store.Store.take.Goals as goal

pub returns-in_ok-copy-in-Lent : goal.returns-in_ok-copy-in-Lent
returns-in_ok-copy-in-Lent c =
    let is = ap (λ (s : Labels). s ∷ []) c.in_ok-copy-in-Lent.ensures ∙ sym (ap samples_held c.in-Lent.is) ∙ c.samples.view_is in
    subst (λ (l : List Labels). OnOk c.put.result (AreSame (c.args.self.now ++ l) c.put.new.self)) is c.put.ensures

pub returns-in-Alone : goal.returns-in-Alone
returns-in-Alone c =
    let is = ap (λ (s : Labels). s ∷ []) c.in-Alone.sample-is ∙ sym (ap samples_held c.in-Alone.is) ∙ c.samples.view_is in
    subst (λ (l : List Labels). OnOk c.put-in-Alone.result (AreSame (c.args.self.now ++ l) c.put-in-Alone.new.self)) is c.put-in-Alone.ensures

pub returns-in-Listed : goal.returns-in-Listed
returns-in-Listed c =
    let is = c.from_vec.ensures ∙ ap (λ (v : Vec LabelSet Global). v.items) c.in-Listed.samples-is ∙ sym (ap samples_held c.in-Listed.is) ∙ c.samples.view_is in
    subst (λ (l : List Labels). OnOk c.take_listed.result (AreSame (c.args.self.now ++ l) c.take_listed.new.self)) is c.take_listed.ensures
