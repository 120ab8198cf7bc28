use Rattle.std.proofs.Common.{◌≡◌, ◌++◌, ◌∷◌, [], List, Some, sym, ◌∙◌, ap, subst}
use Rattle.std.specs.Prelude.{option_map, slice_get}
use Rattle.std.proofs.lemmas.List.{length-map}
use Rattle.std.proofs.lemmas.Option.{same_Some, slice_get-map}
use Rattle.lf_ast.specs.Rules.{RuleTree, rule_tree}
use Rattle.lf_ast.specs.Tree.{Tree, nodes}
use Rattle.lf_trials.specs.Building.{Building}
use Rattle.lf_built.specs.declared.work.Pending.{Pending}
use Rattle.lf_built.specs.views.Indexed.{trees_of}
use Rattle.lf_built.specs.views.Places.{StandsFrom}
use Rattle.lf_built.proofs.BegunWork.{begun}
use Rattle.lf_built.proofs.Places.{at_first}
use Rattle.lf_built.proofs.built.begin.Goals as goal

alone : (task : Pending) (none stack : List Pending) → none ≡ [] → stack ≡ none ++ task ∷ [] → stack ≡ task ∷ []
alone task none stack empty pushed = pushed ∙ ap (λ (l : List Pending). l ++ task ∷ []) empty

pub returns : goal.returns
returns c D r stands is =
    let p = c.args.prepared.now in
    let own : slice_get (trees_of p) c.args.number ≡ Some (rule_tree c.get.result.now) = slice_get-map rule_tree p.rules.now c.args.number ∙ ap (option_map rule_tree) c.get.ensures.value in
    let same : rule_tree c.get.result.now ≡ r = same_Some (rule_tree c.get.result.now) r (sym own ∙ is) in
    let expr = ap (λ (x : RuleTree). x.expr) same in
    let stacked = alone _ c.in_ok-stack.stack.items c.push.new.self.items c.in_ok-stack.ensures.items c.in_ok-push.ensures.items in
    let at = subst (λ (t : Tree). StandsFrom (nodes r.expr) 0 t) (sym expr) (at_first r.expr) in (
      begun p c.args.number r D _ c.args.texts (record { stack = c.push.new.self; marked = c.in_ok-marked.marked; unmarked = c.len.result; made = c.nothing.result }) stacked (r, is, at) expr stands c.in_ok-marked.ensures
          (c.len.ensures ∙ sym (length-map p.rules.now rule_tree)) c.nothing.ensures,
      ap (λ (b : Building). b.selectors) c.nothing.ensures,
    )
