use Rattle.std.proofs.Common.{Option, sym, ◌∙◌, subst}
use Rattle.lf_ast.specs.Labels.{Bytes}
use Rattle.lf_ast.specs.Tree.{Tree}
use Rattle.lf_trials.specs.Building.{Building}
use Rattle.lf_built.specs.views.Indexed.{env_of, forks_of, trees_of, universe_of}
use Rattle.lf_built.specs.views.Spots.{tree_at}
use Rattle.lf_built.specs.views.Works.{LeavesBehind, by_rule_of, expression_of, selector_of}
use Rattle.lf_semantics.specs.Environments.{Covers}
use Rattle.lf_built.proofs.KnownNames.{selected_name_known}
use Rattle.lf_built.proofs.StandingParts.{covered}
use Rattle.lf_built.proofs.Tasks.{of_parts}
use Rattle.lf_built.proofs.prepared.Prepared.build_from.Goals as goal

pub select-requires-clause-names : goal.select-requires-clause-names
select-requires-clause-names c n is =
    let p = c.args.self.now in
    let s = c.in-Some.ensures.some in
    let known = subst (λ (t : Tree). Covers (universe_of p) t) s.2 (covered p c.requires.known c.args.spot.now c.requires.spot) in
    selected_name_known (universe_of p) c.requires.known.within c.in-Some.name.now c.in-Some.matchers.now s.0 s.1 n known (sym c.selected_name-name.ensures ∙ is)

pub select-requires-clause-unnamed : goal.select-requires-clause-unnamed
select-requires-clause-unnamed c is = (c.in-Some.name.now, c.in-Some.ensures.some, sym c.selected_name-name.ensures ∙ is)

pub returns-in-Some-clause-goes : goal.returns-in-Some-clause-goes
returns-in-Some-clause-goes c whole D stands left =
    let p = c.args.self.now in
    let w = c.args.work.now in
    let s = c.in-Some.ensures.some in
    let own = subst (λ (t : Tree). LeavesBehind p whole (expression_of p w t D) w) s.2 left in
    c.select.ensures.goes whole D stands (subst (λ (o : Option Bytes). LeavesBehind p whole (selector_of p w o c.in-Some.matchers.now D) w) (sym c.selected_name-name.ensures) own)

pub returns-in-None-clause-goes : goal.returns-in-None-clause-goes
returns-in-None-clause-goes c whole D stands left =
    let p = c.args.self.now in
    let w = c.args.work.now in
    let is = of_parts (universe_of p) (env_of p) (trees_of p) (forks_of p) (by_rule_of p w) (tree_at c.args.spot.now) D c.in-None.ensures.none in
    c.expand.ensures.goes c.args.most whole D c.requires.few stands (subst (λ (o : Option Building). LeavesBehind p whole o w) is left)
