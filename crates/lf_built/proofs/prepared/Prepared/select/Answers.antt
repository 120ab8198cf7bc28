use Rattle.std.proofs.Common.{Option, sym, ◌∙◌, ap, subst}
use Rattle.std.specs.Option.{option_copied}
use Rattle.std.specs.Borrow.{Bor}
use Rattle.lf_ast.specs.Labels.{Bytes}
use Rattle.lf_trials.specs.Building.{Building}
use Rattle.lf_built.specs.views.Indexed.{trees_of, universe_of}
use Rattle.lf_built.specs.views.Spots.{tree_at}
use Rattle.lf_built.specs.views.Works.{LeavesBehind, by_rule_of, selector_of}
use Rattle.lf_built.proofs.Unnamed.{class_of_sought, name_of_sought}
use Rattle.lf_built.proofs.prepared.Prepared.select.Goals as goal

pub series_unnamed-requires-clause-class : goal.series_unnamed-requires-clause-class
series_unnamed-requires-clause-class c =
    let p = c.args.self.now in
    class_of_sought (universe_of p) (trees_of p) (tree_at c.args.spot.now) c.sought_name-sought.result c.sought_name-sought.ensures

pub returns-in-Some-clause-goes : goal.returns-in-Some-clause-goes
returns-in-Some-clause-goes c whole D stands left =
    let p = c.args.self.now in
    let w = c.args.work.now in
    c.select_name.ensures.goes whole c.args.matchers.now D stands (subst (λ (o : Option (Bor Bytes)). LeavesBehind p whole (selector_of p w (option_copied o) c.args.matchers.now D) w) c.in-Some.is left)

pub returns-in_ok-series-in-None-clause-goes : goal.returns-in_ok-series-in-None-clause-goes
returns-in_ok-series-in-None-clause-goes c whole D stands left =
    let p = c.args.self.now in
    let w = c.args.work.now in
    let own = subst (λ (o : Option (Bor Bytes)). LeavesBehind p whole (selector_of p w (option_copied o) c.args.matchers.now D) w) c.in-None.is left in
    let unnamed = c.requires.unnamed (ap option_copied c.in-None.is) in
    let named = name_of_sought (universe_of p) (trees_of p) (tree_at c.args.spot.now) c.sought_name-sought.result c.args.matchers.now c.sought_name-sought.ensures unnamed in
    let made = c.in_ok-series-in-None.ensures (trees_of p) (by_rule_of p w) D (c.recorded-recorded.ensures ∙ c.requires.known.sources.names) named stands in
    c.add_found.ensures.goes p whole (subst (λ (o : Option Building). LeavesBehind p whole o w) (sym made) own)

pub returns-in_ok-series-in-None-clause-less : goal.returns-in_ok-series-in-None-clause-less
returns-in_ok-series-in-None-clause-less c = c.add_found.ensures.less c.args.self.now
