use Rattle.std.proofs.Common.{◌≡◌, Bool, true, false, cond, [], Option, Some, None, sym, ◌∙◌, subst}
use Rattle.std.specs.Prelude.{option_map}
use Rattle.std.specs.Str.{bytes_eq}
use Rattle.lf_ast.specs.Labels.{Bytes}
use Rattle.lf_trials.specs.Building.{Building, one_more}
use Rattle.lf_trials.specs.Reached.{is_recorded}
use Rattle.lf_built.specs.views.Indexed.{trees_of, universe_of}
use Rattle.lf_built.specs.views.Works.{LeavesBehind, by_rule_of, selector_of}
use Rattle.lf_built.proofs.prepared.Prepared.select_name.Goals as goal

pub returns-then-is_recorded-clause-goes : goal.returns-then-is_recorded-clause-goes
returns-then-is_recorded-clause-goes c whole matchers D stands left =
    let p = c.args.self.now in
    let w = c.args.work.now in
    let name : Bytes = c.as_str-name.result.now in
    let told = c.is_recorded.ensures (trees_of p) (c.recorded.ensures ∙ c.requires.known.sources.names) in
    let is : is_recorded (trees_of p) name ≡ true = sym told ∙ c.if-is_recorded.true in
    let own = subst (λ (n : Bytes). LeavesBehind p whole (selector_of p w (Some n) matchers D) w) (sym c.as_str-name.ensures) left in
    c.pick.ensures.goes whole D stands (subst (λ (b : Bool). LeavesBehind p whole (cond b (option_map one_more (by_rule_of p w name D)) (cond (bytes_eq name []) None (Rattle.lf_trials.specs.Built.series_named (universe_of p) (trees_of p) (Some name) D))) w) is own)

pub returns-clause-goes : goal.returns-clause-goes
returns-clause-goes c whole matchers D stands left =
    let p = c.args.self.now in
    let w = c.args.work.now in
    let name : Bytes = c.as_str-name.result.now in
    let told = c.is_recorded.ensures (trees_of p) (c.recorded.ensures ∙ c.requires.known.sources.names) in
    let is : is_recorded (trees_of p) name ≡ false = sym told ∙ c.if-is_recorded.false in
    let own = subst (λ (n : Bytes). LeavesBehind p whole (selector_of p w (Some n) matchers D) w) (sym c.as_str-name.ensures) left in
    let made = c.in_ok-series.ensures (trees_of p) (by_rule_of p w) matchers D is stands in
    c.add_found.ensures.goes p whole (subst (λ (o : Option Building). LeavesBehind p whole o w) (sym made) own)

pub returns-clause-less : goal.returns-clause-less
returns-clause-less c = c.add_found.ensures.less c.args.self.now
