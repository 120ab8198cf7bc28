use Rattle.std.proofs.Common.{◌<◌, List, length, sym, subst}
use Rattle.lf_ast.specs.Rules.{RuleTree, rule_trees}
use Rattle.lf_worlds.specs.views.Tried.{IsReachAt, IsRowAt, Tried}
use Rattle.lf_worlds.proofs.PreparedFor.{has_reach, has_row, is_built_of, is_within, tells_selectors}
use Rattle.lf_worlds.proofs.Reaches.{is_reach}
use Rattle.lf_worlds.proofs.each_rule.Trials.tried.Goals as goal

pub new-requires-clause-prepared : goal.new-requires-clause-prepared
new-requires-clause-prepared c = c.self.invariant.3.prepared

pub new-requires-clause-forks : goal.new-requires-clause-forks
new-requires-clause-forks c =
    tells_selectors c.self.inside.universe.now c.self.inside.env.now c.self.inside.rules.now c.self.inside.prepared.forks.now c.self.inside.prepared c.self.invariant.3 c.self.invariant.2.forks

pub new-requires-clause-rule : goal.new-requires-clause-rule
new-requires-clause-rule c =
    is_within c.self.inside.universe.now c.self.inside.env.now c.self.inside.rules.now c.self.inside.prepared.forks.now c.self.inside.prepared c.self.invariant.3 c.args.i
    (subst (λ (w : Tried). c.args.i < length w.rules) (sym c.self.view_is) c.requires.rule)

pub new-requires-clause-reach : goal.new-requires-clause-reach
new-requires-clause-reach c =
    let trees : List RuleTree = rule_trees c.self.inside.rules.now in
    let of : IsReachAt trees c.args.i c.in_ok-reach.reach = is_reach trees c.args.i c.in_ok-reach.reach (c.in_ok-reach.ensures.members trees c.self.invariant.2.sources) c.in_ok-reach.ensures.ascending in
    has_reach c.self.inside.universe.now c.self.inside.env.now c.self.inside.rules.now c.self.inside.prepared.forks.now c.self.inside.prepared c.self.invariant.3 c.args.i c.in_ok-reach.reach of

pub new-requires-clause-row : goal.new-requires-clause-row
new-requires-clause-row c =
    has_row c.self.inside.universe.now c.self.inside.env.now c.self.inside.rules.now c.self.inside.prepared.forks.now c.self.inside.prepared c.self.invariant.3 c.args.i c.args.row.now
    (subst (λ (w : Tried). IsRowAt w.universe w.env (rule_trees w.rules) c.args.i c.args.row.now) (sym c.self.view_is) c.requires.row)

pub new-uniform-requires-clause-reach : goal.new-uniform-requires-clause-reach
new-uniform-requires-clause-reach c =
    let trees : List RuleTree = rule_trees c.self.inside.rules.now in
    is_reach trees c.args.i c.in_ok-reach.reach (c.in_ok-reach.ensures.members trees c.self.invariant.2.sources) c.in_ok-reach.ensures.ascending

pub new-trials-requires-clause-built : goal.new-trials-requires-clause-built
new-trials-requires-clause-built c =
    is_built_of c.self.inside.universe.now c.self.inside.env.now c.self.inside.rules.now c.self.inside.prepared.forks.now c.self.inside.prepared c.self.invariant.3 c.args.i c.in_ok-built.built c.in_ok-built.ensures

pub new-trials-requires-clause-forks : goal.new-trials-requires-clause-forks
new-trials-requires-clause-forks c = c.self.invariant.7
