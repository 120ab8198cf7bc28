use Rattle.std.proofs.Common.{◌≡◌, ◌<◌, Some, length, sym, subst, slice_get}
use Rattle.std.specs.Prelude.{IfOk}
use Rattle.std.proofs.lemmas.Result.{IfOk-weaker}
use Rattle.lf_ast.specs.Rules.{rule_trees}
use Rattle.lf_classes.specs.Limits.{IsWithin}
use Rattle.lf_semantics.specs.Environments.{CoversRules, IsEnvironment, IsLeast, rule_row}
use Rattle.lf_semantics.specs.Listing.{IsListing}
use Rattle.lf_built.specs.views.Indexed.{env_of, universe_of}
use Rattle.lf_worlds.specs.views.Tried.{Tried}
use Rattle.lf_worlds.proofs.PreparedFor.{is_within, own_row, own_tree}
use Rattle.lf_worlds.proofs.each_rule.Trials.row.Goals as goal

pub rule_row-requires-clause-known : goal.rule_row-requires-clause-known
rule_row-requires-clause-known c = c.self.invariant.3.prepared

pub rule_row-requires-clause-rule : goal.rule_row-requires-clause-rule
rule_row-requires-clause-rule c =
    is_within c.self.inside.universe.now c.self.inside.env.now c.self.inside.rules.now c.self.inside.prepared.forks.now c.self.inside.prepared c.self.invariant.3 c.args.i
    (subst (λ (w : Tried). c.args.i < length w.rules) (sym c.self.view_is) c.requires)

pub returns-clause-within : goal.returns-clause-within
returns-clause-within c = subst (λ (w : Tried). IsWithin w.universe) c.self.view_is c.self.invariant.5

pub returns-clause-listing : goal.returns-clause-listing
returns-clause-listing c = subst (λ (w : Tried). IsListing w.universe) c.self.view_is c.self.invariant.5.listing

pub returns-clause-environment : goal.returns-clause-environment
returns-clause-environment c = subst (λ (w : Tried). IsEnvironment w.universe w.env) c.self.view_is c.self.invariant.1

pub returns-clause-covers : goal.returns-clause-covers
returns-clause-covers c = subst (λ (w : Tried). CoversRules w.universe (rule_trees w.rules)) c.self.view_is c.self.invariant.0

pub returns-clause-least : goal.returns-clause-least
returns-clause-least c = subst (λ (w : Tried). IsLeast w.universe (rule_trees w.rules) w.env) c.self.view_is c.self.invariant.6

pub returns-clause-row : goal.returns-clause-row
returns-clause-row c = λ r at.
    let s = c.self.inside in
    let there = own_tree s.universe.now s.env.now s.rules.now s.prepared.forks.now s.prepared c.self.invariant.3 c.args.i r (subst (λ (w : Tried). slice_get (rule_trees w.rules) c.args.i ≡ Some r) (sym c.self.view_is) at) in
    subst (λ (w : Tried). IfOk c.rule_row.result (λ row. row ≡ rule_row w.universe w.env r)) c.self.view_is
    (IfOk-weaker c.rule_row.result (λ row. row ≡ rule_row (universe_of s.prepared) (env_of s.prepared) r) (λ row. row ≡ rule_row s.universe.now s.env.now r)
    (λ row is. own_row s.universe.now s.env.now s.rules.now s.prepared.forks.now s.prepared c.self.invariant.3 r row is) (c.rule_row.ensures r there))
