use Rattle.std.proofs.Common.{◌≡◌, ◌<◌, Bool, false, length, ap, sym, ◌∙◌, subst}
use Rattle.std.specs.Prelude.{IfOk, option_map}
use Rattle.std.proofs.lemmas.Result.{IfOk-weaker}
use Rattle.lf_ast.specs.Labels.{Bytes}
use Rattle.lf_ast.specs.Rules.{rule_trees}
use Rattle.lf_ast.specs.Tree.{Tree}
use Rattle.lf_trials.specs.Forks.{TellsForks}
use Rattle.lf_trials.specs.Trials.{ShowsBuilt}
use Rattle.lf_candidates.specs.views.ClassTexts.{name_at}
use Rattle.lf_built.specs.views.Built.{OfRule}
use Rattle.lf_worlds.specs.views.Tried.{IsAbsence, IsForkedAt, IsLeft, ShownFor, first_with, world_with}
use Rattle.lf_worlds.proofs.SharedAbsence.{built_world, same_absence}
use Rattle.lf_worlds.proofs.of_rule.RuleTrials.by_kept.Goals as goal

pub returns-then-branch-clause-shown : goal.returns-then-branch-clause-shown
returns-then-branch-clause-shown c =
    subst (λ (x : OfRule). IfOk c.by_trial.result (ShownFor (ShowsBuilt x.universe x.env (rule_trees x.rules) x.number (name_at x.universe c.args.label) false))) c.in_ok-has_fork.ensures.same c.by_trial.ensures

pub returns-clause-shown : goal.returns-clause-shown
returns-clause-shown c =
    let s = c.self.inside in
    let v : OfRule = c.args.self.now in
    let e = c.args.kept in
    let same = c.self.view_is ∙ c.in_ok-has_fork.ensures.same in
    let kept = subst (λ (x : OfRule). IsAbsence x.universe x.env (rule_trees x.rules) x.number e) (sym same) c.requires.kept in
    let left = subst (λ (x : OfRule). IsLeft x.universe x.env (rule_trees x.rules) x.number (name_at x.universe c.args.label) false) (sym same) c.requires.left in
    let less = subst (λ (x : OfRule). c.args.label < length x.universe.named) (sym same) c.requires.label in
    let told = subst (λ (b : Bool). (f : Tree → Bool) → TellsForks (rule_trees v.rules) f → IsForkedAt (rule_trees v.rules) v.number f b) c.if-branch.false c.in_ok-has_fork.ensures.fork in
    let unforked = subst (λ (x : OfRule). (f : Tree → Bool) → TellsForks (rule_trees x.rules) f → IsForkedAt (rule_trees x.rules) x.number f false) (sym same) told in
    let name : Bytes = name_at s.universe.now c.args.label in
    let built = same_absence s.universe.now c.self.invariant.5 s.env.now (rule_trees s.rules.now) s.number c.self.invariant.2 unforked kept.label c.args.label kept.inside less left e.trial kept.built in
    subst (λ (x : OfRule). IfOk c.world-world.result (ShownFor (ShowsBuilt x.universe x.env (rule_trees x.rules) x.number (name_at x.universe c.args.label) false))) same
    (IfOk-weaker c.world-world.result (λ o. o ≡ option_map (world_with e.trial) (first_with c.as_str.result.now false e.samples)) (ShownFor (ShowsBuilt s.universe.now s.env.now (rule_trees s.rules.now) s.number name false))
    (λ o is. built_world s.universe.now s.env.now (rule_trees s.rules.now) s.number name false e built kept.shown o (is ∙ ap (λ (n : Bytes). option_map (world_with e.trial) (first_with n false e.samples)) (c.as_str.ensures ∙ c.name_of-name.ensures))) c.world-world.ensures)
