use Rattle.std.proofs.Common.{◌<◌, ℕ, sym, subst}
use Rattle.std.proofs.lemmas.List.{length-map}
use Rattle.std.proofs.lemmas.Option.{slice_get_within}
use Rattle.std.proofs.lemmas.Result.{IfOk-weaker}
use Rattle.std.specs.Prelude.{IfOk}
use Rattle.lf_ast.specs.Rules.{rule_tree, rule_trees}
use Rattle.lf_semantics.specs.ClassRows.{HasShape, Sets}
use Rattle.lf_semantics.proofs.NormalizedRows.{rule_row_is}
use Rattle.lf_trials.specs.Built.{IsBuilt}
use Rattle.lf_trials.specs.Given.{giving, nothing_given}
use Rattle.lf_candidates.specs.views.ClassTexts.{name_at, text_at}
use Rattle.lf_candidates.specs.views.Told.{AnswersFor}
use Rattle.lf_built.specs.views.Begun.{IsTrialOf, begun_of}
use Rattle.lf_built.specs.views.Built.{OfRule}
use Rattle.lf_built.specs.views.Indexed.{env_of, trees_of, universe_of}
use Rattle.lf_built.proofs.BuiltTrials.{told}
use Rattle.lf_built.proofs.built.Built.trial.Goals as goal

pub first_class_with-requires-clause-shape : goal.first_class_with-requires-clause-shape
first_class_with-requires-clause-shape c =
    let p = c.self.inside.prepared.now in
    let of = c.self.invariant in
    subst (λ (row : Sets). HasShape (universe_of p) row) (sym of.is_row) (rule_row_is (universe_of p) of.prepared.within.listing (env_of p) of.prepared.environment of.rule).0

pub trial_from-requires-clause-number : goal.trial_from-requires-clause-number
trial_from-requires-clause-number c =
    let p = c.self.inside.prepared.now in
    let of = c.self.invariant in
    subst (λ (n : ℕ). c.self.inside.number < n) (length-map p.rules.now rule_tree) (slice_get_within (trees_of p) c.self.inside.number of.rule of.is_rule)

pub returns-in-Some : goal.returns-in-Some
returns-in-Some c =
    let p = c.self.inside.prepared.now in
    let u = universe_of p in
    let i : ℕ = c.self.inside.number in
    let of = c.self.invariant in
    let label = name_at u c.args.label in
    let text = text_at u c.args.label c.in-Some.class in
    subst (λ (v : OfRule). IfOk c.trial_from.result (AnswersFor (IsBuilt v.universe v.env (rule_trees v.rules) v.number (name_at v.universe c.args.label) c.args.presence))) c.self.view_is
    (IfOk-weaker c.trial_from.result (IsTrialOf c.self.inside.most (begun_of p i of.rule (giving label text nothing_given))) (AnswersFor (IsBuilt u (env_of p) (trees_of p) i label c.args.presence))
    (told p i c.self.inside.row.now c.self.inside.most of label c.args.presence text (sym c.in-Some.ensures.candidate)) (c.trial_from.ensures of.rule of.is_rule))
