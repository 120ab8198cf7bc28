use Rattle.std.proofs.Common.{◌≡◌, ℕ, List, Option, sym, ◌∙◌, ap, subst}
use Rattle.std.specs.Prelude.{slice_get}
use Rattle.std.specs.List.{find}
use Rattle.lf_laws.proofs.Options.{same_option}
use Rattle.lf_ast.specs.Rules.{RuleTree, rule_trees}
use Rattle.lf_candidates.specs.views.ClassTexts.{Stands, name_at}
use Rattle.lf_trials.specs.Candidates.{candidates}
use Rattle.lf_trials.specs.Uniform.{uniform_texts}
use Rattle.lf_uniform.specs.declared.texts.WantedPresence.{WantedPresence}
use Rattle.lf_uniform.specs.views.Texts.{first_texts, is_followed}
use Rattle.lf_uniform.proofs.UniformWorlds.{stands_with}
use Rattle.lf_uniform.proofs.uniform.texts_with.Goals as goal

pub returns : goal.returns
returns c = λ own at.
    let u = c.args.setting.now.universe in
    let rules : List RuleTree = rule_trees c.args.setting.now.rules in
    let i : ℕ = c.args.number in
    let l : ℕ = c.args.label in
    let given = c.requires.prepared in
    let same : given.0 ≡ own = same_option (slice_get rules i) given.0 own given.1 at in
    let stands = subst (λ (r : RuleTree). Stands u c.args.shared.now.texts (first_texts u rules i r)) same given.3.texts in
    let copied = subst (λ (cs : List (Option ℕ)). Stands u cs (first_texts u rules i own)) (sym c.in_ok-texts.ensures) stands in
    let is = c.in_ok-class.ensures.text own at ∙ ap (λ (w : WantedPresence). find (is_followed u rules i own w (name_at u l)) (candidates u (name_at u l))) c.wanted_for.ensures in
    subst (λ (cs : List (Option ℕ)). Stands u cs (uniform_texts u rules i own (name_at u l) c.args.presence)) (sym c.put.ensures)
    (stands_with u given.3.within rules i own c.args.presence l c.in_ok-class.class c.in_ok-texts.texts c.requires.label copied c.in_ok-class.ensures.class is)
