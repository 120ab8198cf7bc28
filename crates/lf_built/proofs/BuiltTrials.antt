-- What was built for a rule is its built world, and where none was there is none.
use Rattle.std.proofs.Common.{◌≡◌, ◌≤◌, ◌*◌, ℕ, Bool, List, Option, Some, None, sym, ap, ap₂, ◌∙◌, subst}
use Rattle.std.specs.Prelude.{option_and_then, slice_get}
use Rattle.std.specs.List.{find}
use Rattle.lf_laws.proofs.Options.{same_option}
use Rattle.lf_ast.specs.Labels.{Bytes}
use Rattle.lf_ast.specs.Rules.{RuleTree}
use Rattle.lf_ast.specs.Tree.{Tree}
use Rattle.lf_semantics.specs.ClassRows.{Sets}
use Rattle.lf_trials.specs.Building.{Building}
use Rattle.lf_trials.specs.Built.{IsBuilt, building_of, selector_count, start_text}
use Rattle.lf_trials.specs.Candidates.{candidates_in, has_presence}
use Rattle.lf_trials.specs.Given.{giving, nothing_given}
use Rattle.lf_trials.specs.Reached.{IsReach, Trial, with_reach}
use Rattle.lf_trials.proofs.OneVerdict.{one_reach, one_test}
use Rattle.lf_candidates.specs.views.Told.{AnswersFor}
use Rattle.lf_built.specs.declared.prepared.Prepared.{Prepared}
use Rattle.lf_built.specs.views.Begun.{IsTrialOf, begun_of}
use Rattle.lf_built.specs.views.Built.{IsOfRule}
use Rattle.lf_built.specs.views.Indexed.{env_of, forks_of, trees_of, universe_of}

module _ (p : Prepared) (i : ℕ) (row : Sets) (most : ℕ) (of : IsOfRule p i row most) (label : Bytes) (presence : Bool) (text : Bytes) (found : find (has_presence presence) (candidates_in (universe_of p) row label) ≡ Some text) where
  abbrev whole : Option Building
  whole = begun_of p i of.rule (giving label text nothing_given)

  building_is : building_of (universe_of p) (env_of p) (trees_of p) (forks_of p) i of.rule label presence ≡ whole
  building_is =
      let start : start_text (universe_of p) (env_of p) (trees_of p) (forks_of p) of.rule label presence ≡ Some text = ap (λ (r : Sets). find (has_presence presence) (candidates_in (universe_of p) r label)) (sym of.is_row) ∙ found in
      ap (option_and_then (λ (t : Bytes). begun_of p i of.rule (giving label t nothing_given))) start

  abbrev Is : Trial → Type 0
  Is = IsBuilt (universe_of p) (env_of p) (trees_of p) i label presence

  none_built : ((b : Building) → whole ≡ Some b → b.selectors ≤ most → ⊥) → (trial : Trial) → Is trial → ⊥
  none_built none trial built =
      let rules = trees_of p in
      let test = one_test rules (forks_of p) built.holds_fork of.forks built.tells_forks in
      let rule = same_option (slice_get rules i) of.rule built.rule of.is_rule built.is_rule in
      let same : building_of (universe_of p) (env_of p) rules (forks_of p) i of.rule label presence ≡ building_of (universe_of p) (env_of p) rules built.holds_fork i built.rule label presence =
      ap₂ (λ (h : Tree → Bool) (r : RuleTree). building_of (universe_of p) (env_of p) rules h i r label presence) test rule in
      let reach : of.reach ≡ built.reach = one_reach rules of.rule.expr of.reach built.reach of.is_reach (subst (λ (r : RuleTree). IsReach rules r.expr built.reach) (sym rule) built.is_reach) in
      let bound : most ≡ 4 * selector_count rules (with_reach i built.reach) = of.is_most ∙ ap (λ (ks : List ℕ). 4 * selector_count rules (with_reach i ks)) reach in
      none built.built (sym building_is ∙ same ∙ built.is_built) (subst (λ (n : ℕ). built.built.selectors ≤ n) (sym bound) built.bounded)

  pub told : (t : Option Trial) → IsTrialOf most whole t → AnswersFor Is t
  told None none = none_built none
  told (Some trial) is = record {
    holds_fork = forks_of p;
    tells_forks = of.forks;
    rule = of.rule;
    is_rule = of.is_rule;
    reach = of.reach;
    is_reach = of.is_reach;
    built = is.0;
    is_built = building_is ∙ is.1;
    bounded = subst (λ (n : ℕ). is.0.selectors ≤ n) of.is_most is.2;
    is_trial = is.3;
  }
