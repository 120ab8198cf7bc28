use Rattle.std.proofs.Common.{◌<◌, ℕ, List, length, ◌∙◌, ap, subst, arith}
use Rattle.std.specs.List.{Contains}
use Rattle.lf_ast.specs.Rules.{RuleTree, rule_trees}
use Rattle.lf_ast.specs.declared.rule.Rule.{Rule}
use Rattle.lf_classes.specs.Limits.{IsWithin}
use Rattle.lf_deps.proofs.RuleTrees.{trees_count}
use Rattle.lf_semantics.specs.Listing.{Listing}
use Rattle.lf_trials.specs.Candidates.{labels_in}
use Rattle.lf_trials.specs.Selected.{selected_by}
use Rattle.lf_trials.specs.Uniform.{series_names}
use Rattle.lf_uniform.specs.views.Lines.{IsLineOf}
use Rattle.lf_uniform.specs.views.Ways.{IsUncyclic}
use Rattle.lf_uniform.proofs.Preparing.{all_within, reach_within}
use Rattle.lf_laws.proofs.Slices.{some_at}
use Rattle.lf_uniform.proofs.uniform.prepared.Goals as goal

pub of-requires-clause-numbers : goal.of-requires-clause-numbers
of-requires-clause-numbers c = λ k there.
    let rules : List RuleTree = rule_trees c.args.setting.now.rules in
    let small : c.args.number < length rules = let m = trees_count c.args.setting.now.rules in omega (arith, m, c.requires.rule) in
    let own = some_at rules c.args.number small in
    let w = reach_within rules own.0.expr c.args.reach.now (c.requires.reach own.0 own.1) k there in
    let m = trees_count c.args.setting.now.rules in
    let n = ap length c.rules.ensures in
    omega (arith, w, m, n)

pub first_texts-requires-clause-way : goal.first_texts-requires-clause-way
first_texts-requires-clause-way c =
    let rules : List RuleTree = rule_trees c.args.setting.now.rules in
    let small : c.args.number < length rules = let m = trees_count c.args.setting.now.rules in omega (arith, m, c.requires.rule) in
    let own = some_at rules c.args.number small in
    record {
      own = own.0;
      at = own.1;
      reach = c.args.reach.now;
      is_reach = c.requires.reach own.0 own.1;
      is_line = subst (λ (rs : List Rule). IsLineOf (rule_trees rs) c.args.reach.now c.in_ok-line.line) c.rules.ensures c.in_ok-line.ensures;
      uncyclic = subst (IsUncyclic rules) c.requires.numbers c.requires.uncyclic;
    }

pub series_names-requires : goal.series_names-requires
series_names-requires c = λ k there.
    let rules : List RuleTree = rule_trees c.args.setting.now.rules in
    let small : c.args.number < length rules = let m = trees_count c.args.setting.now.rules in omega (arith, m, c.requires.rule) in
    let own = some_at rules c.args.number small in
    let w = all_within rules own.0.expr c.args.reach.now c.args.number (c.requires.reach own.0 own.1) small k (subst (λ (xs : List ℕ). Contains xs k) c.requires.numbers there) in
    let m = trees_count c.args.setting.now.rules in
    omega (arith, w, m)

pub returns : goal.returns
returns c = λ own at.
    let u = c.args.setting.now.universe in
    let rules : List RuleTree = rule_trees c.args.setting.now.rules in
    record {
      within = subst IsWithin c.universe.ensures.value c.universe.ensures.within;
      way = record {
        own = own;
        at = at;
        reach = c.args.reach.now;
        is_reach = c.requires.reach own at;
        is_line = subst (λ (rs : List Rule). IsLineOf (rule_trees rs) c.args.reach.now c.in_ok-line.line) c.rules.ensures c.in_ok-line.ensures;
        uncyclic = subst (IsUncyclic rules) c.requires.numbers c.requires.uncyclic;
      };
      labels = c.in_ok-labels.ensures ∙ ap (λ (v : Listing). labels_in v) c.universe.ensures.value;
      texts = c.in_ok-texts.ensures own at;
      names = c.in_ok-names.ensures ∙ ap (λ (xs : List ℕ). series_names u rules (selected_by rules xs)) c.requires.numbers;
    }
