use Rattle.std.proofs.Common.{◌<◌, ℕ, List, length, sym, ◌∙◌, subst, arith}
use Rattle.std.specs.List.{Contains}
use Rattle.lf_ast.specs.Rules.{RuleTree, rule_trees}
use Rattle.lf_deps.proofs.LookedUp.{selected_count}
use Rattle.lf_deps.proofs.RuleTrees.{trees_count}
use Rattle.lf_trials.specs.Reached.{with_reach}
use Rattle.lf_trials.specs.Uniform.{SelectsCyclic}
use Rattle.lf_uniform.specs.views.Ways.{IsUncyclic}
use Rattle.lf_uniform.proofs.Preparing.{all_within}
use Rattle.lf_laws.proofs.Slices.{some_at}
use Rattle.lf_uniform.proofs.Uncyclic.{none_selected}
use Rattle.lf_uniform.proofs.uniform.shared_by.Goals as goal

pub returns-then-reach-gt-MOST_RULES : goal.returns-then-reach-gt-MOST_RULES
returns-then-reach-gt-MOST_RULES c =
    let rules : List RuleTree = rule_trees c.args.setting.now.rules in
    let small : c.args.number < length rules = let m = trees_count c.args.setting.now.rules in omega (arith, m, c.requires.rule) in
    let own = some_at rules c.args.number small in
    record { own = own.0; at = own.1; is_reach = c.requires.reach own.0 own.1; is_shared = λ few no_cycle. absurd (omega (arith, few, c.if-reach-gt-MOST_RULES.true)) }

pub selects_cyclic-requires-clause-numbers : goal.selects_cyclic-requires-clause-numbers
selects_cyclic-requires-clause-numbers c = λ k there.
    let rules : List RuleTree = rule_trees c.args.setting.now.rules in
    let small : c.args.number < length rules = let m = trees_count c.args.setting.now.rules in omega (arith, m, c.requires.rule) in
    let own = some_at rules c.args.number small in
    let w = all_within rules own.0.expr c.args.reach.now c.args.number (c.requires.reach own.0 own.1) small k (subst (λ (xs : List ℕ). Contains xs k) (c.as_slice.ensures.value ∙ c.in_ok-numbers.ensures) there) in
    let n = selected_count rules c.args.sources.now c.requires.sources in
    omega (arith, w, n)

pub returns-then-selects_cyclic : goal.returns-then-selects_cyclic
returns-then-selects_cyclic c =
    let rules : List RuleTree = rule_trees c.args.setting.now.rules in
    let small : c.args.number < length rules = let m = trees_count c.args.setting.now.rules in omega (arith, m, c.requires.rule) in
    let own = some_at rules c.args.number small in
    record {
      own = own.0;
      at = own.1;
      is_reach = c.requires.reach own.0 own.1;
      is_shared = λ few no_cycle. no_cycle (subst (SelectsCyclic rules) (c.as_slice.ensures.value ∙ c.in_ok-numbers.ensures) (c.selects_cyclic.ensures.cyclic c.if-selects_cyclic.true rules c.requires.sources));
    }

pub prepared-requires-clause-uncyclic : goal.prepared-requires-clause-uncyclic
prepared-requires-clause-uncyclic c =
    let rules : List RuleTree = rule_trees c.args.setting.now.rules in
    subst (IsUncyclic rules) (c.as_slice.ensures.value ∙ sym c.as_slice-2.ensures.value) (c.selects_cyclic.ensures.none c.if-selects_cyclic.false rules c.requires.sources)

pub returns : goal.returns
returns c =
    let rules : List RuleTree = rule_trees c.args.setting.now.rules in
    let small : c.args.number < length rules = let m = trees_count c.args.setting.now.rules in omega (arith, m, c.requires.rule) in
    let own = some_at rules c.args.number small in
    let all : List ℕ = with_reach c.args.number c.args.reach.now in
    let uncyclic = subst (IsUncyclic rules) (c.as_slice.ensures.value ∙ c.in_ok-numbers.ensures) (c.selects_cyclic.ensures.none c.if-selects_cyclic.false rules c.requires.sources) in
    record {
      own = own.0;
      at = own.1;
      is_reach = c.requires.reach own.0 own.1;
      is_shared = (omega (arith, c.if-reach-gt-MOST_RULES.false), none_selected rules all uncyclic, c.in_ok-shared.ensures own.0 own.1);
    }
