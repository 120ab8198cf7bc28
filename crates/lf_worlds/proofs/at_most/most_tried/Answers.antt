use Rattle.std.proofs.Common.{◌≡◌, ◌≤◌, ◌+◌, ◌-◌, ◌^◌, ℕ, List, [], ◌∷◌, Option, length, length-append, map, min, get_or, subst, sym, ap, ap₂, ◌∙◌, arith}
use Rattle.std.specs.List.{range_with_len, sum_by}
use Rattle.std.proofs.lemmas.List.{length-map}
use Rattle.lf_laws.proofs.Slices.{some_at}
use Rattle.lf_ast.specs.Labels.{Bytes}
use Rattle.lf_ast.specs.Rules.{RuleTree}
use Rattle.lf_deps.specs.Reading.{selectors}
use Rattle.lf_deps.specs.views.Sources.{Sources}
use Rattle.lf_deps.proofs.LookedUp.{selected_is}
use Rattle.lf_forks.specs.Selectors.{selector_total}
use Rattle.lf_weights.proofs.Sums.{sum_more}
use Rattle.lf_worlds.specs.views.AtMost.{most_by}
use Rattle.lf_worlds.proofs.AtMost.{AreTold, both_up_to, no_more, one_more_told, tried_by}
use Rattle.lf_worlds.proofs.at_most.most_tried.Goals as goal

pub loop-rule-preserved : goal.loop-rule-preserved
loop-rule-preserved c =
    let k : ℕ = c.loop-rule.rule in
    let s : Sources = c.args.sources.now in
    let counts : List ℕ = c.args.counts.now in
    let each : List ℕ = c.loop-rule.each.items in
    let most : ℕ = 2 ^ 64 - 1 in
    let n : ℕ = c.saturating_add-most.result in
    let long : length each ≡ k = c.loop-rule.invariant.0 in
    let pushed = ap length c.in_ok-push.ensures.items ∙ length-append each (n ∷ []) in (
      omega (arith, pushed, long),
      λ rules is of reach are.
          let all = ap length of ∙ length-map rules (λ (r : RuleTree). selector_total r.expr) in
          let r = some_at rules k (omega (arith, c.loop-rule-test.true, all)) in
          let so_far = c.loop-rule.invariant.1 rules is of reach are in
          let told = so_far.0 in
          let selected : List (Option Bytes) = c.selected_by-selected.result.now in
          let found : selected ≡ selectors r.0.expr = c.selected_by-selected.ensures ∙ selected_is rules s is k r.0 r.1 in
          let sum : ℕ = sum_by (most_by s each) (selectors r.0.expr) in
          let by_all : c.most_by_all.result ≡ min sum most = c.most_by_all.ensures ∙ ap₂ (λ (e : List ℕ) (l : List (Option Bytes)). min (sum_by (most_by s e) l) most) c.as_slice.ensures.value found in
          let own : get_or counts k 0 ≡ get_or (map (λ (q : RuleTree). selector_total q.expr) rules) k 0 = ap (λ (l : List ℕ). get_or l k 0) of in
          let is_most : n ≡ min (get_or (map (λ (q : RuleTree). selector_total q.expr) rules) k 0 + min sum most) most = c.saturating_add-most.ensures ∙ ap₂ (λ (a b : ℕ). min (a + b) most) own by_all in
          let more : min (tried_by rules reach k) most ≤ n = subst (λ (m : ℕ). min (tried_by rules reach k) most ≤ m) (sym is_most) (no_more rules s is reach are each told k r.0 r.1) in
          let last : min (tried_by rules reach (length each)) most ≤ n = subst (λ (j : ℕ). min (tried_by rules reach j) most ≤ n) (sym long) more in
          let sums = both_up_to (sum_by (tried_by rules reach) (range_with_len 0 k)) (tried_by rules reach k) c.loop-rule.all n most so_far.1 more in
          let one = sum_more (tried_by rules reach) k in (
            subst (AreTold rules reach) (sym c.in_ok-push.ensures.items) (one_more_told rules reach each n told last),
            subst (λ (m : ℕ). min m most ≤ c.saturating_add-all.result) (sym one) (subst (λ (m : ℕ). min (sum_by (tried_by rules reach) (range_with_len 0 k) + tried_by rules reach k) most ≤ m) (sym c.saturating_add-all.ensures) sums),
          ),
    )

pub returns : goal.returns
returns c = λ rules is of reach are.
    let all = ap length of ∙ length-map rules (λ (r : RuleTree). selector_total r.expr) in
    let end : c.loop-rule.rule ≡ length rules = omega (arith, c.loop-rule-test.false, all) in
    subst (λ (m : ℕ). min (sum_by (tried_by rules reach) (range_with_len 0 m)) (2 ^ 64 - 1) ≤ c.loop-rule.all) end (c.loop-rule.invariant.1 rules is of reach are).1
