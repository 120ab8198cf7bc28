use Rattle.std.proofs.Common.{◌≡◌, ◌-◌, ◌^◌, ℕ, List, length, min, ap, subst, sym, ◌∙◌, arith}
use Rattle.std.proofs.lemmas.Result.{IfOk-weaker}
use Rattle.lf_graph.specs.Paths.{IsGraph}
use Rattle.lf_deps.specs.views.Sources.{Sources}
use Rattle.lf_trials.specs.Reached.{with_reach}
use Rattle.lf_weights.specs.Weights.{AreReached, weight_reached}
use Rattle.lf_worlds.specs.Measure.{selectors_tried}
use Rattle.lf_worlds.specs.views.RuleGraph.{rule_edges}
use Rattle.lf_worlds.proofs.Reaches.{reached_are, tried_is}
use Rattle.lf_worlds.proofs.RuleGraph.{edges_long, graph_is}
use Rattle.lf_worlds.proofs.measure.selectors_tried.Goals as goal

pub weight_reached-requires-clause-graph : goal.weight_reached-requires-clause-graph
weight_reached-requires-clause-graph c = subst IsGraph (sym c.in_ok-edges.ensures) (graph_is c.requires.sources.0 c.args.sources.now c.requires.sources.1)

pub weight_reached-requires-clause-weights : goal.weight_reached-requires-clause-weights
weight_reached-requires-clause-weights c =
    let long = ap length c.in_ok-edges.ensures in
    let all = edges_long c.requires.sources.0 c.args.sources.now c.requires.sources.1 in
    omega (arith, long, all, c.requires.counts)

pub returns : goal.returns
returns c = λ rules is of_rules reach are.
    let counts : List ℕ = c.args.counts.now in
    let s : Sources = c.args.sources.now in
    let found = reached_are rules reach are s is in
    let P : List (List ℕ) → Type 0 = λ edges. AreReached edges (length counts) (λ i. with_reach i (reach i)) in
    let Q : ℕ → Type 0 = λ n. AreReached (rule_edges s) n (λ i. with_reach i (reach i)) in
    IfOk-weaker c.weight_reached.result (λ n. n ≡ min (weight_reached counts (λ i. with_reach i (reach i))) (2 ^ 64 - 1)) (λ n. n ≡ min (selectors_tried rules reach) (2 ^ 64 - 1))
    (λ n e. e ∙ ap (λ (m : ℕ). min m (2 ^ 64 - 1)) (tried_is rules reach are counts of_rules))
    (c.weight_reached.ensures (λ i. with_reach i (reach i)) (subst P (sym c.in_ok-edges.ensures) (subst Q (sym c.requires.counts) found)))
