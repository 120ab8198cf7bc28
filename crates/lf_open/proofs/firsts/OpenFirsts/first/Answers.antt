use Rattle.std.proofs.Common.{◌<◌, ◌++◌, ℕ, List, length, refl, ap, ap₂, sym, ◌∙◌, subst, arith}
use Rattle.std.specs.List.{Contains}
use Rattle.lf_ast.specs.Rules.{RuleTree}
use Rattle.lf_deps.proofs.RuleTrees.{trees_count}
use Rattle.lf_deps.specs.Ordering.{without}
use Rattle.lf_deps.specs.views.Sources.{IsSourcesOf}
use Rattle.lf_open.specs.views.Firsts.{IsFirstOfEach, IsOwnFirst, earlier, rules_in}
use Rattle.lf_open.specs.views.Known.{rules_of}
use Rattle.lf_open.proofs.FirstOfEach.{first_of_both, first_open}
use Rattle.lf_open.proofs.Joined.{are_rules, whole}
use Rattle.lf_open.proofs.firsts.OpenFirsts.first.Goals as goal

pub first_of_others-requires-clause-rules : goal.first_of_others-requires-clause-rules
first_of_others-requires-clause-rules c = λ k there.
    let rules : List RuleTree = rules_in c.args.self.now in
    let known = c.known-known.result in
    let reach : List ℕ = c.in_ok-reach.reach in
    let sources : IsSourcesOf rules known.sources.now = subst (λ (rs : List RuleTree). IsSourcesOf rs known.sources.now) c.known-known.ensures.1 c.known-known.ensures.0.sources in
    let in_reach : Contains reach k = subst (λ (l : List ℕ). Contains l k) c.as_slice.ensures there in
    let lt : k < length rules = are_rules rules c.args.i reach c.requires.rule (λ of at j. c.in_ok-reach.ensures.members rules sources of at j) k in_reach in
    omega (arith, lt, ap length c.known-known.ensures.1, trees_count known.rules.now)

pub returns-clause-first : goal.returns-clause-first
returns-clause-first c =
    let rules : List RuleTree = rules_in c.args.self.now in
    let known = c.known-known.result in
    let i : ℕ = c.args.i in
    let reach : List ℕ = c.in_ok-reach.reach in
    let sources : IsSourcesOf rules known.sources.now = subst (λ (rs : List RuleTree). IsSourcesOf rs known.sources.now) c.known-known.ensures.1 c.known-known.ensures.0.sources in
    let own : IsOwnFirst rules i c.in_ok-own.own = subst (λ (rs : List RuleTree). IsOwnFirst rs i c.in_ok-own.own) c.known-known.ensures.1 c.in_ok-own.ensures.first in
    let of_known : IsFirstOfEach (rules_of known) (without i reach) c.in_ok-others.others = subst (λ (l : List ℕ). IsFirstOfEach (rules_of known) (without i l) c.in_ok-others.others) c.as_slice.ensures c.in_ok-others.ensures.first in
    let others : IsFirstOfEach rules (without i reach) c.in_ok-others.others = subst (λ (rs : List RuleTree). IsFirstOfEach rs (without i reach) c.in_ok-others.others) c.known-known.ensures.1 of_known in
    first_open rules i (c.earlier.result) (own.0 ++ others.0)
    (whole rules i reach own.0 (own.0 ++ others.0) c.requires.rule (λ of at k. c.in_ok-reach.ensures.members rules sources of at k) c.in_ok-reach.ensures.ascending own.1 (others.0, others.1, refl))
    (c.earlier.ensures ∙ ap₂ earlier own.2 others.2 ∙ sym (first_of_both own.0 others.0))
