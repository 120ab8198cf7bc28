use Rattle.std.proofs.Common.{◌<◌, ℕ, List, length, ap, sym, subst, arith}
use Rattle.std.specs.List.{Contains}
use Rattle.lf_ast.specs.Rules.{RuleTree}
use Rattle.lf_deps.proofs.RuleTrees.{trees_count}
use Rattle.lf_deps.specs.Ordering.{without}
use Rattle.lf_open.specs.OpenList.{AreOpen, AreOpenOf}
use Rattle.lf_open.specs.declared.open_at.OpenAt.{OpenAt}
use Rattle.lf_open.specs.views.Known.{rules_of}
use Rattle.lf_open.specs.views.Opens.{IsListOf, rules_of_opens}
use Rattle.lf_open.proofs.Joined.{are_rules, whole}
use Rattle.lf_open.proofs.opens.Opens.list.Goals as goal

pub push_others-requires-clause-rules : goal.push_others-requires-clause-rules
push_others-requires-clause-rules c = λ k there.
    let rules : List RuleTree = rules_of_opens c.args.self.now in
    let reach : List ℕ = c.in_ok-reach.reach in
    let in_reach : Contains reach k = subst (λ (l : List ℕ). Contains l k) c.as_slice.ensures there in
    let lt : k < length rules = are_rules rules c.args.i reach c.requires.rule (λ of at j. c.in_ok-reach.ensures.members rules c.requires.opens.reads.sources of at j) k in_reach in
    omega (arith, lt, ap length c.known-known.ensures.1, trees_count c.known-known.result.rules.now)

pub returns : goal.returns
returns c = λ rules are.
    let mine : List RuleTree = rules_of_opens c.args.self.now in
    let i : ℕ = c.args.i in
    let reach : List ℕ = c.in_ok-reach.reach in
    let own : List OpenAt = c.in_ok-found.found in
    let found : List OpenAt = c.push_others.new.found in
    let own_is : AreOpenOf mine i own = subst (λ (rs : List RuleTree). AreOpenOf rs i own) c.known-known.ensures.1 c.in_ok-found.ensures in
    let pushed : IsListOf (rules_of c.known-known.result) (without i c.as_slice.result.now) own found = c.in_ok-push_others.ensures in
    let of_mine : IsListOf mine (without i c.as_slice.result.now) own found = subst (λ (rs : List RuleTree). IsListOf rs (without i c.as_slice.result.now) own found) c.known-known.ensures.1 pushed in
    let listed : IsListOf mine (without i reach) own found = subst (λ (l : List ℕ). IsListOf mine (without i l) own found) c.as_slice.ensures of_mine in
    let all = whole mine i reach own found c.requires.rule (λ of at k. c.in_ok-reach.ensures.members mine c.requires.opens.reads.sources of at k) c.in_ok-reach.ensures.ascending own_is listed in
    subst (λ (rs : List RuleTree). AreOpen rs i found) (sym are.0) all
