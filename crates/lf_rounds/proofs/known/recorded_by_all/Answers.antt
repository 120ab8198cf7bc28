use Rattle.std.proofs.Common.{◌≡◌, ◌+◌, ◌∷◌, [], ℕ, List, length, get_or, ap, sym, ◌∙◌, subst, arith, length-append}
use Rattle.std.proofs.lemmas.List.{length-map}
use Rattle.std.proofs.lemmas.Option.{slice_get_within}
use Rattle.lf_ast.specs.Rules.{rule_tree, rule_trees}
use Rattle.lf_deps.proofs.RuleTrees.{tree_at}
use Rattle.lf_semantics.specs.Listing.{place}
use Rattle.lf_rounds.proofs.ReadLists.{placed_more}
use Rattle.lf_rounds.proofs.known.recorded_by_all.Goals as goal

pub loop-k-preserved : goal.loop-k-preserved
loop-k-preserved c =
    let rules = rule_trees c.args.rules.now in
    let all : List ℕ = c.loop-k.numbers in
    let n : ℕ = c.in_ok-number.number in
    let k = c.loop-k.k in
    let inv = c.loop-k.invariant in
    let there = tree_at c.args.rules.now k c.get.result.now c.get.ensures.value in
    record {
      count = ap length c.in_ok-push.ensures.ok ∙ length-append all (n ∷ []) ∙ ap (λ m. m + 1) inv.count;
      each = λ number r less at e.
          (let P : List ℕ → Type 0 = λ l. get_or l number 0 ≡ place c.args.recorded.now r.name in
          subst P (sym c.in_ok-push.ensures.ok) (placed_more rules c.args.recorded.now all k n (rule_tree c.get.result.now) inv.count there c.in_ok-number.ensures inv.each number r less at e));
    }

pub returns : goal.returns
returns c =
    let rules = rule_trees c.args.rules.now in
    let inv = c.loop-k.invariant in
    let end : c.loop-k.k ≡ length rules = omega (arith, c.loop-k-test.false, c.loop-k.auto.k-end, c.len-k-end.ensures, length-map c.args.rules.now rule_tree) in
    record {
      count = inv.count ∙ end;
      each = λ number r at e. inv.each number r (omega (arith, slice_get_within rules number r at, end)) at e;
    }
