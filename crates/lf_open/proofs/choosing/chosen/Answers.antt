use Rattle.std.proofs.Common.{◌++◌, ◌∷◌, [], Bool, List, length, refl, ◌∙◌, ap, arith}
use Rattle.std.proofs.lemmas.List.{length-append, length-map}
use Rattle.lf_ast.specs.Rules.{RuleTree}
use Rattle.lf_deps.specs.Reading.{selectors}
use Rattle.lf_open.proofs.Chosen.{chosen_all, chosen_more}
use Rattle.lf_open.proofs.choosing.chosen.Goals as goal

pub loop-k-preserved : goal.loop-k-preserved
loop-k-preserved c =
    let old : List Bool = c.loop-k.found.items in (
      omega (arith, ap length c.in_ok-push.ensures.items, length-append old (c.either.result ∷ []), c.loop-k.invariant.0),
      λ rules of_rule sources are.
          chosen_more rules of_rule c.args.passing.now are c.loop-k.k old c.push.new.self.items _ c.in_ok-reads.reads c.loop-k.invariant.0 refl (c.in_ok-reads.ensures rules of_rule sources are)
          (c.in_ok-push.ensures.items ∙ ap (λ (b : Bool). old ++ b ∷ []) c.either.ensures) (c.loop-k.invariant.1 rules of_rule sources are),
    )

pub returns-clause-chosen : goal.returns-clause-chosen
returns-clause-chosen c = λ rules of_rule sources are.
    let n = ap length sources.selected ∙ length-map rules (λ (r : RuleTree). selectors r.expr) in
    chosen_all rules of_rule c.args.passing.now are c.loop-k.k c.loop-k.found.items (omega (arith, c.loop-k-test.false, c.requires.count, n)) (c.loop-k.invariant.1 rules of_rule sources are)
