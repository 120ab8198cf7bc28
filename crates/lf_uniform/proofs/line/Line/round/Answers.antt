use Rattle.std.proofs.Common.{ℕ, List, [], ◌∷◌, ◌++◌, cond, get_or, take, sym, subst}
use Rattle.std.proofs.lemmas.List.{take_more}
use Rattle.std.proofs.lemmas.List.Elements.{Contains-get_or}
use Rattle.lf_ast.specs.Rules.{rule_trees}
use Rattle.lf_uniform.specs.views.Lines.{IsRound}
use Rattle.lf_uniform.proofs.Rounds.{rounds_join}
use Rattle.lf_uniform.proofs.line.Line.round.Goals as goal

pub put-requires-clause-number : goal.put-requires-clause-number
put-requires-clause-number c =
    let numbers : List ℕ = c.args.numbers.now in
    c.requires.numbers (get_or numbers c.loop-number.number-index 0) (Contains-get_or numbers c.loop-number.number-index 0 c.loop-number-test.true)

pub loop-number-preserved : goal.loop-number-preserved
loop-number-preserved c =
    let rules = rule_trees c.args.rules.now in
    let numbers : List ℕ = c.args.numbers.now in
    let k : ℕ = c.loop-number.number-index in
    let n : ℕ = get_or numbers k 0 in
    let waits = c.in_ok-waits.waits in
    let joined = rounds_join rules c.args.self.now c.loop-number.self c.put.new.self (take k numbers) (n ∷ []) c.loop-number.later.items (cond waits (n ∷ []) []) c.loop-number.invariant c.in_ok-waits.ensures in
    subst (λ (xs : List ℕ). IsRound rules c.args.self.now xs c.put.new.self c.keep_if.new.numbers.items) (sym (take_more numbers k 0 c.loop-number-test.true))
    (subst (λ (ys : List ℕ). IsRound rules c.args.self.now (take k numbers ++ n ∷ []) c.put.new.self ys) (sym c.in_ok-keep_if.ensures) joined)
