use Rattle.std.proofs.Common.{◌≡◌, ℕ, ◌<◌, List, length, get_or, ap, sym, ◌∙◌, subst, arith}
use Rattle.std.proofs.lemmas.List.{length-map}
use Rattle.std.proofs.lemmas.Option.{get_or_from_slice_get}
use Rattle.lf_ast.specs.Rules.{rule_tree, rule_trees}
use Rattle.lf_ast.specs.declared.rule.Rule.{Rule}
use Rattle.lf_rounds.specs.Facts.{RoundFacts, task}
use Rattle.lf_rounds.specs.Tasks.{IsTask}
use Rattle.lf_rounds.proofs.Pieces.{name_within, piece_is}
use Rattle.lf_rounds.proofs.Working.{number_within, rule_of_piece}
use Rattle.lf_rounds.proofs.round.Round.rule_of.Goals as goal

pub get-requires : goal.get-requires
get-requires c =
    let round = c.args.self.now in
    let p = c.args.piece in
    let T : RoundFacts → Type 0 = λ f. IsTask (task f) in
    let is : IsTask (task round) = subst T c.self.view_is c.self.invariant.task in
    let pieces : List ℕ = c.self.inside.pieces in
    let kept : round.pieces ≡ pieces = sym (ap (λ (f : RoundFacts). f.pieces) c.self.view_is) ∙ c.self.invariant.pieces in
    let within : p < length round.pieces = omega (arith, c.requires.piece, ap (λ (f : RoundFacts). f.board.pieces) c.self.view_is, ap length kept) in
    let at = ap (λ (l : List ℕ). get_or l p 0) kept ∙ get_or_from_slice_get pieces p c.get-number.result.now 0 c.get-number.ensures.value in
    omega (arith, number_within (task round) is p within, at, length-map round.rules rule_tree, ap (λ (l : List Rule). length l) c.requires.over)

pub returns-clause-rule : goal.returns-clause-rule
returns-clause-rule c =
    let round = c.args.self.now in
    let p = c.args.piece in
    let T : RoundFacts → Type 0 = λ f. IsTask (task f) in
    let is : IsTask (task round) = subst T c.self.view_is c.self.invariant.task in
    let pieces : List ℕ = c.self.inside.pieces in
    let kept : round.pieces ≡ pieces = sym (ap (λ (f : RoundFacts). f.pieces) c.self.view_is) ∙ c.self.invariant.pieces in
    let within : p < length round.pieces = omega (arith, c.requires.piece, ap (λ (f : RoundFacts). f.board.pieces) c.self.view_is, ap length kept) in
    let at = ap (λ (l : List ℕ). get_or l p 0) kept ∙ get_or_from_slice_get pieces p c.get-number.result.now 0 c.get-number.ensures.value in
    rule_of_piece (task round) is p within c.args.rules.now c.get-number.result.now c.get.result.now (ap rule_trees c.requires.over) at c.get.ensures.value

pub returns-clause-name : goal.returns-clause-name
returns-clause-name c =
    let round = c.args.self.now in
    let p = c.args.piece in
    let T : RoundFacts → Type 0 = λ f. IsTask (task f) in
    let is : IsTask (task round) = subst T c.self.view_is c.self.invariant.task in
    let pieces : List ℕ = c.self.inside.pieces in
    let kept : round.pieces ≡ pieces = sym (ap (λ (f : RoundFacts). f.pieces) c.self.view_is) ∙ c.self.invariant.pieces in
    let within : p < length round.pieces = omega (arith, c.requires.piece, ap (λ (f : RoundFacts). f.board.pieces) c.self.view_is, ap length kept) in
    let at = ap (λ (l : List ℕ). get_or l p 0) kept ∙ get_or_from_slice_get pieces p c.get-number.result.now 0 c.get-number.ensures.value in
    let there = rule_of_piece (task round) is p within c.args.rules.now c.get-number.result.now c.get.result.now (ap rule_trees c.requires.over) at c.get.ensures.value in
    let known = piece_is (task round) is p (rule_tree c.get.result.now) there in
    name_within (task round) (rule_tree c.get.result.now) known.1 known.0
