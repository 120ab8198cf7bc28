use Rattle.std.proofs.Common.{◌≡◌, ℕ, ◌<◌, List, length, get_or, ap, sym, ◌∙◌, subst, arith}
use Rattle.std.proofs.lemmas.Option.{get_or_from_slice_get}
use Rattle.lf_rounds.specs.Facts.{RoundFacts, task}
use Rattle.lf_rounds.specs.Tasks.{IsTask, names}
use Rattle.lf_rounds.specs.views.Noting.{ArePlaced}
use Rattle.lf_rounds.proofs.Pieces.{placed_piece}
use Rattle.lf_rounds.proofs.Working.{number_within}
use Rattle.lf_rounds.proofs.round.Round.recorded_by.Goals as goal

pub get-requires : goal.get-requires
get-requires c =
    let round = c.args.self.now in
    let p = c.args.piece in
    let T : RoundFacts → Type 0 = λ f. IsTask (task f) in
    let is : IsTask (task round) = subst T c.self.view_is c.self.invariant.task in
    let pieces : List ℕ = c.self.inside.pieces in
    let kept : round.pieces ≡ pieces = sym (ap (λ (f : RoundFacts). f.pieces) c.self.view_is) ∙ c.self.invariant.pieces in
    let within : p < length round.pieces = omega (arith, c.requires, ap (λ (f : RoundFacts). f.board.pieces) c.self.view_is, ap length kept) in
    let at = ap (λ (l : List ℕ). get_or l p 0) kept ∙ get_or_from_slice_get pieces p c.get-number.result.now 0 c.get-number.ensures.value in
    let N : RoundFacts → Type 0 = λ f. ArePlaced (names (task f)) (task f).rules c.self.inside.known.names in
    omega (arith, number_within (task round) is p within, at, (subst N c.self.view_is c.self.invariant.names).count)

pub returns : goal.returns
returns c r e =
    let round = c.args.self.now in
    let p = c.args.piece in
    let T : RoundFacts → Type 0 = λ f. IsTask (task f) in
    let is : IsTask (task round) = subst T c.self.view_is c.self.invariant.task in
    let pieces : List ℕ = c.self.inside.pieces in
    let kept : round.pieces ≡ pieces = sym (ap (λ (f : RoundFacts). f.pieces) c.self.view_is) ∙ c.self.invariant.pieces in
    let at = ap (λ (l : List ℕ). get_or l p 0) kept ∙ get_or_from_slice_get pieces p c.get-number.result.now 0 c.get-number.ensures.value in
    let N : RoundFacts → Type 0 = λ f. ArePlaced (names (task f)) (task f).rules c.self.inside.known.names in
    let placed = subst N c.self.view_is c.self.invariant.names in
    let held : List ℕ = c.self.inside.known.names in
    sym (get_or_from_slice_get held c.get-number.result.now c.get.result.now 0 c.get.ensures.value) ∙ ap (λ n. get_or held n 0) (sym at) ∙ placed_piece (task round) is p r held placed e
