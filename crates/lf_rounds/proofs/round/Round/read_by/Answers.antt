use Rattle.std.proofs.Common.{◌≡◌, ℕ, ◌<◌, List, [], length, get_or, ap, sym, ◌∙◌, subst, arith}
use Rattle.std.proofs.lemmas.Option.{get_or_from_slice_get}
use Rattle.lf_rounds.specs.Facts.{RoundFacts, task}
use Rattle.lf_rounds.specs.Tasks.{IsTask}
use Rattle.lf_rounds.proofs.Working.{number_within}
use Rattle.lf_rounds.proofs.round.Round.read_by.Goals as goal

pub get-requires : goal.get-requires
get-requires c =
    let round = c.args.self.now in
    let p = c.args.piece in
    let T : RoundFacts → Type 0 = λ f. IsTask (task f) in
    let is : IsTask (task round) = subst T c.self.view_is c.self.invariant.task in
    let pieces : List ℕ = c.self.inside.pieces in
    let kept : round.pieces ≡ pieces = sym (ap (λ (f : RoundFacts). f.pieces) c.self.view_is) ∙ c.self.invariant.pieces in
    let within : p < length round.pieces = omega (arith, c.requires, ap (λ (f : RoundFacts). f.board.pieces) c.self.view_is, ap length kept) in
    let at = ap (λ (l : List ℕ). get_or l p 0) kept ∙ get_or_from_slice_get pieces p c.get-number.result.now 0 c.get-number.ensures.value in
    let held : round.reads ≡ c.self.inside.known.reads = sym (ap (λ (f : RoundFacts). f.reads) c.self.view_is) ∙ c.self.invariant.reads in
    omega (arith, number_within (task round) is p within, at, is.reads.count, ap length held)

pub returns : goal.returns
returns c =
    let round = c.args.self.now in
    let p = c.args.piece in
    let pieces : List ℕ = c.self.inside.pieces in
    let kept : round.pieces ≡ pieces = sym (ap (λ (f : RoundFacts). f.pieces) c.self.view_is) ∙ c.self.invariant.pieces in
    let at = ap (λ (l : List ℕ). get_or l p 0) kept ∙ get_or_from_slice_get pieces p c.get-number.result.now 0 c.get-number.ensures.value in
    let held : round.reads ≡ c.self.inside.known.reads = sym (ap (λ (f : RoundFacts). f.reads) c.self.view_is) ∙ c.self.invariant.reads in
    sym (ap (λ (l : List (List ℕ)). get_or l (get_or round.pieces p 0) []) held ∙ ap (λ n. get_or c.self.inside.known.reads n []) at
    ∙ get_or_from_slice_get c.self.inside.known.reads c.get-number.result.now c.get.result.now [] c.get.ensures.value)
