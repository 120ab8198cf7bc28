use Rattle.std.proofs.Common.{◌≡◌, List, map, All, ◌∙◌, sym, subst, rules}
use Rattle.std.proofs.lemmas.List.Sorted.{IsNonDecreasingBy-from_sort_by_key}
use Rattle.lf_board.specs.declared.pieces.Piece.{Piece}
use Rattle.lf_board.specs.Pieces.{StandsAt}
use Rattle.lf_board.proofs.Sorted.{all_in_place}
use Rattle.lf_board.proofs.pieces.in_order.Goals as goal

pub returns-clause-each : goal.returns-clause-each
returns-clause-each g c =
    let T = g.row.T.Denot in
    let ps = c.args.pieces.items in
    let qs = c.sort_unstable_by_key.new.self.items in
    let up = IsNonDecreasingBy-from_sort_by_key (λ (p : Piece T). p.number) qs c.sort_unstable_by_key.ensures.sorted (λ a r q k. search rules) in
    let is : c.from_vec.result ≡ map (λ (p : Piece T). p.value) qs = c.from_vec.ensures ∙ c.in_ok-values.ensures in
    subst (λ (l : List T). All (StandsAt l) ps) (sym is) (all_in_place ps qs c.requires c.sort_unstable_by_key.ensures.permutation up)
