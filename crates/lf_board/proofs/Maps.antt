-- The values of all pieces, in their order, are those of a map over the numbers.
use Rattle.std.proofs.Common.{◌≡◌, ℕ, suc, ◌<◌, List, [], ◌∷◌, length, get_or, map, Some, slice_get, All, Ok, refl, sym, ◌∙◌, subst, arith}
use Rattle.std.specs.List.{range_with_len}
use Rattle.std.proofs.lemmas.List.{same_lists, length-map}
use Rattle.std.proofs.lemmas.List.FromFn.{length-map-range_with_len, get_or-map-range_with_len}
use Rattle.std.proofs.lemmas.Option.{get_or_from_slice_get}
use mathlib.Core.Logic.{dite}
use native.Mathlib.Decide.{ℕ_discrete}
use Rattle.lf_board.specs.Numbers.{times, AreNumbersBelow}
use Rattle.lf_board.specs.Pieces.{Work, numbers_of, StandsAt, IsMapOf}
use Rattle.lf_board.specs.views.Workers.{IsWorkOf}
use Rattle.lf_board.specs.declared.pieces.Piece.{Piece}
use Rattle.lf_board.proofs.Sums.{times_miss, once_below_inside}

-- a piece of this number
found : {T : Type 0} (x : ℕ) (ps : List (Piece T)) → 0 < times x (numbers_of ps) → (p : Piece T) × (k : ℕ) × (k < length ps) × (get_or ps k p ≡ p) × (p.number ≡ x)
found x [] some_of = absurd (omega arith)
found x (p ∷ ps) some_of = dite (ℕ_discrete x p.number)
    (λ e. (p, 0, omega arith, refl, sym e))
    (λ ne. let m = times_miss x p.number (numbers_of ps) ne in let r = found x ps (omega arith) in (r.0, suc r.1, omega arith, r.3, r.4))

module _ {F T : Type 0} (g : Work F T) (work : F) where
  pub maps : (n : ℕ) (ps : List (Piece T)) (vs : List T) → AreNumbersBelow n (numbers_of ps) → IsWorkOf g work ps → length vs ≡ length ps → All (StandsAt vs) ps → IsMapOf g work n vs
  maps n ps vs each done as_long stands =
      let long = length-map ps (λ (p : Piece T). p.number) in
      let all = each.0 in
      record {
        count = omega arith;
        each = λ i h.
            (let one = each.1 i ∙ once_below_inside n i h in
            let it = found i ps (omega arith) in
            let p = it.0 in
            let at : slice_get vs p.number ≡ Some p.value = subst (StandsAt vs) it.3 (stands it.1 p it.2) in
            let did : g.post work (p.number, tt) (Ok p.value) = subst (λ (q : Piece T). g.post work (q.number, tt) (Ok q.value)) it.3 (done it.1 p it.2) in
            (p.value, subst (λ (z : ℕ). slice_get vs z ≡ Some p.value) it.4 at, subst (λ (z : ℕ). g.post work (z, tt) (Ok p.value)) it.4 did));
      }

  -- where the work gives the values of a function, they are its map
  pub plain_map : (n : ℕ) (vs : List T) → IsMapOf g work n vs → (f : ℕ → T) → ((i : ℕ) (y : T) → i < n → g.post work (i, tt) (Ok y) → y ≡ f i) → vs ≡ map f (range_with_len 0 n)
  plain_map n vs h f gives =
      let long = length-map-range_with_len f 0 n in
      let count = h.count in
      same_lists vs (map f (range_with_len 0 n)) (count ∙ sym long)
      (λ k d l. let e = h.each k (omega arith) in get_or_from_slice_get vs k e.0 d e.1 ∙ gives k e.0 (omega arith) e.2 ∙ sym (get_or-map-range_with_len f 0 n k k d (omega arith) (omega arith)))
