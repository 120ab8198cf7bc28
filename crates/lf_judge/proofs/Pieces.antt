-- What the work on each piece ensures holds of the value at its place.
use Rattle.std.proofs.Common.{◌≡◌, ℕ, suc, ◌<◌, List, [], ◌∷◌, length, Some, Ok, refl, sym, subst, ◌∙◌, arith}
use Rattle.std.specs.Prelude.{slice_get}
use Rattle.std.specs.List.{AllZip}
use Rattle.std.proofs.lemmas.Option.{slice_get_within, same_Some}
use Rattle.lf_board.specs.Pieces.{IsMapOf, Work}

module _ {F T : Type 0} (g : Work F T) (work : F) (n : ℕ) (P : ℕ → T → Type 0) where
  pub each_value : ((i : ℕ) (x : T) → i < n → g.post work (i, tt) (Ok x) → P i x) → (values : List T) → IsMapOf g work n values → (i : ℕ) (x : T) → slice_get values i ≡ Some x → P i x
  each_value gives values is i x at =
      let inside : i < n = subst (λ k. i < k) is.count (slice_get_within values i x at) in
      let y = is.each i inside in
      subst (P i) (same_Some y.0 x (sym y.1 ∙ at)) (gives i y.0 inside y.2)

-- what stands at the same places of two lists of one length stands side by side
pub side_by_side : {X Y : Type 0} (R : X → Y → Type 0) (xs : List X) (ys : List Y) → length ys ≡ length xs → ((i : ℕ) (x : X) (y : Y) → slice_get xs i ≡ Some x → slice_get ys i ≡ Some y → R x y) → AllZip R xs ys
side_by_side R [] [] n each = tt
side_by_side R [] (y ∷ ys) n each = absurd (omega (arith, n))
side_by_side R (x ∷ xs) [] n each = absurd (omega (arith, n))
side_by_side R (x ∷ xs) (y ∷ ys) n each = (each 0 x y refl refl, side_by_side R xs ys (omega (arith, n)) (λ i a b at there. each (suc i) a b at there))
