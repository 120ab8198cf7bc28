-- Where the last of some nodes ends.
use Rattle.std.proofs.Common.{◌≡◌, ℕ, suc, ◌-◌, List, [], ◌∷◌, length, map, Some, None, ap, arith, sym, ◌∙◌}
use Rattle.std.specs.Prelude.{slice_get}
use Rattle.std.proofs.lemmas.Option.{same_Some}
use Rattle.lf_scalar.specs.Cells.{Value}
use Rattle.lf_yaml.specs.Tree.{Tree, items_of, entries_of}
use Rattle.lf_yaml.specs.Spans.{span_of, items_end, entries_end}

none-some : {A : Type 0} {X : Type 0} (x : A) → None ≡ Some x → X
none-some x e = absurd cc

pub last-item : {A : Type 0} (f : A → Tree) (none : ℕ) (xs : List A) (x : A) → Some x ≡ slice_get xs (length xs - 1) → (span_of (f x)).end ≡ items_end none (items_of (map f xs))
last-item f none [] x e = none-some x (sym e)
last-item f none (y ∷ []) x e = ap (λ z. (span_of (f z)).end) (same_Some x y e)
last-item f none (y ∷ z ∷ xs) x e =
    let m : length (y ∷ z ∷ xs) - 1 ≡ suc (length xs) = omega arith in
    let n : length (z ∷ xs) - 1 ≡ length xs = omega arith in
    last-item f (span_of (f y)).end (z ∷ xs) x (e ∙ ap (slice_get (y ∷ z ∷ xs)) m ∙ ap (slice_get (z ∷ xs)) (sym n))

pub last-entry : {A : Type 0} (f : A → Value × Tree) (none : ℕ) (xs : List A) (x : A) → Some x ≡ slice_get xs (length xs - 1) → (span_of (f x).1).end ≡ entries_end none (entries_of (map f xs))
last-entry f none [] x e = none-some x (sym e)
last-entry f none (y ∷ []) x e = ap (λ z. (span_of (f z).1).end) (same_Some x y e)
last-entry f none (y ∷ z ∷ xs) x e =
    let m : length (y ∷ z ∷ xs) - 1 ≡ suc (length xs) = omega arith in
    let n : length (z ∷ xs) - 1 ≡ length xs = omega arith in
    last-entry f (span_of (f y).1).end (z ∷ xs) x (e ∙ ap (slice_get (y ∷ z ∷ xs)) m ∙ ap (slice_get (z ∷ xs)) (sym n))
