-- What is told of rules, taken apart.
use Rattle.std.proofs.Common.{◌≡◌, List, [], ◌∷◌, ◌++◌, map, reverse, refl, append_assoc, sym, ◌∙◌, ap, ap₂}
use Rattle.std.specs.List.{AllZip}
use Rattle.std.proofs.lemmas.List.{map-append, reverse-append}

-- what stands side by side has the same images
pub along : {X Y Z : Type 0} {R : X → Y → Type 0} (f : Y → Z) (g : X → Z) (xs : List X) (ys : List Y) → AllZip R xs ys → ((x : X) (y : Y) → R x y → f y ≡ g x) → map f ys ≡ map g xs
along f g [] [] zip same = refl
along f g [] (y ∷ ys) zip same = absurd zip
along f g (x ∷ xs) [] zip same = absurd zip
along {Z = Z} f g (x ∷ xs) (y ∷ ys) zip same = ap₂ (λ (z : Z) (l : List Z). z ∷ l) (same x y zip.0) (along f g xs ys zip.1 same)

-- and what is known of each is known of the images
pub images : {X Y Z : Type 0} {R : X → Y → Type 0} (Q : X → Z → Type 0) (f : Y → Z) (xs : List X) (ys : List Y) → AllZip R xs ys → ((x : X) (y : Y) → R x y → Q x (f y)) → AllZip Q xs (map f ys)
images Q f [] [] zip each = tt
images Q f [] (y ∷ ys) zip each = absurd zip
images Q f (x ∷ xs) [] zip each = absurd zip
images Q f (x ∷ xs) (y ∷ ys) zip each = (each x y zip.0, images Q f xs ys zip.1 each)

-- what is taken off the end of one list stands first in the other
pub moved : {X : Type 0} (old front : List X) (x y : X) (rows more : List X) → old ≡ front ++ x ∷ [] → y ≡ x → more ≡ rows ++ y ∷ [] → old ++ reverse rows ≡ front ++ reverse more
moved {X = X} old front x y rows more taken is pushed =
    ap (λ (xs : List X). xs ++ reverse rows) taken
    ∙ append_assoc front (x ∷ []) (reverse rows)
    ∙ ap (λ (z : X). front ++ z ∷ reverse rows) (sym is)
    ∙ ap (λ (ys : List X). front ++ ys) (sym (reverse-append rows (y ∷ [])))
    ∙ ap (λ (ys : List X). front ++ reverse ys) (sym pushed)

-- and so do the images
pub image_moved : {X Y : Type 0} (f : Y → X) (old front : List Y) (row : Y) (rows more : List X) → old ≡ front ++ row ∷ [] → more ≡ rows ++ f row ∷ [] → map f old ++ reverse rows ≡ map f front ++ reverse more
image_moved f old front row rows more taken pushed = moved (map f old) (map f front) (f row) (f row) rows more (ap (map f) taken ∙ map-append f front (row ∷ [])) refl pushed
