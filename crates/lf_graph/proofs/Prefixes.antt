-- Prefixes of lists that get one more element.
use Rattle.std.proofs.Common.{◌≡◌, ℕ, ◌+◌, ◌<◌, List, [], ◌∷◌, ◌++◌, take, length, get_or, sym, ◌∙◌, ap}
use Rattle.std.specs.List.{flat_map}
use Rattle.std.proofs.lemmas.Grind.{flat_map-append}
use Rattle.std.proofs.lemmas.List.{append-nil, take_more}

pub prefix_next : {X : Type 0} (xs : List X) (k : ℕ) (d x : X) → k < length xs → x ≡ get_or xs k d → take (k + 1) xs ≡ take k xs ++ x ∷ []
prefix_next xs k d x h is = take_more xs k d h ∙ ap (λ y. take k xs ++ y ∷ []) (sym is)

-- what its elements give, one after the other
pub flat_map_next : {X Y : Type 0} (f : X → List Y) (xs : List X) (k : ℕ) (d x : X) → k < length xs → x ≡ get_or xs k d → flat_map f (take (k + 1) xs) ≡ flat_map f (take k xs) ++ f x
flat_map_next f xs k d x h is =
    ap (flat_map f) (prefix_next xs k d x h is)
    ∙ flat_map-append f (take k xs) (x ∷ [])
    ∙ ap (λ l. flat_map f (take k xs) ++ l) (append-nil (f x))
