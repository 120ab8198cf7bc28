-- One element more of a list that is made along another.
use Rattle.std.proofs.Common.{◌≡◌, ◌<◌, ◌+◌, ℕ, List, [], ◌∷◌, ◌++◌, map, length, take, get_or, sym, ◌∙◌, ap}
use Rattle.std.proofs.lemmas.List.{map_more, map_push}

module _ {X Y : Type 0} (g : X → Y) (xs : List X) (k : ℕ) (x : X) (less : k < length xs) (is : x ≡ get_or xs k x) where
  image_next : map g (take k xs) ++ g x ∷ [] ≡ map g (take (k + 1) xs)
  image_next = ap (λ (z : X). map g (take k xs) ++ g z ∷ []) is ∙ sym (map_more g xs k x less)

  -- what is made of each
  pub one_more : (old new : List Y) (y : Y) → old ≡ map g (take k xs) → y ≡ g x → new ≡ old ++ y ∷ [] → new ≡ map g (take (k + 1) xs)
  one_more old new y had one pushed = pushed ∙ ap (λ (ys : List Y). ys ++ y ∷ []) had ∙ ap (λ (z : Y). map g (take k xs) ++ z ∷ []) one ∙ image_next

  -- and what is made of that
  pub one_image_more : {Z : Type 0} (f : Y → Z) (old new : List Z) (z : Z) → old ≡ map f (map g (take k xs)) → z ≡ f (g x) → new ≡ old ++ z ∷ [] → new ≡ map f (map g (take (k + 1) xs))
  one_image_more {Z = Z} f old new z had one pushed =
      pushed
      ∙ ap (λ (zs : List Z). zs ++ z ∷ []) had
      ∙ ap (λ (y : Z). map f (map g (take k xs)) ++ y ∷ []) one
      ∙ sym (map_push f (map g (take k xs)) (g x))
      ∙ ap (map f) image_next
