-- A builder's bytes and offsets side by side.
use Rattle.std.proofs.Common.{◌≡◌, ℕ, zero, suc, ◌+◌, ◌-◌, ◌<◌, ◌≤◌, min, Option, Some, None, List, [], ◌∷◌, ◌++◌, length, map, take, get_or, refl, ap, arith, sym, ◌∙◌, append_assoc, add-one}
use Rattle.std.specs.Prelude.{slice_get}
use Rattle.std.proofs.lemmas.Option.{same_Some}
use Rattle.lf_scalar.specs.Cells.{Cell, cell, cells, bytes_of, offsets_of, end_of, zipped}
use Rattle.lf_scalar.specs.Folding.{feeds}
use Rattle.lf_scalar.specs.views.Ascending.{offsets_from}

pub zipped-length : (xs ys : List ℕ) → length xs ≡ length ys → length (zipped xs ys) ≡ length xs
zipped-length [] ys e = refl
zipped-length (x ∷ xs) [] e = sym e
zipped-length (x ∷ xs) (y ∷ ys) e = ap suc (zipped-length xs ys (omega (arith, e)))

pub zipped-append : (xs ys us vs : List ℕ) → length xs ≡ length ys → zipped (xs ++ us) (ys ++ vs) ≡ zipped xs ys ++ zipped us vs
zipped-append [] [] us vs e = refl
zipped-append [] (b ∷ ys) us vs e = absurd (omega (arith, e))
zipped-append (a ∷ xs) [] us vs e = absurd (omega (arith, e))
zipped-append (a ∷ xs) (b ∷ ys) us vs e = ap (λ (cs : List Cell). cell a b ∷ cs) (zipped-append xs ys us vs (omega (arith, e)))

zipped-cells : (at : ℕ) (bytes : List ℕ) → zipped bytes (offsets_from at (length bytes)) ≡ cells at bytes
zipped-cells at [] = refl
zipped-cells at (b ∷ bytes) = ap (λ (cs : List Cell). cell b at ∷ cs) (zipped-cells (suc at) bytes)

pub zipped-copy : (xs ys : List ℕ) (at : ℕ) (bytes : List ℕ) → length xs ≡ length ys → zipped (xs ++ bytes) (ys ++ offsets_from at (length bytes)) ≡ zipped xs ys ++ cells at bytes
zipped-copy xs ys at bytes e = zipped-append xs ys bytes (offsets_from at (length bytes)) e ∙ ap (λ (cs : List Cell). zipped xs ys ++ cs) (zipped-cells at bytes)

pub zipped-take : (n : ℕ) (xs ys : List ℕ) → zipped (take n xs) (take n ys) ≡ take n (zipped xs ys)
zipped-take zero xs ys = refl
zipped-take (suc n) [] ys = refl
zipped-take (suc n) (x ∷ xs) [] = refl
zipped-take (suc n) (x ∷ xs) (y ∷ ys) = ap (λ (cs : List Cell). cell x y ∷ cs) (zipped-take n xs ys)

pub feeds-more : (old now : List Cell) (k at : ℕ) → now ≡ old ++ feeds k at → now ++ cell 10 at ∷ [] ≡ old ++ feeds (k + 1) at
feeds-more old now k at e = ap (λ (cs : List Cell). cs ++ cell 10 at ∷ []) e ∙ append_assoc old (feeds k at) (cell 10 at ∷ []) ∙ ap (λ (cs : List Cell). old ++ cs) (turned k ∙ ap (λ (n : ℕ). feeds n at) (sym (add-one k)))
  where
    turned : (k : ℕ) → feeds k at ++ cell 10 at ∷ [] ≡ feeds (suc k) at
    turned zero = refl
    turned (suc k) = ap (λ (cs : List Cell). cell 10 at ∷ cs) (turned k)

pub given-more : (old now : List Cell) (at : ℕ) (bytes : List ℕ) (i : ℕ) → i < length bytes → now ≡ old ++ map (λ (b : ℕ). cell b at) (take i bytes) → now ++ cell (get_or bytes i 0) at ∷ [] ≡ old ++ map (λ (b : ℕ). cell b at) (take (i + 1) bytes)
given-more old now at bytes i lt e =
    ap (λ (cs : List Cell). cs ++ cell (get_or bytes i 0) at ∷ []) e ∙ append_assoc old (map (λ (b : ℕ). cell b at) (take i bytes)) (cell (get_or bytes i 0) at ∷ [])
    ∙ ap (λ (cs : List Cell). old ++ cs) (one bytes i lt ∙ ap (λ (n : ℕ). map (λ (b : ℕ). cell b at) (take n bytes)) (sym (add-one i)))
  where
    one : (bytes : List ℕ) (i : ℕ) → i < length bytes → map (λ (b : ℕ). cell b at) (take i bytes) ++ cell (get_or bytes i 0) at ∷ [] ≡ map (λ (b : ℕ). cell b at) (take (suc i) bytes)
    one [] i lt = absurd (omega arith)
    one (x ∷ xs) zero lt = refl
    one (x ∷ xs) (suc i) lt = ap (λ (cs : List Cell). cell x at ∷ cs) (one xs i (omega arith))

pub zipped-bytes : (xs ys : List ℕ) → length xs ≡ length ys → xs ≡ bytes_of (zipped xs ys)
zipped-bytes [] ys e = refl
zipped-bytes (x ∷ xs) [] e = absurd (omega (arith, e))
zipped-bytes (x ∷ xs) (y ∷ ys) e = ap (λ (bs : List ℕ). x ∷ bs) (zipped-bytes xs ys (omega (arith, e)))

pub zipped-offsets : (xs ys : List ℕ) → length xs ≡ length ys → ys ≡ offsets_of (zipped xs ys)
zipped-offsets [] [] e = refl
zipped-offsets [] (y ∷ ys) e = absurd (omega (arith, e))
zipped-offsets (x ∷ xs) [] e = absurd (omega (arith, e))
zipped-offsets (x ∷ xs) (y ∷ ys) e = ap (λ (bs : List ℕ). y ∷ bs) (zipped-offsets xs ys (omega (arith, e)))

abbrev pub some : ℕ → Option ℕ
some x = Some x

abbrev pub nothing : Option ℕ
nothing = None

pub not-nothing : (x : ℕ) → some x ≡ nothing → ⊥
not-nothing x e = cc

pub end-zipped : (none : ℕ) (xs ys : List ℕ) (x : ℕ) → length xs ≡ length ys → some x ≡ slice_get ys (length ys - 1) → end_of none (zipped xs ys) ≡ x + 1
end-zipped none [] [] x e h = absurd (not-nothing x h)
end-zipped none [] (y ∷ ys) x e h = absurd (omega (arith, e))
end-zipped none (b ∷ xs) [] x e h = absurd (omega (arith, e))
end-zipped none (b ∷ []) (y ∷ []) x e h = rw (same_Some x y h) (sym (add-one y))
end-zipped none (b ∷ []) (y ∷ z ∷ ys) x e h = absurd (omega (arith, e))
end-zipped none (b ∷ c ∷ xs) (y ∷ []) x e h = absurd (omega (arith, e))
end-zipped none (b ∷ c ∷ xs) (y ∷ z ∷ ys) x e h =
    let p : suc (suc (length ys)) - 1 ≡ suc (length ys) = omega arith in
    let q : suc (length ys) - 1 ≡ length ys = omega arith in
    end-zipped (suc y) (c ∷ xs) (z ∷ ys) x (omega (arith, e)) (rw q (rw p at h))

pub end-within : (none : ℕ) (xs ys : List ℕ) (x most : ℕ) → length xs ≡ length ys → some x ≡ slice_get ys (length ys - 1) → x < most → x + 1 ≡ min (end_of none (zipped xs ys)) most
end-within none xs ys x most e h lt = rw (end-zipped none xs ys x e h) (omega arith)

pub end-past : (none : ℕ) (xs ys : List ℕ) (x most : ℕ) → length xs ≡ length ys → some x ≡ slice_get ys (length ys - 1) → most ≤ x → most ≡ min (end_of none (zipped xs ys)) most
end-past none xs ys x most e h le = rw (end-zipped none xs ys x e h) (omega arith)
