-- Going over what stands between quotes.
use Rattle.std.proofs.Common.{◌≡◌, ℕ, zero, suc, ◌+◌, ◌-◌, ◌<◌, ◌≤◌, List, [], ◌∷◌, ◌++◌, map, length, get_or, drop, refl, ap, arith, add-one, drop-cons, append_assoc, sym, ◌∙◌}
use Rattle.std.proofs.lemmas.List.{drop_all, map-append}
use Rattle.lf_lex.specs.reading.Strings.{PlacedByte, placed, piece, gives, bytes_of, places_of}

module _ (quote : ℕ) (inner : List ℕ) (i : ℕ) (lt : i < length inner) where
  pub gives-skip : (skip : ℕ) → 0 < skip → gives quote i skip (drop i inner) ≡ gives quote (i + 1) (skip - 1) (drop (i + 1) inner)
  unfolding gives
  gives-skip zero p = absurd (omega arith)
  gives-skip (suc k) p = let e : suc k - 1 ≡ k = omega arith in rw (add-one, drop-cons inner i 0, e) refl

  pub gives-piece : (skip : ℕ) → skip ≤ 0 → gives quote i skip (drop i inner) ≡ map (placed i) (piece quote (drop i inner)).0 ++ gives quote (i + 1) (piece quote (drop i inner)).1 (drop (i + 1) inner)
  unfolding gives
  gives-piece (suc k) p = absurd (omega arith)
  gives-piece zero p = rw (add-one, drop-cons inner i 0) refl

pub gives-end : (quote : ℕ) (inner : List ℕ) (i k skip : ℕ) → length inner ≤ i → gives quote k skip (drop i inner) ≡ []
unfolding gives
gives-end quote inner i k skip le = rw (drop_all i inner le) refl

pub bytes-placed : (place : ℕ) (xs : List ℕ) → bytes_of (map (placed place) xs) ≡ xs
bytes-placed place [] = refl
bytes-placed place (x ∷ xs) = ap (λ (ys : List ℕ). x ∷ ys) (bytes-placed place xs)

pub bytes-more : (place : ℕ) (xs : List ℕ) (gs : List PlacedByte) → bytes_of (map (placed place) xs ++ gs) ≡ xs ++ bytes_of gs
bytes-more place xs gs = map-append (λ (g : PlacedByte). g.byte) (map (placed place) xs) gs ∙ ap (λ (ys : List ℕ). ys ++ bytes_of gs) (bytes-placed place xs)

-- ---- the bytes so far, and those that are still to come

module _ (quote : ℕ) (inner : List ℕ) (i : ℕ) (lt : i < length inner) (bytes : List ℕ) where
  pub bytes-skip : (skip : ℕ) → 0 < skip → bytes ++ bytes_of (gives quote i skip (drop i inner)) ≡ bytes ++ bytes_of (gives quote (i + 1) (skip - 1) (drop (i + 1) inner))
  bytes-skip skip p = ap (λ (gs : List PlacedByte). bytes ++ bytes_of gs) (gives-skip quote inner i lt skip p)

  pub bytes-piece : (skip : ℕ) → skip ≤ 0 → (xs : List ℕ) (more : ℕ) → (xs, more) ≡ piece quote (drop i inner) → bytes ++ bytes_of (gives quote i skip (drop i inner)) ≡ (bytes ++ xs) ++ bytes_of (gives quote (i + 1) more (drop (i + 1) inner))
  bytes-piece skip p xs more e =
      let here : gives quote i skip (drop i inner) ≡ map (placed i) xs ++ gives quote (i + 1) more (drop (i + 1) inner) = gives-piece quote inner i lt skip p ∙ ap (λ (q : List ℕ × ℕ). map (placed i) q.0 ++ gives quote (i + 1) q.1 (drop (i + 1) inner)) (sym e) in
      ap (λ (gs : List PlacedByte). bytes ++ bytes_of gs) here ∙ ap (λ (ys : List ℕ). bytes ++ ys) (bytes-more i xs _) ∙ sym (append_assoc bytes xs (bytes_of (gives quote (i + 1) more (drop (i + 1) inner))))

-- ---- the place of a byte

pub places-past : (i : ℕ) (xs : List ℕ) (gs : List PlacedByte) (left : ℕ) → length xs ≤ left → get_or (places_of (map (placed i) xs ++ gs)) left 0 ≡ get_or (places_of gs) (left - length xs) 0
places-past i [] gs left le = let e : left - 0 ≡ left = omega arith in rw e refl
places-past i (x ∷ xs) gs zero le = absurd (omega arith)
places-past i (x ∷ xs) gs (suc left) le = let e : suc left - length (x ∷ xs) ≡ left - length xs = omega arith in rw e (places-past i xs gs left (omega arith))

pub places-here : (i : ℕ) (xs : List ℕ) (gs : List PlacedByte) (left : ℕ) → left < length xs → get_or (places_of (map (placed i) xs ++ gs)) left 0 ≡ i
places-here i [] gs left lt = absurd (omega arith)
places-here i (x ∷ xs) gs zero lt = refl
places-here i (x ∷ xs) gs (suc left) lt = places-here i xs gs left (omega arith)

length-pieces : (i : ℕ) (xs : List ℕ) (gs : List PlacedByte) → length (map (placed i) xs ++ gs) ≡ length xs + length gs
length-pieces i [] gs = omega arith
length-pieces i (x ∷ xs) gs = let e = length-pieces i xs gs in omega arith

module _ (quote : ℕ) (inner : List ℕ) (i : ℕ) (lt : i < length inner) (left : ℕ) where
  here : (skip : ℕ) → skip ≤ 0 → (xs : List ℕ) (more : ℕ) → (xs, more) ≡ piece quote (drop i inner) → gives quote i skip (drop i inner) ≡ map (placed i) xs ++ gives quote (i + 1) more (drop (i + 1) inner)
  here skip p xs more e = gives-piece quote inner i lt skip p ∙ ap (λ (q : List ℕ × ℕ). map (placed i) q.0 ++ gives quote (i + 1) q.1 (drop (i + 1) inner)) (sym e)

  pub place-skip : (skip : ℕ) → 0 < skip → get_or (places_of (gives quote i skip (drop i inner))) left 0 ≡ get_or (places_of (gives quote (i + 1) (skip - 1) (drop (i + 1) inner))) left 0
  place-skip skip p = ap (λ (gs : List PlacedByte). get_or (places_of gs) left 0) (gives-skip quote inner i lt skip p)

  pub within-skip : (skip : ℕ) → 0 < skip → left < length (gives quote i skip (drop i inner)) → left < length (gives quote (i + 1) (skip - 1) (drop (i + 1) inner))
  within-skip skip p h = let e = ap length (gives-skip quote inner i lt skip p) in omega arith

  module _ (skip : ℕ) (p : skip ≤ 0) (xs : List ℕ) (more : ℕ) (e : (xs, more) ≡ piece quote (drop i inner)) where
    pub place-here : left < length xs → get_or (places_of (gives quote i skip (drop i inner))) left 0 ≡ i
    place-here h = rw (here skip p xs more e) (places-here i xs _ left h)

    pub place-past : length xs ≤ left → get_or (places_of (gives quote i skip (drop i inner))) left 0 ≡ get_or (places_of (gives quote (i + 1) more (drop (i + 1) inner))) (left - length xs) 0
    place-past h = rw (here skip p xs more e) (places-past i xs _ left h)

    pub within-past : length xs ≤ left → left < length (gives quote i skip (drop i inner)) → left - length xs < length (gives quote (i + 1) more (drop (i + 1) inner))
    within-past h l =
        let k = ap length (here skip p xs more e) in
        let m = length-pieces i xs (gives quote (i + 1) more (drop (i + 1) inner)) in
        omega arith
