-- The order of rows: what is made of a row grows with the row, and `join` is the least upper bound.
use Rattle.std.proofs.Common.{◌≡◌, ℕ, ◌+◌, ◌<◌, Bool, true, false, ◌&&◌, ◌||◌, cond, eqb, List, [], ◌∷◌, map, length, get_or, inl, inr, refl, sym, ◌∙◌, ap, subst, arith}
use Rattle.std.proofs.lemmas.List.{get_or-map, length-map}
use Rattle.std.proofs.lemmas.Bool.{or_cases, or_left, or_right}
use Rattle.lf_semantics.specs.ClassRows.{HasShape, Sets, bottom, emptied, holds, indexed_from, is_live, join, narrowed, normalized, only_empty, remade, replaced, top}
use Rattle.lf_semantics.specs.Environments.{Leq}
use Rattle.lf_semantics.specs.Listing.{IsListing, Listing}
use Rattle.lf_laws.proofs.Booleans.{and_left, clash}
use Rattle.lf_semantics.proofs.RowLaws.{get_or-indexed, holds-remade, holds_within, length-indexed, length_row, live_when, shape_remade, shape_top}
use Rattle.lf_semantics.proofs.RowSets.{emptied_dead, live_at}

pub leq_refl : (row : Sets) → Leq row row
leq_refl row e = (e, λ l c h. h)

pub leq_trans : (a b c : Sets) → Leq a b → Leq b c → Leq a c
leq_trans a b c h k e = let f = h e in let g = k f.0 in (g.0, λ l x i. g.1 l x (f.1 l x i))

-- the empty row is at most each
pub leq_dead : (row other : Sets) → is_live row ≡ false → Leq row other
leq_dead row other f e = absurd (clash _ e f)

-- what has each class of a row that isn't empty isn't empty
pub live_more : (row other : Sets) → length row ≡ length other → ((l c : ℕ) → holds row l c ≡ true → holds other l c ≡ true) → is_live row ≡ true → is_live other ≡ true
live_more row other n h e =
    live_when other (λ l b. let r = live_at row l e (omega (arith, n)) in (r.0, h l r.0 r.2))

pub same_length : (u : Listing) (row other : Sets) → HasShape u row → HasShape u other → length row ≡ length other
same_length u row other s t = sym (length-map row length) ∙ ap length (s ∙ sym t) ∙ length-map other length

pub bottom_dead : (u : Listing) → IsListing u → is_live (bottom u) ≡ false
bottom_dead u p = emptied_dead (top u) (omega (arith, length_row u p (top u) (shape_top u)))

pub live_normalized : (row : Sets) → is_live (normalized row) ≡ true → is_live row ≡ true
live_normalized row e = by row (is_live row) refl e
  where
    by : (row : Sets) (b : Bool) → is_live row ≡ b → is_live (cond b row (emptied row)) ≡ true → is_live row ≡ true
    by row true f e = f
    by [] false f e = refl
    by (set ∷ row) false f e = absurd (clash _ e (emptied_dead (set ∷ row) (omega arith)))

pub normalized_live : (row : Sets) → is_live row ≡ true → normalized row ≡ row
normalized_live row e = ap (λ b. cond b row (emptied row)) e

-- rows made anew

pub of_remade : (f : ℕ → ℕ → Bool → Bool) (row : Sets) (l c : ℕ) → holds (remade f row) l c ≡ true → (l < length row) × (c < length (get_or row l [])) × (f l c (holds row l c) ≡ true)
of_remade f row l c e =
    let w = holds_within (remade f row) l c e in
    let b : l < length row = omega (arith, w.0, length-indexed (λ l set. indexed_from (λ c on. f l c on) 0 set) 0 row) in
    let n : length (get_or (remade f row) l []) ≡ length (get_or row l []) =
    ap length (get_or-indexed (λ l set. indexed_from (λ c on. f l c on) 0 set) 0 row l [] [] b) ∙ length-indexed (λ c on. f (0 + l) c on) 0 (get_or row l []) in
    let d : c < length (get_or row l []) = omega (arith, w.1, n) in
    (b, d, sym (holds-remade f row l c b d) ∙ e)

map_at : (xs : List (List Bool)) (l : ℕ) → l < length xs → get_or (map length xs) l 0 ≡ length (get_or xs l [])
map_at xs l h = get_or-map length xs l [] 0 h

-- rows of one universe have the same places
same_places : (u : Listing) (row other : Sets) → HasShape u row → HasShape u other → (l c : ℕ) → l < length other → c < length (get_or other l []) → (l < length row) × (c < length (get_or row l []))
same_places u row other shape shape' l c h k =
    let b : l < length row = omega (arith, same_length u row other shape shape') in
    let m : length (get_or row l []) ≡ length (get_or other l []) = sym (map_at row l b) ∙ ap (λ xs. get_or xs l 0) (shape ∙ sym shape') ∙ map_at other l h in
    (b, omega (arith, m, k))

module _ (u : Listing) (row other : Sets) (s : HasShape u row) (t : HasShape u other) where
  remade_more : (f g : ℕ → ℕ → Bool → Bool) → ((l c : ℕ) → f l c (holds row l c) ≡ true → g l c (holds other l c) ≡ true) → (l c : ℕ) → holds (remade f row) l c ≡ true → holds (remade g other) l c ≡ true
  remade_more f g h l c e =
      let r = of_remade f row l c e in
      let w = same_places u other row t s l c r.0 r.1 in
      holds-remade g other l c w.0 w.1 ∙ h l c r.2

  -- where each class that is left in the one is left in the other
  pub leq_remade : (f g : ℕ → ℕ → Bool → Bool) → ((l c : ℕ) → f l c (holds row l c) ≡ true → g l c (holds other l c) ≡ true) → Leq (normalized (remade f row)) (normalized (remade g other))
  leq_remade f g h e =
      let new : Sets = remade f row in
      let new' : Sets = remade g other in
      let live_new : is_live new ≡ true = live_normalized new e in
      let more : (l c : ℕ) → holds new l c ≡ true → holds new' l c ≡ true = remade_more f g h in
      let live_new' : is_live new' ≡ true = live_more new new' (same_length u new new' (shape_remade f 0 row ∙ s) (shape_remade g 0 other ∙ t)) more live_new in
      let Q : Sets → Sets → Type 0 = λ x y. (is_live y ≡ true) × ((l c : ℕ) → holds x l c ≡ true → holds y l c ≡ true) in
      subst (λ x. Q x (normalized new')) (sym (normalized_live new live_new)) (subst (Q new) (sym (normalized_live new' live_new')) (live_new', more))

  of_narrowed : (test : ℕ → ℕ → Bool) → is_live (narrowed test row) ≡ true → is_live row ≡ true
  of_narrowed test e =
      let new : Sets = remade (λ l c on. on && test l c) row in
      live_more new row (same_length u new row (shape_remade (λ l c on. on && test l c) 0 row ∙ s) s) (λ l c h. and_left (holds row l c) (test l c) (of_remade (λ l c on. on && test l c) row l c h).2) (live_normalized new e)

  pub leq_narrowed : (test test' : ℕ → ℕ → Bool) → (is_live row ≡ true → (l c : ℕ) → test l c ≡ true → test' l c ≡ true) → Leq row other → Leq (narrowed test row) (narrowed test' other)
  leq_narrowed test test' more h e =
      let is = of_narrowed test e in
      let k = h is in
      leq_remade (λ l c on. on && test l c) (λ l c on. on && test' l c) (λ l c. both (holds row l c) (test l c) (holds other l c) (test' l c) (k.1 l c) (more is l c)) e
    where
      both : (a b a' b' : Bool) → (a ≡ true → a' ≡ true) → (b ≡ true → b' ≡ true) → (a && b) ≡ true → (a' && b') ≡ true
      both true true a' b' f g h = rw (f refl, g refl) refl
      both true false a' b' f g h = absurd (clash _ h refl)
      both false b a' b' f g h = absurd (clash _ h refl)

  pub leq_replaced : (chosen : ℕ → Bool) (test test' : ℕ → ℕ → Bool) → (is_live row ≡ true → (l c : ℕ) → test l c ≡ true → test' l c ≡ true) → Leq row other → Leq (replaced chosen test row) (replaced chosen test' other)
  leq_replaced chosen test test' more h e = by (is_live row) refl e
    where
      either_case : (q a a' b b' : Bool) → (a ≡ true → a' ≡ true) → (b ≡ true → b' ≡ true) → cond q a b ≡ true → cond q a' b' ≡ true
      either_case true a a' b b' f g h = f h
      either_case false a a' b b' f g h = g h

      new : Sets
      new = normalized (remade (λ l c on. cond (chosen l) (test l c) on) row)

      new' : Sets
      new' = normalized (remade (λ l c on. cond (chosen l) (test' l c) on) other)

      by : (b : Bool) → is_live row ≡ b → is_live (cond b (normalized (remade (λ l c on. cond (chosen l) (test l c) on) row)) row) ≡ true
          → (is_live (replaced chosen test' other) ≡ true) × ((l c : ℕ) → holds (replaced chosen test row) l c ≡ true → holds (replaced chosen test' other) l c ≡ true)
      by true f e =
          let k = h f in
          let Q : Bool → Bool → Type 0 = λ x y.
          (is_live (cond y (normalized (remade (λ l c on. cond (chosen l) (test' l c) on) other)) other) ≡ true)
          × ((l c : ℕ) → holds (cond x (normalized (remade (λ l c on. cond (chosen l) (test l c) on) row)) row) l c ≡ true → holds (cond y (normalized (remade (λ l c on. cond (chosen l) (test' l c) on) other)) other) l c ≡ true) in
          subst (λ x. Q x (is_live other)) (sym f) (subst (Q true) (sym k.0)
          (leq_remade (λ l c on. cond (chosen l) (test l c) on) (λ l c on. cond (chosen l) (test' l c) on)
          (λ l c. either_case (chosen l) (test l c) (test' l c) (holds row l c) (holds other l c) (more f l c) (k.1 l c)) e))
      by false f e = absurd (clash _ e f)

  pub leq_only_empty : (chosen : ℕ → Bool) → Leq row other → Leq (only_empty chosen row) (only_empty chosen other)
  leq_only_empty chosen h = leq_replaced chosen (λ l c. eqb c 0) (λ l c. eqb c 0) (λ live l c e. e) h

-- joins

-- the join is the least row that is at least both
pub join_least : (row other top : Sets) → Leq row top → Leq other top → Leq (join row other) top
join_least row other top h k e = by (is_live row) (is_live other) refl refl e
  where
    new : Sets
    new = remade (λ l c on. on || holds other l c) row

    by : (a b : Bool) → is_live row ≡ a → is_live other ≡ b → is_live (cond a (cond b new row) other) ≡ true → (is_live top ≡ true) × ((l c : ℕ) → holds (join row other) l c ≡ true → holds top l c ≡ true)
    by true true f g e =
        rw (f, g) ((h f).0, λ l c i. let r = of_remade (λ l c on. on || holds other l c) row l c i in elim (or_cases (holds row l c) (holds other l c) r.2) [ inl x ↦ (h f).1 l c x | inr y ↦ (k g).1 l c y ])
    by true false f g e = rw (f, g) (h f)
    by false b f g e = rw f (k e)

module _ (u : Listing) (row other : Sets) (s : HasShape u row) (t : HasShape u other) where
  abbrev joined : Sets
  joined = remade (λ l c on. on || holds other l c) row

  pub leq_join_left : Leq row (join row other)
  leq_join_left e = by (is_live other) refl
    where
      all : (l c : ℕ) → holds row l c ≡ true → holds (remade (λ l c on. on || holds other l c) row) l c ≡ true
      all l c i = let w = holds_within row l c i in holds-remade (λ l c on. on || holds other l c) row l c w.0 w.1 ∙ or_left (holds row l c) (holds other l c) i

      by : (b : Bool) → is_live other ≡ b → (is_live (join row other) ≡ true) × ((l c : ℕ) → holds row l c ≡ true → holds (join row other) l c ≡ true)
      by true g = rw (e, g) (live_more row joined (same_length u row joined s (shape_remade _ 0 row ∙ s)) all e, all)
      by false g = rw (e, g) (e, λ l c i. i)

  pub leq_join_right : Leq other (join row other)
  leq_join_right e = by (is_live row) refl
    where
      all : (l c : ℕ) → holds other l c ≡ true → holds (remade (λ l c on. on || holds other l c) row) l c ≡ true
      all l c i =
          let v = holds_within other l c i in
          let w = same_places u row other s t l c v.0 v.1 in
          holds-remade (λ l c on. on || holds other l c) row l c w.0 w.1 ∙ or_right (holds row l c) (holds other l c) i

      by : (b : Bool) → is_live row ≡ b → (is_live (join row other) ≡ true) × ((l c : ℕ) → holds other l c ≡ true → holds (join row other) l c ≡ true)
      by true g = rw (g, e) (live_more other joined (same_length u other joined t (shape_remade _ 0 row ∙ s)) all e, all)
      by false g = rw g (e, λ l c i. i)

pub leq_join : (u : Listing) (row other row' other' : Sets) → HasShape u row' → HasShape u other' → Leq row row' → Leq other other' → Leq (join row other) (join row' other')
leq_join u row other row' other' s t h k =
    join_least row other (join row' other') (leq_trans row row' (join row' other') h (leq_join_left u row' other' s t)) (leq_trans other other' (join row' other') k (leq_join_right u row' other' s t))
