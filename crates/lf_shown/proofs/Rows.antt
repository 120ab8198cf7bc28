-- What is held by rows that are made of rows was held by these, and which rows hold the empty text of `*`.
use Rattle.std.proofs.Common.{◌≡◌, ◌⊎◌, inl, inr, ℕ, Bool, true, false, ◌&&◌, ◌||◌, cond, [], length, refl, sym, ◌∙◌, ap, subst, arith}
use Rattle.std.proofs.lemmas.Bool.{or_cases}
use Rattle.lf_laws.proofs.Booleans.{and_left, and_right}
use Rattle.lf_semantics.specs.ClassRows.{Sets, holds, is_live, join, narrowed, normalized, remade, replaced, top}
use Rattle.lf_semantics.specs.Listing.{IsListing, Listing}
use Rattle.lf_semantics.proofs.LeqLaws.{live_more, live_normalized, normalized_live, of_remade}
use Rattle.lf_semantics.proofs.Places.{name_of}
use Rattle.lf_semantics.proofs.RowLaws.{holds-remade, holds_within, length_remade, top_holds}

abbrev pub Held : Sets → ℕ → ℕ → Type 0
Held row l c = holds row l c ≡ true

-- ---- rows made anew

-- a class that was held is left where it passes
pub in_remade : (f : ℕ → ℕ → Bool → Bool) (row : Sets) (l c : ℕ) → Held row l c → f l c true ≡ true → Held (remade f row) l c
in_remade f row l c held passes = let w = holds_within row l c held in holds-remade f row l c w.0 w.1 ∙ ap (f l c) held ∙ passes

-- a live row that was normalized is as it was
pub normalized_same : (row : Sets) → is_live (normalized row) ≡ true → normalized row ≡ row
normalized_same row e = normalized_live row (live_normalized row e)

-- ---- narrowed rows

module _ (test : ℕ → ℕ → Bool) (row : Sets) (live : is_live (narrowed test row) ≡ true) where
  abbrev left_over : Sets
  left_over = remade (λ l c on. on && test l c) row

  narrowed_is : narrowed test row ≡ left_over
  narrowed_is = normalized_same left_over live

  pub narrowed_held : (l c : ℕ) → Held (narrowed test row) l c → Held row l c
  narrowed_held l c e = and_left (holds row l c) (test l c) (of_remade (λ l c on. on && test l c) row l c (subst (λ x. Held x l c) narrowed_is e)).2

  pub narrowed_passes : (l c : ℕ) → Held (narrowed test row) l c → test l c ≡ true
  narrowed_passes l c e = and_right (holds row l c) (test l c) (of_remade (λ l c on. on && test l c) row l c (subst (λ x. Held x l c) narrowed_is e)).2

  pub narrowed_was_live : is_live row ≡ true
  narrowed_was_live =
      live_more left_over row (length_remade _ row) (λ l c e. narrowed_held l c (subst (λ x. Held x l c) (sym narrowed_is) e)) (live_normalized left_over live)

  pub in_narrowed : (l c : ℕ) → Held row l c → test l c ≡ true → Held (narrowed test row) l c
  in_narrowed l c e passes = subst (λ x. Held x l c) (sym narrowed_is) (in_remade (λ l c on. on && test l c) row l c e passes)

-- ---- rows in which some labels are replaced

pub replaced_was_live : (chosen : ℕ → Bool) (test : ℕ → ℕ → Bool) (row : Sets) → is_live (replaced chosen test row) ≡ true → is_live row ≡ true
replaced_was_live chosen test row live = by (is_live row) refl live
  where
    by : (b : Bool) → is_live row ≡ b → is_live (cond b (normalized (remade (λ l c on. cond (chosen l) (test l c) on) row)) row) ≡ true → is_live row ≡ true
    by true e f = e
    by false e f = f

module _ (chosen : ℕ → Bool) (test : ℕ → ℕ → Bool) (row : Sets) (live : is_live (replaced chosen test row) ≡ true) where
  abbrev pub new : Sets
  new = remade (λ l c on. cond (chosen l) (test l c) on) row

  pub replaced_is : replaced chosen test row ≡ new
  replaced_is =
      let e : replaced chosen test row ≡ normalized new = ap (λ b. cond b (normalized new) row) (replaced_was_live chosen test row live) in
      e ∙ normalized_same new (ap is_live (sym e) ∙ live)

  replaced_cond : (l c : ℕ) → Held (replaced chosen test row) l c → cond (chosen l) (test l c) (holds row l c) ≡ true
  replaced_cond l c e = (of_remade (λ l c on. cond (chosen l) (test l c) on) row l c (subst (λ x. Held x l c) replaced_is e)).2

  pub replaced_held : (l c : ℕ) → Held (replaced chosen test row) l c → chosen l ≡ false → Held row l c
  replaced_held l c e other = sym (ap (λ b. cond b (test l c) (holds row l c)) other) ∙ replaced_cond l c e

  pub replaced_passes : (l c : ℕ) → Held (replaced chosen test row) l c → chosen l ≡ true → test l c ≡ true
  replaced_passes l c e is = sym (ap (λ b. cond b (test l c) (holds row l c)) is) ∙ replaced_cond l c e

  pub in_replaced : (l c : ℕ) → Held row l c → (chosen l ≡ true → test l c ≡ true) → Held (replaced chosen test row) l c
  in_replaced l c e passes = subst (λ x. Held x l c) (sym replaced_is) (in_remade (λ l c on. cond (chosen l) (test l c) on) row l c e (by (chosen l) refl))
    where
      by : (b : Bool) → chosen l ≡ b → cond b (test l c) true ≡ true
      by true is = passes is
      by false is = refl

-- ---- joins

module _ (row other : Sets) (live : is_live (join row other) ≡ true) where
  abbrev joined : Sets
  joined = remade (λ l c on. on || holds other l c) row

  pub join_was_live : (is_live row ≡ true) ⊎ (is_live other ≡ true)
  join_was_live = by (is_live row) refl live
    where
      by : (a : Bool) → is_live row ≡ a → is_live (cond a (cond (is_live other) joined row) other) ≡ true → (is_live row ≡ true) ⊎ (is_live other ≡ true)
      by true e f = inl e
      by false e f = inr f

  pub join_held : (l c : ℕ) → Held (join row other) l c → ((is_live row ≡ true) × Held row l c) ⊎ ((is_live other ≡ true) × Held other l c)
  join_held l c h = by (is_live row) (is_live other) refl refl live h
    where
      by : (a b : Bool) → is_live row ≡ a → is_live other ≡ b → is_live (cond a (cond b joined row) other) ≡ true → Held (cond a (cond b joined row) other) l c → ((is_live row ≡ true) × Held row l c) ⊎ ((is_live other ≡ true) × Held other l c)
      by true true e f k h = elim (or_cases (holds row l c) (holds other l c) (of_remade (λ l c on. on || holds other l c) row l c h).2) [ inl x ↦ inl (e, x) | inr y ↦ inr (f, y) ]
      by true false e f k h = inl (e, h)
      by false b e f k h = inr (k, h)

-- ---- the empty text of `*`, which is the label behind those that are named

-- a row that isn't empty holds it
abbrev pub HasOthers : Listing → Sets → Type 0
HasOthers u row = is_live row ≡ true → Held row (length u.names) 0

module _ (u : Listing) (p : IsListing u) where
  pub others_top : HasOthers u (top u)
  others_top live = let n = name_of u p (length u.names) (omega arith) in subst (λ k. Held (top u) k 0) n.1 (top_holds u p n.0 [])

  pub others_narrowed : (test : ℕ → ℕ → Bool) (row : Sets) → test (length u.names) 0 ≡ true → HasOthers u row → HasOthers u (narrowed test row)
  others_narrowed test row passes others live = in_narrowed test row live (length u.names) 0 (others (narrowed_was_live test row live)) passes

  pub others_replaced : (chosen : ℕ → Bool) (test : ℕ → ℕ → Bool) (row : Sets) → (chosen (length u.names) ≡ true → test (length u.names) 0 ≡ true) → HasOthers u row → HasOthers u (replaced chosen test row)
  others_replaced chosen test row passes others live = in_replaced chosen test row live (length u.names) 0 (others (replaced_was_live chosen test row live)) passes
