-- A step that adds a class leaves fewer that are missing.
use Rattle.std.proofs.Common.{◌≡◌, ℕ, zero, suc, ◌+◌, ◌<◌, ◌≤◌, Bool, true, false, cond, List, [], ◌∷◌, map, length, get_or, Some, inl, inr, refl, sym, ◌∙◌, ap, subst, arith}
use Rattle.std.specs.List.{AllByRecursion}
use Rattle.std.specs.Str.{bytes_eq}
use Rattle.std.proofs.lemmas.Bool.{cases_lt}
use Rattle.std.proofs.lemmas.Option.{none-some, same_Some}
use Rattle.lf_ast.specs.Labels.{Bytes}
use Rattle.lf_flow.specs.Raising.{joined}
use Rattle.lf_semantics.specs.ClassRows.{Sets, emptied, holds, is_live, normalized, join}
use Rattle.lf_semantics.specs.Environments.{IsRow, Leq}
use Rattle.lf_semantics.specs.Listing.{Listing}
use Rattle.lf_semantics.specs.RowTable.{Environment, row_named}
use Rattle.lf_semantics.proofs.RowLaws.{shape_join}
use Rattle.lf_semantics.proofs.RowSets.{emptied_holds}
use Rattle.lf_semantics.proofs.NormalizedRows.{normalized_join}
use Rattle.lf_laws.proofs.Booleans.{clash}
use Rattle.lf_semantics.proofs.LeqLaws.{live_more, same_length, leq_trans, leq_join_left, leq_join_right}
use Rattle.lf_fix.specs.views.Rounds.{missing, missing_in, missing_of}

-- sets

missing_le : (xs ys : List Bool) → length xs ≡ length ys → ((i : ℕ) → get_or xs i false ≡ true → get_or ys i false ≡ true) → missing_in ys ≤ missing_in xs
missing_le [] [] n h = omega arith
missing_le [] (y ∷ ys) n h = absurd (omega arith)
missing_le (x ∷ xs) [] n h = absurd (omega arith)
missing_le (true ∷ xs) (true ∷ ys) n h = missing_le xs ys (omega arith) (λ i e. h (suc i) e)
missing_le (true ∷ xs) (false ∷ ys) n h = absurd (clash _ (h 0 refl) refl)
missing_le (false ∷ xs) (true ∷ ys) n h = let r = missing_le xs ys (omega arith) (λ i e. h (suc i) e) in omega arith
missing_le (false ∷ xs) (false ∷ ys) n h = let r = missing_le xs ys (omega arith) (λ i e. h (suc i) e) in omega arith

missing_same : (xs ys : List Bool) → length xs ≡ length ys → ((i : ℕ) → get_or xs i false ≡ true → get_or ys i false ≡ true) → missing_in xs ≤ missing_in ys → (i : ℕ) → get_or ys i false ≡ true → get_or xs i false ≡ true
missing_same [] [] n h e i k = k
missing_same [] (y ∷ ys) n h e i k = absurd (omega arith)
missing_same (x ∷ xs) [] n h e i k = absurd (omega arith)
missing_same (true ∷ xs) (y ∷ ys) n h e zero k = refl
missing_same (true ∷ xs) (true ∷ ys) n h e (suc i) k = missing_same xs ys (omega arith) (λ j f. h (suc j) f) e i k
missing_same (true ∷ xs) (false ∷ ys) n h e (suc i) k = absurd (clash _ (h 0 refl) refl)
missing_same (false ∷ xs) (true ∷ ys) n h e i k = let r = missing_le xs ys (omega arith) (λ j f. h (suc j) f) in absurd (omega arith)
missing_same (false ∷ xs) (false ∷ ys) n h e zero k = k
missing_same (false ∷ xs) (false ∷ ys) n h e (suc i) k = missing_same xs ys (omega arith) (λ j f. h (suc j) f) (omega arith) i k

-- rows

row_le : (row other : Sets) → map length row ≡ map length other → ((l c : ℕ) → holds row l c ≡ true → holds other l c ≡ true) → missing_of other ≤ missing_of row
row_le [] [] n h = omega arith
row_le [] (y ∷ other) n h = absurd (cc)
row_le (x ∷ row) [] n h = absurd (cc)
row_le (x ∷ row) (y ∷ other) n h =
    let m : length x ≡ length y = cc in
    let k : map length row ≡ map length other = cc in
    let a = missing_le x y m (λ i e. h 0 i e) in
    let b = row_le row other k (λ l c e. h (suc l) c e) in
    omega arith

row_same : (row other : Sets) → map length row ≡ map length other → ((l c : ℕ) → holds row l c ≡ true → holds other l c ≡ true) → missing_of row ≤ missing_of other → (l c : ℕ) → holds other l c ≡ true → holds row l c ≡ true
row_same [] [] n h e l c k = k
row_same [] (y ∷ other) n h e l c k = absurd (cc)
row_same (x ∷ row) [] n h e l c k = absurd (cc)
row_same (x ∷ row) (y ∷ other) n h e l c k =
    let m : length x ≡ length y = cc in
    let t : map length row ≡ map length other = cc in
    let a = missing_le x y m (λ i e. h 0 i e) in
    let b = row_le row other t (λ l c e. h (suc l) c e) in
    pick l (missing_same x y m (λ i e. h 0 i e) (omega arith)) (row_same row other t (λ l c e. h (suc l) c e) (omega arith)) k
  where
    pick : (l : ℕ) → ((i : ℕ) → get_or y i false ≡ true → get_or x i false ≡ true) → ((l c : ℕ) → holds other l c ≡ true → holds row l c ≡ true) → holds (y ∷ other) l c ≡ true → holds (x ∷ row) l c ≡ true
    pick zero f g k = f c k
    pick (suc l) f g k = g l c k

-- a row of the universe that holds a class isn't empty
live_if : (row : Sets) → normalized row ≡ row → (l c : ℕ) → holds row l c ≡ true → is_live row ≡ true
live_if row is l c h = by (is_live row) refl
  where
    by : (b : Bool) → is_live row ≡ b → is_live row ≡ true
    by true e = e
    by false e =
        let empty : row ≡ emptied row = sym is ∙ ap (λ b. cond b row (emptied row)) e in
        let P : Sets → Type 0 = λ x. holds x l c ≡ true in
        absurd (clash _ (subst P empty h) (emptied_holds row l c))

module _ (u : Listing) (row other : Sets) (is : IsRow u row) (is' : IsRow u other) (under : Leq row other) where
  same_shape : map length row ≡ map length other
  same_shape = is.0 ∙ sym is'.0

  each : (l c : ℕ) → holds row l c ≡ true → holds other l c ≡ true
  each l c h = (under (live_if row is.1 l c h)).1 l c h

  under_le : missing_of other ≤ missing_of row
  under_le = row_le row other same_shape each

  under_less : (Leq other row → ⊥) → missing_of other < missing_of row
  under_less new = elim (cases_lt (missing_of other) (missing_of row)) [
    | inl b ↦ b
    | inr b ↦
        let back = row_same row other same_shape each b in
        absurd (new (λ live. (live_more other row (same_length u other row is'.0 is.0) back live, back)))
  ]

-- environments

module _ (u : Listing) (name : Bytes) (row : Sets) (is : IsRow u row) where
  union_is : (old : Sets) → IsRow u old → IsRow u (join old row)
  union_is old h = (shape_join u old row h.0 is.0, normalized_join u old row h.0 is.0 is.1)

  entry_le : (b : Bool) (old : Sets) → IsRow u old → missing_of (cond b (join old row) old) ≤ missing_of old
  entry_le true old h = under_le u old (join old row) h (union_is old h) (leq_join_left u old row h.0 is.0)
  entry_le false old h = omega arith

  joined_le : (env : Environment) → AllByRecursion (λ entry. IsRow u entry.1) env → missing (joined name row env) ≤ missing env
  joined_le [] h = omega arith
  joined_le (e ∷ env) h =
      let a = entry_le (bytes_eq e.0 name) e.1 h.0 in
      let b = joined_le env h.1 in
      omega arith

  -- a row is joined that doesn't lie there
  pub joined_less : (env : Environment) → AllByRecursion (λ entry. IsRow u entry.1) env → (old : Sets) → row_named env name ≡ Some old → (Leq row old → ⊥) → missing (joined name row env) < missing env
  joined_less [] h old found new = absurd (none-some old found)
  joined_less (e ∷ env) h old found new = by (bytes_eq e.0 name) found (joined_le env h.1) (λ f. joined_less env h.1 old f new)
    where
      by : (b : Bool) → cond b (Some e.1) (row_named env name) ≡ Some old → missing (joined name row env) ≤ missing env → (row_named env name ≡ Some old → missing (joined name row env) < missing env)
          → missing_of (cond b (join e.1 row) e.1) + missing (joined name row env) < missing_of e.1 + missing env
      by true f le rest =
          let P : Sets → Type 0 = λ x. Leq row x in
          let less = under_less u e.1 (join e.1 row) h.0 (union_is e.1 h.0) (leq_join_left u e.1 row h.0.0 is.0)
          (λ k. new (subst P (same_Some e.1 old f) (leq_trans row (join e.1 row) e.1 (leq_join_right u e.1 row h.0.0 is.0) k))) in
          omega arith
      by false f le rest = let less = rest f in omega arith
