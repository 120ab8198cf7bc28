-- What the rows that are made of rows represent.
use Rattle.std.proofs.Common.{◌≡◌, ℕ, zero, suc, ◌+◌, ◌<◌, Bool, true, false, ◌&&◌, ◌||◌, cond, eqb, List, [], ◌∷◌, map, length, get_or, refl, sym, ◌∙◌, ap, subst, arith}
use Rattle.std.specs.Prelude.{replicate}
use Rattle.std.specs.List.{list_any}
use Rattle.std.proofs.lemmas.List.{get_or-map, length-map, length-replicate}
use Rattle.std.proofs.lemmas.List.{get_or-replicate}
use Rattle.std.proofs.lemmas.Bool.{or_right}
use Rattle.lf_ast.specs.Labels.{Bytes, Labels}
use Rattle.lf_semantics.specs.ClassRows.{HasShape, HoldsText, Represents, Sets, bottom, emptied, holds, indexed_from, is_live, join, narrowed, normalized, only_empty, remade, replaced, top}
use Rattle.lf_semantics.specs.Listing.{IsListing, Listing, class_counts, class_of, class_texts, label_of, named_at}
use Rattle.lf_semantics.specs.Texts.{value_of}
use Rattle.lf_semantics.proofs.Places.{count_at, name_of, place_le}

-- places

pub get_or-indexed : {A B : Type 0} (f : ℕ → A → B) (k : ℕ) (xs : List A) (i : ℕ) (d : A) (e : B) → i < length xs → get_or (indexed_from f k xs) i e ≡ f (k + i) (get_or xs i d)
get_or-indexed f k [] i d e h = absurd (omega arith)
get_or-indexed f k (x ∷ xs) zero d e h = let q : k + 0 ≡ k = omega arith in rw q refl
get_or-indexed f k (x ∷ xs) (suc i) d e h = let q : k + suc i ≡ suc k + i = omega arith in rw q (get_or-indexed f (suc k) xs i d e (omega arith))

pub length-indexed : {A B : Type 0} (f : ℕ → A → B) (k : ℕ) (xs : List A) → length (indexed_from f k xs) ≡ length xs
length-indexed f k [] = refl
length-indexed f k (x ∷ xs) = ap suc (length-indexed f (suc k) xs)

pub true_within : (xs : List Bool) (i : ℕ) → get_or xs i false ≡ true → i < length xs
true_within [] i h = absurd (cc)
true_within (x ∷ xs) zero h = omega arith
true_within (x ∷ xs) (suc i) h = let r = true_within xs i h in omega arith

-- what is held is within
pub holds_within : (row : Sets) (label class : ℕ) → holds row label class ≡ true → (label < length row) × (class < length (get_or row label []))
holds_within [] label class h = absurd (cc)
holds_within (set ∷ row) zero class h = (omega arith, true_within set class h)
holds_within (set ∷ row) (suc label) class h = let r = holds_within row label class h in (omega (arith, r.0), r.1)

pub length_remade : (f : ℕ → ℕ → Bool → Bool) (row : Sets) → length (remade f row) ≡ length row
length_remade f row = length-indexed _ 0 row

pub holds-remade : (f : ℕ → ℕ → Bool → Bool) (row : Sets) (label class : ℕ) → label < length row → class < length (get_or row label []) → holds (remade f row) label class ≡ f label class (holds row label class)
holds-remade f row label class h k =
    ap (λ set. get_or set class false) (get_or-indexed (λ l set. indexed_from (λ c on. f l c on) 0 set) 0 row label [] [] h)
    ∙ get_or-indexed (λ c on. f (0 + label) c on) 0 (get_or row label []) class false false k
    ∙ (let e : 0 + label ≡ label = omega arith in let g : 0 + class ≡ class = omega arith in rw (e, g) refl)

-- shapes

pub shape_remade : (f : ℕ → ℕ → Bool → Bool) (k : ℕ) (row : Sets) → map length (indexed_from (λ l set. indexed_from (λ c on. f l c on) 0 set) k row) ≡ map length row
shape_remade f k [] = refl
shape_remade f k (set ∷ row) = rw (length-indexed (λ c on. f k c on) 0 set, shape_remade f (suc k) row) refl

pub shape_emptied : (row : Sets) → map length (emptied row) ≡ map length row
shape_emptied [] = refl
shape_emptied (set ∷ row) = rw (length-map set (λ on. false), shape_emptied row) refl

pub shape_normalized : (row : Sets) → map length (normalized row) ≡ map length row
shape_normalized row = elim (is_live row) as (λ b. map length (cond b row (emptied row)) ≡ map length row) [ true ↦ refl | false ↦ shape_emptied row ]

pub shape_narrowed : (test : ℕ → ℕ → Bool) (row : Sets) → map length (narrowed test row) ≡ map length row
shape_narrowed test row = shape_normalized (remade (λ l c on. on && test l c) row) ∙ shape_remade _ 0 row

pub shape_replaced : (chosen : ℕ → Bool) (test : ℕ → ℕ → Bool) (row : Sets) → map length (replaced chosen test row) ≡ map length row
shape_replaced chosen test row =
    let new : Sets = remade (λ l c on. cond (chosen l) (test l c) on) row in
    elim (is_live row) as (λ b. map length (cond b (normalized new) row) ≡ map length row) [ true ↦ shape_normalized new ∙ shape_remade _ 0 row | false ↦ refl ]

top_counts : (counts : List ℕ) → map length (map (λ count. replicate count true) counts) ≡ counts
top_counts [] = refl
top_counts (n ∷ counts) = rw (length-replicate n true, top_counts counts) refl

pub shape_top : (u : Listing) → HasShape u (top u)
shape_top u = top_counts (class_counts u)

pub shape_bottom : (u : Listing) → HasShape u (bottom u)
shape_bottom u = shape_emptied (top u) ∙ shape_top u

-- every class is in the full row
pub full_at : (u : Listing) (l c : ℕ) → l < length u.named → c < length (named_at u l) + 2 → holds (top u) l c ≡ true
full_at u l c h k =
    let counts = class_counts u in
    let count = get_or-map (λ named. length named + 2) u.named l [] 0 h in
    ap (λ set. get_or set c false) (get_or-map (λ count. replicate count true) counts l 0 [] (omega (arith, h, length-map u.named (λ named. length named + 2))))
    ∙ get_or-replicate (get_or counts l 0) c true false (omega (arith, k, count))

pub shape_join : (u : Listing) (row other : Sets) → HasShape u row → HasShape u other → HasShape u (join row other)
shape_join u row other h k =
    elim (is_live row) as (λ b. HasShape u (cond b (cond (is_live other) (remade (λ l c on. on || holds other l c) row) row) other)) [
      | true ↦ elim (is_live other) as (λ b. HasShape u (cond b (remade (λ l c on. on || holds other l c) row) row)) [ true ↦ shape_remade _ 0 row ∙ h | false ↦ h ]
      | false ↦ k
    ]

-- rows that aren't empty

pub any_at : (xs : List Bool) (i : ℕ) → get_or xs i false ≡ true → list_any (λ b. b) xs ≡ true
any_at [] i h = absurd (cc)
any_at (x ∷ xs) zero h = rw h refl
any_at (true ∷ xs) (suc i) h = refl
any_at (false ∷ xs) (suc i) h = any_at xs i h

pub live_when : (row : Sets) → ((l : ℕ) → l < length row → (c : ℕ) × (holds row l c ≡ true)) → is_live row ≡ true
live_when [] h = refl
live_when (set ∷ row) h =
    let first = h 0 (omega arith) in
    let rest : is_live row ≡ true = live_when row (λ l b. h (suc l) (omega arith)) in
    rw (any_at set first.0 first.1, rest) refl

module _ (u : Listing) (p : IsListing u) where
  -- each text of a label set is held
  abbrev pub HoldsEach : Sets → Labels → Type 0
  HoldsEach row s = (name : Bytes) → HoldsText u row name (value_of s name)

  pub length_row : (row : Sets) → HasShape u row → length row ≡ length u.names + 1
  length_row row shape = sym (length-map row length) ∙ ap length shape ∙ length-map u.named (λ named. length named + 2) ∙ p.count

  -- a row that holds the texts of a label set isn't empty, since each label has a name
  pub live_of_holds : (row : Sets) (s : Labels) → HasShape u row → HoldsEach row s → is_live row ≡ true
  live_of_holds row s shape each =
      live_when row (λ l b.
      let n = name_of u p l (omega (arith, length_row row shape)) in
      let P : ℕ → Type 0 = λ k. (c : ℕ) × (holds row k c ≡ true) in
      subst P n.1 (class_of u (label_of u n.0) (value_of s n.0), each n.0))

  -- a row has a place for each text
  pub in_range : (row : Sets) (name text : Bytes) → HasShape u row → (label_of u name < length row) × (class_of u (label_of u name) text < length (get_or row (label_of u name) []))
  in_range row name text shape =
      let l = label_of u name in
      let b : l < length row = omega (arith, place_le u.names name, length_row row shape) in
      let n : length (get_or row l []) ≡ length (named_at u l) + 2 = sym (get_or-map length row l [] 0 b) ∙ ap (λ counts. get_or counts l 0) shape ∙ count_at u p name in
      (b, omega (arith, n, place_le (class_texts u l) text))

  pub represents_normalized : (row : Sets) (s : Labels) → HasShape u row → HoldsEach row s → Represents u (normalized row) s
  represents_normalized row s shape each = let e = live_of_holds row s shape each in rw e (e, each)

  -- in a row whose classes are made anew
  pub represents_remade : (f : ℕ → ℕ → Bool → Bool) (row : Sets) (s : Labels) → HasShape u row
      → ((name : Bytes) → f (label_of u name) (class_of u (label_of u name) (value_of s name)) (holds row (label_of u name) (class_of u (label_of u name) (value_of s name))) ≡ true)
      → Represents u (normalized (remade f row)) s
  represents_remade f row s shape pass =
      represents_normalized (remade f row) s (shape_remade f 0 row ∙ shape) (λ name.
      let w = in_range row name (value_of s name) shape in
      holds-remade f row _ _ w.0 w.1 ∙ pass name)

  pub represents_narrowed : (test : ℕ → ℕ → Bool) (row : Sets) (s : Labels) → HasShape u row
      → ((name : Bytes) → test (label_of u name) (class_of u (label_of u name) (value_of s name)) ≡ true) → Represents u row s → Represents u (narrowed test row) s
  represents_narrowed test row s shape pass represents = represents_remade (λ l c on. on && test l c) row s shape (λ name. rw (represents.1 name, pass name) refl)

  by_choice : (chosen test on : Bool) → (chosen ≡ true → test ≡ true) → (chosen ≡ false → on ≡ true) → cond chosen test on ≡ true
  by_choice true test on h k = h refl
  by_choice false test on h k = k refl

  -- in a row of which some labels are replaced: their classes pass, and the others' are held as before
  pub represents_replaced : (chosen : ℕ → Bool) (test : ℕ → ℕ → Bool) (row : Sets) (s : Labels) → HasShape u row → is_live row ≡ true
      → ((name : Bytes) → chosen (label_of u name) ≡ true → test (label_of u name) (class_of u (label_of u name) (value_of s name)) ≡ true)
      → ((name : Bytes) → chosen (label_of u name) ≡ false → HoldsText u row name (value_of s name))
      → Represents u (replaced chosen test row) s
  represents_replaced chosen test row s shape is pass same =
      let P : Bool → Type 0 = λ b. Represents u (cond b (normalized (remade (λ l c on. cond (chosen l) (test l c) on) row)) row) s in
      subst P (sym is) (represents_remade (λ l c on. cond (chosen l) (test l c) on) row s shape (λ name. by_choice _ _ _ (pass name) (same name)))

  -- in a row of which some labels are only absent
  pub represents_only_empty : (chosen : ℕ → Bool) (row : Sets) (s r : Labels) → HasShape u row → Represents u row s
      → ((name : Bytes) → chosen (label_of u name) ≡ true → value_of r name ≡ [])
      → ((name : Bytes) → chosen (label_of u name) ≡ false → value_of r name ≡ value_of s name)
      → Represents u (only_empty chosen row) r
  represents_only_empty chosen row s r shape represents none same =
      represents_replaced chosen (λ l c. eqb c 0) row r shape represents.0
      (λ name e. ap (λ t. eqb (class_of u (label_of u name) t) 0) (none name e))
      (λ name e. let P : Bytes → Type 0 = λ t. HoldsText u row name t in subst P (sym (same name e)) (represents.1 name))

  counts_hold : (counts : List ℕ) (l c : ℕ) → l < length counts → c < get_or counts l 0 → holds (map (λ count. replicate count true) counts) l c ≡ true
  counts_hold counts l c h k = ap (λ set. get_or set c false) (get_or-map (λ count. replicate count true) counts l 0 [] h) ∙ get_or-replicate (get_or counts l 0) c true false k

  -- every class is in the greatest row
  pub top_holds : (name text : Bytes) → HoldsText u (top u) name text
  top_holds name text =
      let l = label_of u name in
      counts_hold (class_counts u) l (class_of u l text) (omega (arith, place_le u.names name, p.count, length-map u.named (λ named. length named + 2)))
      (omega (arith, place_le (class_texts u l) text, count_at u p name))

  pub represents_top : (s : Labels) → Represents u (top u) s
  represents_top s = (live_of_holds (top u) s (shape_top u) (λ name. top_holds name (value_of s name)), λ name. top_holds name (value_of s name))

  -- a join represents what one of its rows does
  module _ (row other : Sets) (s : Labels) (shape : HasShape u row) where
    abbrev both : Sets
    both = remade (λ l c on. on || holds other l c) row

    in_both : ((name : Bytes) → (holds row (label_of u name) (class_of u (label_of u name) (value_of s name)) || holds other (label_of u name) (class_of u (label_of u name) (value_of s name))) ≡ true) → Represents u both s
    in_both pass =
        let each : HoldsEach both s = λ name. let w = in_range row name (value_of s name) shape in holds-remade _ row _ _ w.0 w.1 ∙ pass name in
        (live_of_holds both s (shape_remade _ 0 row ∙ shape) each, each)

    join_left : (b : Bool) → is_live other ≡ b → Represents u row s → Represents u (cond b both row) s
    join_left false e represents = represents
    join_left true e represents = in_both (λ name. rw (represents.1 name) refl)

    pub represents_join_left : Represents u row s → Represents u (join row other) s
    represents_join_left represents = rw represents.0 (join_left (is_live other) refl represents)

    join_right : (b : Bool) → is_live row ≡ b → Represents u other s → Represents u (cond b both other) s
    join_right false e represents = represents
    join_right true e represents = in_both (λ name. or_right _ _ (represents.1 name))

    pub represents_join_right : Represents u other s → Represents u (join row other) s
    represents_join_right represents =
        let P : Bool → Type 0 = λ b. Represents u (cond (is_live row) (cond b both row) other) s in
        subst P (sym represents.0) (join_right (is_live row) refl represents)
