-- Changes of a row at one label after another.
use Rattle.std.proofs.Common.{◌≡◌, ℕ, ◌<◌, Bool, true, false, ◌&&◌, ◌||◌, cond, [], ◌∷◌, map, length, get_or, refl, sym, ◌∙◌, ap, arith}
use Rattle.std.proofs.lemmas.List.{length-map}
use Rattle.lf_laws.proofs.Booleans.{and_left, clash}
use Rattle.lf_semantics.specs.ClassRows.{Sets, emptied, holds, is_live, narrowed, remade, replaced, normalized}
use Rattle.lf_semantics.proofs.LeqLaws.{normalized_live}
use Rattle.lf_semantics.proofs.NormalizedRows.{normalized_emptied}
use Rattle.lf_semantics.proofs.RowLaws.{holds-remade, length_remade, live_when, shape_narrowed, shape_remade, shape_replaced}
use Rattle.lf_semantics.proofs.RowSets.{class_in, emptied_dead, emptied_holds, emptied_remade, live_at, remade_same, same_row, same_sets}

-- rows made anew

pub same_remade : (f g : ℕ → ℕ → Bool → Bool) (row : Sets) → ((l c : ℕ) → l < length row → f l c (holds row l c) ≡ g l c (holds row l c)) → remade f row ≡ remade g row
same_remade f g row same = remade_same f g row (λ l c h k. same l c h)

pub twice_remade : (f g : ℕ → ℕ → Bool → Bool) (row : Sets) → remade g (remade f row) ≡ remade (λ l c on. g l c (f l c on)) row
twice_remade f g row =
    same_sets (remade g (remade f row)) (remade (λ l c on. g l c (f l c on)) row) (shape_remade g 0 (remade f row) ∙ shape_remade f 0 row ∙ sym (shape_remade (λ l c on. g l c (f l c on)) 0 row)) (λ l c h k.
    let m : l < length (remade f row) = omega (arith, h, length_remade g (remade f row)) in
    let n = class_in g (remade f row) l c m k in
    let b : l < length row = omega (arith, m, length_remade f row) in
    let d = class_in f row l c b n in
    holds-remade g (remade f row) l c m n ∙ ap (g l c) (holds-remade f row l c b d) ∙ sym (holds-remade (λ l c on. g l c (f l c on)) row l c b d))

pub normalized_dead : (row : Sets) → is_live row ≡ false → normalized row ≡ emptied row
normalized_dead row e = ap (λ b. cond b row (emptied row)) e

-- the empty row stays empty where no class is added
pub none_remade : (f : ℕ → ℕ → Bool → Bool) (row : Sets) → ((l c : ℕ) → f l c false ≡ false) → normalized (remade f (emptied row)) ≡ emptied row
none_remade f row none = ap normalized (same_row f (emptied row) (λ l c. ap (f l c) (emptied_holds row l c) ∙ none l c ∙ sym (emptied_holds row l c))) ∙ normalized_emptied row

-- a class that is left stands for one that is left elsewhere
abbrev pub LeavesMore : (ℕ → ℕ → Bool → Bool) → (ℕ → ℕ → Bool → Bool) → Sets → Type 0
LeavesMore g f row = (l c : ℕ) → l < length row → c < length (get_or row l []) → g l c (holds row l c) ≡ true → (d : ℕ) × (d < length (get_or row l [])) × (f l d (holds row l d) ≡ true)

-- where nothing is left of what more is left of, nothing is left
pub fewer_dead : (f g : ℕ → ℕ → Bool → Bool) (row : Sets) → LeavesMore g f row → is_live (remade f row) ≡ false → is_live (remade g row) ≡ false
fewer_dead f g row more e = by (is_live (remade g row)) refl
  where
    live_too : is_live (remade g row) ≡ true → is_live (remade f row) ≡ true
    live_too q =
        live_when (remade f row) (λ l h.
        let b : l < length row = omega (arith, h, length_remade f row) in
        let m : l < length (remade g row) = omega (arith, b, length_remade g row) in
        let r = live_at (remade g row) l q m in
        let d : r.0 < length (get_or row l []) = class_in g row l r.0 b r.1 in
        let left : g l r.0 (holds row l r.0) ≡ true = sym (holds-remade g row l r.0 b d) ∙ r.2 in
        let s = more l r.0 b d left in
        (s.0, holds-remade f row l s.0 b s.1 ∙ s.2))

    by : (b : Bool) → is_live (remade g row) ≡ b → is_live (remade g row) ≡ false
    by false q = q
    by true q = absurd (clash (is_live (remade f row)) (live_too q) e)

-- narrowing

and_assoc : (a b c : Bool) → ((a && b) && c) ≡ (a && (b && c))
and_assoc true b c = refl
and_assoc false b c = refl

module _ (s t : ℕ → ℕ → Bool) (row : Sets) where
  abbrev first : Sets
  first = remade (λ l c on. on && s l c) row

  abbrev both : Sets
  both = remade (λ l c on. on && (s l c && t l c)) row

  both_left : LeavesMore (λ l c on. on && (s l c && t l c)) (λ l c on. on && s l c) row
  both_left l c h d q = (c, d, and_left (holds row l c && s l c) (t l c) (and_assoc (holds row l c) (s l c) (t l c) ∙ q))

  both_dead : is_live first ≡ false → normalized both ≡ emptied row
  both_dead e = normalized_dead both (fewer_dead _ _ row both_left e) ∙ emptied_remade (λ l c on. on && (s l c && t l c)) row

  narrowed_by : (b : Bool) → is_live first ≡ b → narrowed t (normalized first) ≡ normalized both
  narrowed_by true e =
      let same : remade (λ l c on. on && t l c) first ≡ both = twice_remade (λ l c on. on && s l c) (λ l c on. on && t l c) row ∙ same_remade _ _ row (λ l c h. and_assoc (holds row l c) (s l c) (t l c)) in
      ap (narrowed t) (normalized_live first e) ∙ ap normalized same
  narrowed_by false e =
      let none : narrowed t (emptied first) ≡ emptied first = none_remade (λ l c on. on && t l c) first (λ l c. refl) in
      ap (narrowed t) (normalized_dead first e) ∙ none ∙ emptied_remade (λ l c on. on && s l c) row ∙ sym (both_dead e)

  pub narrowed_twice : narrowed t (narrowed s row) ≡ narrowed (λ l c. s l c && t l c) row
  narrowed_twice = narrowed_by (is_live first) refl

pub same_narrowed : (s t : ℕ → ℕ → Bool) (row : Sets) → ((l c : ℕ) → l < length row → s l c ≡ t l c) → narrowed s row ≡ narrowed t row
same_narrowed s t row same = ap normalized (same_remade _ _ row (λ l c h. ap (λ b. holds row l c && b) (same l c h)))

-- replacing

pub replaced_live : (chosen : ℕ → Bool) (test : ℕ → ℕ → Bool) (row : Sets) → is_live row ≡ true → replaced chosen test row ≡ normalized (remade (λ l c on. cond (chosen l) (test l c) on) row)
replaced_live chosen test row e = ap (λ b. cond b (normalized (remade (λ l c on. cond (chosen l) (test l c) on) row)) row) e

pub replaced_dead : (chosen : ℕ → Bool) (test : ℕ → ℕ → Bool) (row : Sets) → is_live row ≡ false → replaced chosen test row ≡ row
replaced_dead chosen test row e = ap (λ b. cond b (normalized (remade (λ l c on. cond (chosen l) (test l c) on) row)) row) e

cond_or : (a b x y : Bool) → cond b x (cond a x y) ≡ cond (a || b) x y
cond_or true true x y = refl
cond_or true false x y = refl
cond_or false b x y = refl

emptied_none : (row : Sets) → is_live row ≡ false → is_live (emptied row) ≡ false
emptied_none [] e = e
emptied_none (set ∷ row) e = emptied_dead (set ∷ row) (omega arith)

module _ (a b : ℕ → Bool) (test : ℕ → ℕ → Bool) (row : Sets) where
  abbrev one : Sets
  one = remade (λ l c on. cond (a l) (test l c) on) row

  abbrev two : Sets
  two = remade (λ l c on. cond (a l || b l) (test l c) on) row

  two_left : is_live row ≡ true → LeavesMore (λ l c on. cond (a l || b l) (test l c) on) (λ l c on. cond (a l) (test l c) on) row
  two_left e l c h d q = by (a l) refl
    where
      by : (x : Bool) → a l ≡ x → (d : ℕ) × (d < length (get_or row l [])) × (cond (a l) (test l d) (holds row l d) ≡ true)
      by true f = (c, d, ap (λ x. cond x (test l c) (holds row l c)) f ∙ (sym (ap (λ x. cond (x || b l) (test l c) (holds row l c)) f) ∙ q))
      by false f = let r = live_at row l e h in (r.0, r.1, ap (λ x. cond x (test l r.0) (holds row l r.0)) f ∙ r.2)

  two_dead : is_live row ≡ true → is_live one ≡ false → normalized two ≡ emptied row
  two_dead e f = normalized_dead two (fewer_dead _ _ row (two_left e) f) ∙ emptied_remade (λ l c on. cond (a l || b l) (test l c) on) row

  live_twice : (x : Bool) → is_live one ≡ x → is_live row ≡ true → replaced b test (normalized one) ≡ normalized two
  live_twice true f e =
      let same : remade (λ l c on. cond (b l) (test l c) on) one ≡ two = twice_remade (λ l c on. cond (a l) (test l c) on) (λ l c on. cond (b l) (test l c) on) row ∙ same_remade _ _ row (λ l c h. cond_or (a l) (b l) (test l c) (holds row l c)) in
      ap (replaced b test) (normalized_live one f) ∙ replaced_live b test one f ∙ ap normalized same
  live_twice false f e =
      ap (replaced b test) (normalized_dead one f) ∙ replaced_dead b test (emptied one) (emptied_none one f) ∙ emptied_remade (λ l c on. cond (a l) (test l c) on) row ∙ sym (two_dead e f)

  twice_by : (x : Bool) → is_live row ≡ x → replaced b test (replaced a test row) ≡ replaced (λ l. a l || b l) test row
  twice_by true e = ap (replaced b test) (replaced_live a test row e) ∙ live_twice (is_live one) refl e ∙ sym (replaced_live (λ l. a l || b l) test row e)
  twice_by false e = ap (replaced b test) (replaced_dead a test row e) ∙ replaced_dead b test row e ∙ sym (replaced_dead (λ l. a l || b l) test row e)

  pub replaced_twice : replaced b test (replaced a test row) ≡ replaced (λ l. a l || b l) test row
  replaced_twice = twice_by (is_live row) refl

pub same_replaced : (a b : ℕ → Bool) (test : ℕ → ℕ → Bool) (row : Sets) → ((l : ℕ) → l < length row → a l ≡ b l) → replaced a test row ≡ replaced b test row
same_replaced a b test row same =
    ap (λ new. cond (is_live row) (normalized new) row) (same_remade (λ l c on. cond (a l) (test l c) on) (λ l c on. cond (b l) (test l c) on) row (λ l c h. ap (λ x. cond x (test l c) (holds row l c)) (same l h)))

-- lengths

same_length : (row other : Sets) → map length row ≡ map length other → length row ≡ length other
same_length row other e = sym (length-map row length) ∙ ap length e ∙ length-map other length

pub length_narrowed : (test : ℕ → ℕ → Bool) (row : Sets) → length (narrowed test row) ≡ length row
length_narrowed test row = same_length _ row (shape_narrowed test row)

pub length_replaced : (chosen : ℕ → Bool) (test : ℕ → ℕ → Bool) (row : Sets) → length (replaced chosen test row) ≡ length row
length_replaced chosen test row = same_length _ row (shape_replaced chosen test row)
