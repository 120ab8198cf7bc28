-- Rows as sets of classes, label by label: which are the same, and which are empty.
use Rattle.std.proofs.Common.{◌≡◌, ℕ, zero, suc, ◌<◌, Bool, true, false, ◌&&◌, List, [], ◌∷◌, map, length, get_or, refl, sym, ◌∙◌, ap, arith}
use Rattle.std.specs.List.{list_any}
use Rattle.std.proofs.lemmas.Bool.{and_parts}
use Rattle.std.proofs.lemmas.List.{get_or-map, length-map}
use Rattle.std.proofs.Math.Bool.{and-false}
use Rattle.lf_semantics.specs.ClassRows.{Sets, emptied, holds, is_live, remade}
use Rattle.lf_semantics.proofs.RowLaws.{holds-remade, length_remade, shape_emptied, shape_remade}

-- rows with the same classes are the same

same_bools : (xs ys : List Bool) → length xs ≡ length ys → ((c : ℕ) → c < length xs → get_or xs c false ≡ get_or ys c false) → xs ≡ ys
same_bools [] [] e h = refl
same_bools [] (y ∷ ys) e h = absurd (omega (arith, e))
same_bools (x ∷ xs) [] e h = absurd (omega (arith, e))
same_bools (x ∷ xs) (y ∷ ys) e h =
    let p : x ≡ y = h 0 (omega arith) in
    let q : xs ≡ ys = same_bools xs ys (omega (arith, e)) (λ c b. h (suc c) (omega arith)) in
    cc

pub same_sets : (a b : Sets) → map length a ≡ map length b → ((l c : ℕ) → l < length a → c < length (get_or a l []) → holds a l c ≡ holds b l c) → a ≡ b
same_sets [] [] e h = refl
same_sets [] (y ∷ b) e h = absurd (cc)
same_sets (x ∷ a) [] e h = absurd (cc)
same_sets (x ∷ a) (y ∷ b) e h =
    let n : length x ≡ length y = cc in
    let m : map length a ≡ map length b = cc in
    let p : x ≡ y = same_bools x y n (λ c k. h 0 c (omega arith) k) in
    let q : a ≡ b = same_sets a b m (λ l c j k. h (suc l) c (omega arith) k) in
    cc

-- the count of a label by the shape
pub count_at : (row : Sets) (counts : List ℕ) (l : ℕ) → map length row ≡ counts → l < length row → length (get_or row l []) ≡ get_or counts l 0
count_at row counts l e h = sym (get_or-map length row l [] 0 h) ∙ ap (λ ns. get_or ns l 0) e

pub label_in : (row : Sets) (counts : List ℕ) → map length row ≡ counts → length row ≡ length counts
label_in row counts e = sym (length-map row length) ∙ ap length e

-- rows that are empty, and rows that aren't

pub some_on : (xs : List Bool) → list_any (λ on. on) xs ≡ true → (c : ℕ) × (c < length xs) × (get_or xs c false ≡ true)
some_on [] e = absurd (cc)
some_on (true ∷ xs) e = (0, omega arith, refl)
some_on (false ∷ xs) e = let r = some_on xs e in (suc r.0, omega (arith, r.1), r.2)

none_on : (xs : List Bool) → ((c : ℕ) → c < length xs → get_or xs c false ≡ false) → list_any (λ on. on) xs ≡ false
none_on [] h = refl
none_on (x ∷ xs) h = rw (h 0 (omega arith)) (none_on xs (λ c b. h (suc c) (omega arith)))

pub live_at : (row : Sets) (l : ℕ) → is_live row ≡ true → l < length row → (c : ℕ) × (c < length (get_or row l [])) × (holds row l c ≡ true)
live_at [] l e h = absurd (omega arith)
live_at (set ∷ row) zero e h = some_on set (and_parts (list_any (λ on. on) set) (is_live row) e).0
live_at (set ∷ row) (suc l) e h = live_at row l (and_parts (list_any (λ on. on) set) (is_live row) e).1 (omega arith)

pub dead_when : (row : Sets) (l : ℕ) → l < length row → ((c : ℕ) → c < length (get_or row l []) → holds row l c ≡ false) → is_live row ≡ false
dead_when [] l h none = absurd (omega arith)
dead_when (set ∷ row) zero h none = rw (none_on set none) refl
dead_when (set ∷ row) (suc l) h none = ap (λ b. list_any (λ on. on) set && b) (dead_when row l (omega arith) none) ∙ and-false (list_any (λ on. on) set)

none_any : (set : List Bool) → list_any (λ on. on) (map (λ on. false) set) ≡ false
none_any [] = refl
none_any (x ∷ set) = none_any set

pub emptied_dead : (row : Sets) → 0 < length row → is_live (emptied row) ≡ false
emptied_dead [] h = absurd (omega arith)
emptied_dead (set ∷ row) h = rw (none_any set) refl

pub none_at : (set : List Bool) (c : ℕ) → get_or (map (λ on. false) set) c false ≡ false
none_at [] c = refl
none_at (x ∷ set) zero = refl
none_at (x ∷ set) (suc c) = none_at set c

pub emptied_holds : (row : Sets) (l c : ℕ) → holds (emptied row) l c ≡ false
emptied_holds [] l c = refl
emptied_holds (set ∷ row) zero c = none_at set c
emptied_holds (set ∷ row) (suc l) c = emptied_holds row l c

none_same : (x y : List Bool) → length x ≡ length y → map (λ on. false) x ≡ map (λ on. false) y
none_same [] [] e = refl
none_same [] (b ∷ y) e = absurd (omega (arith, e))
none_same (a ∷ x) [] e = absurd (omega (arith, e))
none_same (a ∷ x) (b ∷ y) e = ap (λ xs. false ∷ xs) (none_same x y (omega (arith, e)))

-- the empty row of a shape is one
pub emptied_same : (a b : Sets) → map length a ≡ map length b → emptied a ≡ emptied b
emptied_same [] [] e = refl
emptied_same [] (y ∷ b) e = absurd (cc)
emptied_same (x ∷ a) [] e = absurd (cc)
emptied_same (x ∷ a) (y ∷ b) e =
    let n : length x ≡ length y = cc in
    let m : map length a ≡ map length b = cc in
    rw (none_same x y n, emptied_same a b m) refl

pub emptied_remade : (f : ℕ → ℕ → Bool → Bool) (row : Sets) → emptied (remade f row) ≡ emptied row
emptied_remade f row = emptied_same (remade f row) row (shape_remade f 0 row)

pub emptied_twice : (row : Sets) → emptied (emptied row) ≡ emptied row
emptied_twice row = emptied_same (emptied row) row (shape_emptied row)

-- rows made anew

-- a class of what is made of a row is one of the row
pub class_in : (f : ℕ → ℕ → Bool → Bool) (row : Sets) (l c : ℕ) → l < length row → c < length (get_or (remade f row) l []) → c < length (get_or row l [])
class_in f row l c h k =
    let m : l < length (remade f row) = omega (arith, h, length_remade f row) in
    omega (arith, k, count_at (remade f row) (map length row) l (shape_remade f 0 row) m, count_at row (map length row) l refl h)

pub remade_same : (f g : ℕ → ℕ → Bool → Bool) (row : Sets) → ((l c : ℕ) → l < length row → c < length (get_or row l []) → f l c (holds row l c) ≡ g l c (holds row l c)) → remade f row ≡ remade g row
remade_same f g row same =
    same_sets (remade f row) (remade g row) (shape_remade f 0 row ∙ sym (shape_remade g 0 row)) (λ l c h k.
    let b : l < length row = omega (arith, h, length_remade f row) in
    let d = class_in f row l c b k in
    holds-remade f row l c b d ∙ same l c b d ∙ sym (holds-remade g row l c b d))

-- a row of which each class stays
pub same_row : (f : ℕ → ℕ → Bool → Bool) (row : Sets) → ((l c : ℕ) → f l c (holds row l c) ≡ holds row l c) → remade f row ≡ row
same_row f row same =
    same_sets (remade f row) row (shape_remade f 0 row) (λ l c h k.
    let b : l < length row = omega (arith, h, length_remade f row) in
    holds-remade f row l c b (class_in f row l c b k) ∙ same l c)
