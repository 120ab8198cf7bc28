-- The map from names to bytes that a list of files is.
use Rattle.std.proofs.Common.{◌≡◌, ◌≢◌, ◌<◌, ℕ, zero, suc, Bool, true, false, cond, List, [], ◌∷◌, ◌++◌, length, set, Some, None, refl, sym, ◌∙◌, ap, arith}
use Rattle.std.specs.Ordering.{nat_cmp, eq_by_cmp}
use Rattle.std.specs.declared.cmp.Ordering.{Ordering}
use Rattle.std.specs.Cmp.Lexicographic.{slice_cmp, nat_list_cmp_total}
use Rattle.std.specs.FinMap as map
use Rattle.std.specs.FinMap.{find, get-from_entries, get-insert, same_map, from_entries_push, slice_cmp-IsAntisymmetric, nat_cmp-IsAntisymmetric}
use Rattle.std.proofs.lemmas.Map.Text.{is_eq-slice_cmp}
use Rattle.std.proofs.lemmas.Slice.Eq.{bytes_eq-Decides}
use Rattle.lf_base.specs.views.FileList.{File, name_at, bytes_at, IsPlaceOf}

-- the order of the names
abbrev Names : List ℕ → List ℕ → Ordering
Names = slice_cmp nat_cmp

ties : (q x : List ℕ) → x ≡ q → eq_by_cmp Names q x ≡ true
ties q x e = is_eq-slice_cmp q x ∙ (bytes_eq-Decides q x).1 (sym e)

tied : (q x : List ℕ) → eq_by_cmp Names q x ≡ true → q ≡ x
tied q x e = (bytes_eq-Decides q x).0 (sym (is_eq-slice_cmp q x) ∙ e)

apart : (q x : List ℕ) → x ≢ q → eq_by_cmp Names q x ≡ false
apart q x h =
    elim (eq_by_cmp Names q x) as (λ b. eq_by_cmp Names q x ≡ b → eq_by_cmp Names q x ≡ false) [ true ↦ λ e. absurd (h (sym (tied q x e))) | false ↦ λ e. e ] refl

swapped : {A : Type 0} (a b : Bool) (x y z : A) → (a ≡ true → b ≡ true → ⊥) → cond a x (cond b y z) ≡ cond b y (cond a x z)
swapped true true x y z h = absurd (h refl refl)
swapped true false x y z h = refl
swapped false b x y z h = refl

shadowed : {A : Type 0} (b : Bool) (x y z : A) → cond b x z ≡ cond b x (cond b y z)
shadowed true x y z = refl
shadowed false x y z = refl

pub find-absent : (files : List File) (q : List ℕ) → ((j : ℕ) → j < length files → name_at files j ≢ q) → find Names q files ≡ None
find-absent [] q h = refl
find-absent (f ∷ fs) q h =
    ap (λ b. cond b (Some f.1) (find Names q fs)) (apart q f.0 (h 0 (omega arith))) ∙ find-absent fs q (λ j l. h (suc j) (omega arith))

pub find-at : (files : List File) (k : ℕ) (q : List ℕ) → k < length files → name_at files k ≡ q → ((j : ℕ) → j < k → name_at files j ≢ q) → find Names q files ≡ Some (bytes_at files k)
find-at [] k q l e h = absurd (omega arith)
find-at (f ∷ fs) zero q l e h = ap (λ b. cond b (Some f.1) (find Names q fs)) (ties q f.0 e)
find-at (f ∷ fs) (suc k) q l e h =
    ap (λ b. cond b (Some f.1) (find Names q fs)) (apart q f.0 (h 0 (omega arith))) ∙ find-at fs k q (omega arith) e (λ j m. h (suc j) (omega arith))

find-set : (files : List File) (k : ℕ) (q v x : List ℕ) → k < length files → name_at files k ≡ q → ((j : ℕ) → j < k → name_at files j ≢ q)
    → find Names x (set files k (q, v)) ≡ cond (eq_by_cmp Names x q) (Some v) (find Names x files)
find-set [] k q v x l e h = absurd (omega arith)
find-set (f ∷ fs) zero q v x l e h =
    shadowed (eq_by_cmp Names x q) (Some v) (Some f.1) (find Names x fs)
    ∙ ap (λ n. cond (eq_by_cmp Names x q) (Some v) (cond (eq_by_cmp Names x n) (Some f.1) (find Names x fs))) (sym e)
find-set (f ∷ fs) (suc k) q v x l e h =
    ap (cond (eq_by_cmp Names x f.0) (Some f.1)) (find-set fs k q v x (omega arith) e (λ j m. h (suc j) (omega arith)))
    ∙ swapped (eq_by_cmp Names x f.0) (eq_by_cmp Names x q) (Some f.1) (Some v) (find Names x fs) (λ a b. h 0 (omega arith) (sym (tied x f.0 a) ∙ tied x q b))

same_names : map.IsAntisymmetric Names
same_names = slice_cmp-IsAntisymmetric nat_cmp-IsAntisymmetric

-- a file in the place of the one of its name
pub from_entries-set : (files : List File) (k : ℕ) (q v : List ℕ) → IsPlaceOf files q (Some k)
    → map.from_entries {R = slice_cmp nat_cmp} (set files k (q, v)) ≡ map.insert (map.from_entries files) q v
from_entries-set files k q v h =
    same_map nat_list_cmp_total same_names _ _ (λ x. get-from_entries nat_list_cmp_total _ x ∙ find-set files k q v x h.0 h.1 h.2
    ∙ sym (get-insert nat_list_cmp_total (map.from_entries files) q v x ∙ ap (cond (eq_by_cmp Names x q) (Some v)) (get-from_entries nat_list_cmp_total files x)))

-- a file of a new name at the end
pub from_entries-push : (files : List File) (q v : List ℕ) → IsPlaceOf files q None
    → map.from_entries {R = slice_cmp nat_cmp} (files ++ (q, v) ∷ []) ≡ map.insert (map.from_entries files) q v
from_entries-push files q v h = from_entries_push nat_list_cmp_total same_names files q v (find-absent files q h)

-- what is held under a name
pub get-absent : (files : List File) (q : List ℕ) → IsPlaceOf files q None → map.get (map.from_entries {R = slice_cmp nat_cmp} files) q ≡ None
get-absent files q h = get-from_entries nat_list_cmp_total files q ∙ find-absent files q h

pub get-at : (files : List File) (k : ℕ) (q : List ℕ) → IsPlaceOf files q (Some k) → map.get (map.from_entries {R = slice_cmp nat_cmp} files) q ≡ Some (bytes_at files k)
get-at files k q h = get-from_entries nat_list_cmp_total files q ∙ find-at files k q h.0 h.1 h.2
