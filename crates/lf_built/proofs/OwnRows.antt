-- The row of a rule, by that of its whole expression.
use Rattle.std.proofs.Common.{◌≡◌, ℕ, zero, suc, Bool, true, false, cond, List, [], ◌∷◌, map, length, get_or, Some, None, refl, sym, ◌∙◌, ap, subst}
use Rattle.std.specs.Prelude.{slice_get}
use Rattle.std.specs.List.{AllZip, flat_map}
use Rattle.lf_ast.specs.Rules.{RuleTree}
use Rattle.lf_ast.specs.Tree.{Tree, parts_of, nodes}
use Rattle.lf_semantics.specs.ClassRows.{Sets, bottom, is_live}
use Rattle.lf_semantics.specs.Environments.{rule_row}
use Rattle.lf_semantics.specs.Listing.{IsListing, Listing}
use Rattle.lf_semantics.specs.Parts.{is_evaluated, type_by_form}
use Rattle.lf_semantics.specs.RowTable.{Environment, row_of}
use Rattle.lf_semantics.proofs.LeqLaws.{bottom_dead}
use Rattle.lf_built.specs.views.RuleRows.{own_or}
use Rattle.lf_built.proofs.Places.{of_parts}

-- the rows of an expression and its parts begin with its own
pub begins : {X : Type 0} (row : Tree → X) (t : Tree) (rows : List X) → rows ≡ map row (nodes t) → rows ≡ row t ∷ map row (flat_map nodes (parts_of t))
begins row t rows is = is ∙ ap (map row) (of_parts t)

-- a row that isn't empty is that of the whole expression

either : (live : Bool) (row : Sets) → own_or (cond live None (Some row)) row ≡ row
either true row = refl
either false row = refl

by_type : (u : Listing) → IsListing u → (evaluated : Bool) (whole : Sets)
    → own_or (cond (is_live (cond evaluated whole (bottom u))) None (Some (cond evaluated whole (bottom u)))) whole ≡ cond evaluated whole (bottom u)
by_type u listing true whole = either (is_live whole) whole
by_type u listing false whole = ap (λ (live : Bool). own_or (cond live None (Some (bottom u))) whole) (bottom_dead u listing)

pub own_is : (u : Listing) → IsListing u → (e : Environment) (r : RuleTree) → own_or (cond (is_live (rule_row u e r)) None (Some (rule_row u e r))) (row_of u e r.expr) ≡ rule_row u e r
own_is u listing e r = by_type u listing (is_evaluated (type_by_form r.expr)) (row_of u e r.expr)

-- what stands side by side
pub side_by_side : {X Y : Type 0} (R : X → Y → Type 0) (xs : List X) (ys : List Y) (k : ℕ) (x : X) (y : Y) → AllZip R xs ys → slice_get xs k ≡ Some x → y ≡ get_or ys k y → R x y
side_by_side R [] ys k x y zip at is = absurd (cc)
side_by_side R (a ∷ xs) [] k x y zip at is = absurd zip
side_by_side R (a ∷ xs) (b ∷ ys) zero x y zip at is = let one : a ≡ x = cc in subst (R x) (sym is) (subst (λ z. R z b) one zip.0)
side_by_side R (a ∷ xs) (b ∷ ys) (suc k) x y zip at is = side_by_side R xs ys k x y zip.1 at is

pub as_many : {X Y : Type 0} (R : X → Y → Type 0) (xs : List X) (ys : List Y) → AllZip R xs ys → length ys ≡ length xs
as_many R [] [] zip = refl
as_many R [] (y ∷ ys) zip = absurd zip
as_many R (x ∷ xs) [] zip = absurd zip
as_many R (x ∷ xs) (y ∷ ys) zip = ap suc (as_many R xs ys zip.1)
