-- Rows that are changed at the labels of a set, and rows where a side is empty.
use Rattle.std.proofs.Common.{◌≡◌, ℕ, ◌<◌, Bool, true, false, not, ◌&&◌, ◌||◌, cond, eqb, List, length, get_or, refl, sym, ◌∙◌, ap, arith}
use Rattle.lf_ast.specs.declared.expr.Name.{Name}
use Rattle.std.proofs.lemmas.Bool.{not-true}
use Rattle.lf_laws.proofs.Booleans.{and_left}
use Rattle.lf_semantics.specs.ClassRows.{HasShape, Sets, emptied, top, holds, is_live, narrowed, bottom, only_empty, remade, replaced}
use Rattle.lf_semantics.specs.Listing.{Listing}
use Rattle.lf_semantics.specs.RowTable.{is_label_among, is_metric_label, nameless_if, taken_row}
use Rattle.lf_semantics.proofs.RowLaws.{shape_top, shape_narrowed, shape_bottom, shape_replaced}
use Rattle.lf_semantics.proofs.RowSets.{emptied_remade, emptied_same, same_row}
use Rattle.lf_flow.specs.views.Chosen.{Chooses}
use Rattle.lf_flow.proofs.ClassSets.{row_length}
use Rattle.lf_flow.proofs.Layered.{fewer_dead, same_narrowed, same_replaced, normalized_dead}

module _ (u : Listing) (row : Sets) (shape : HasShape u row) where
  -- at the labels that are chosen

  module _ (chosen : ℕ → Bool) (set : List Bool) (h : Chooses u chosen set) where
    at : (l : ℕ) → l < length row → get_or set l false ≡ chosen l
    at l b = h.at l (omega (arith, b, row_length u row shape))

    pub others_dropped : only_empty (λ l. not (get_or set l false)) row ≡ only_empty (λ l. not (chosen l)) row
    others_dropped = same_replaced _ _ (λ l c. eqb c 0) row (λ l b. ap not (at l b))

    pub chosen_taken : (test : ℕ → ℕ → Bool) → replaced (λ l. get_or set l false) test row ≡ replaced chosen test row
    chosen_taken test = same_replaced _ _ test row at

    pub chosen_met : (test : ℕ → ℕ → Bool) → narrowed (λ l c. not (get_or set l false) || test l c) row ≡ narrowed (λ l c. not (chosen l) || test l c) row
    chosen_met test = same_narrowed _ _ row (λ l c b. ap (λ x. not x || test l c) (at l b))

    pub side_met : (other : Sets) → cond (is_live other) (narrowed (λ l c. not (get_or set l false) || holds other l c) row) (bottom u) ≡ cond (is_live other) (narrowed (λ l c. not (chosen l) || holds other l c) row) (bottom u)
    side_met other = ap (λ x. cond (is_live other) x (bottom u)) (chosen_met (holds other))

  -- shapes

  pub shape_side : (live : Bool) (test : ℕ → ℕ → Bool) → HasShape u (cond live (narrowed test row) (bottom u))
  shape_side true test = shape_narrowed test row ∙ shape
  shape_side false test = shape_bottom u

  pub shape_taken : (one : Sets) (names : List Name) → HasShape u (taken_row u one names row)
  shape_taken one names = by (is_live one)
    where
      by : (live : Bool) → HasShape u (cond live (replaced (is_label_among u names) (holds one) row) (bottom u))
      by true = shape_replaced (is_label_among u names) (holds one) row ∙ shape
      by false = shape_bottom u

  pub shape_nameless_if : (drops : Bool) → HasShape u (nameless_if u drops row)
  shape_nameless_if true = shape_replaced (is_metric_label u) (λ l c. eqb c 0) row ∙ shape
  shape_nameless_if false = shape

  -- empty rows

  pub cleared : emptied row ≡ bottom u
  cleared = emptied_same row (top u) (shape ∙ sym (shape_top u))

  narrowed_dead : (test : ℕ → ℕ → Bool) → is_live row ≡ false → narrowed test row ≡ emptied row
  narrowed_dead test e =
      let all : remade (λ l c on. on) row ≡ row = same_row (λ l c on. on) row (λ l c. refl) in
      normalized_dead (remade (λ l c on. on && test l c) row) (fewer_dead (λ l c on. on) (λ l c on. on && test l c) row (λ l c b d q. (c, d, and_left (holds row l c) (test l c) q)) (ap is_live all ∙ e))
      ∙ emptied_remade (λ l c on. on && test l c) row

  -- a match of which this side is empty
  pub none_here : (test : ℕ → ℕ → Bool) (live : Bool) → not (is_live row) ≡ true → emptied row ≡ cond live (narrowed test row) (bottom u)
  none_here test true e = sym (narrowed_dead test (not-true (is_live row) e))
  none_here test false e = cleared

  -- a match of which the other side is empty
  pub none_there : (other : Sets) (x : Sets) → not (is_live other) ≡ true → emptied row ≡ cond (is_live other) x (bottom u)
  none_there other x e = cleared ∙ ap (λ b. cond b x (bottom u)) (sym (not-true (is_live other) e))

pub some_there : (other x none : Sets) → not (is_live other) ≡ false → x ≡ cond (is_live other) x none
some_there other x none e = by (is_live other) e
  where
    by : (b : Bool) → not b ≡ false → x ≡ cond b x none
    by true e = refl
    by false e = absurd (cc)
