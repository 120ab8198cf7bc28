-- Rows that are narrowed.
use Rattle.std.proofs.Common.{◌≡◌, ◌≢◌, ℕ, ◌<◌, Bool, true, false, not, ◌&&◌, ◌||◌, cond, eqb, List, [], length, get_or, inl, inr, refl, sym, ◌∙◌, ap, subst, arith}
use Rattle.std.proofs.lemmas.Bool.{cases_eq}
use Rattle.std.proofs.lemmas.Bool.Decides.{Decides-eqb}
use Rattle.std.proofs.Math.Bool.{and-true, and-false}
use Rattle.lf_semantics.specs.ClassRows.{Sets, emptied, holds, is_live, kept, narrowed, remade, normalized}
use Rattle.lf_semantics.proofs.Places.{eqb-other}
use Rattle.lf_classes.proofs.LabelChanges.{emptied_label, narrowing, narrowing_here, narrowing_there}
use Rattle.lf_flow.specs.views.ClassSets.{IsSet}
use Rattle.lf_semantics.proofs.RowSets.{remade_same, same_row}
use Rattle.lf_flow.proofs.Layered.{none_remade, same_narrowed, same_remade}

-- a label of which the classes in a set stay
pub narrowed_at : (label n : ℕ) (on : List Bool) (test : ℕ → ℕ → Bool) (row : Sets) → IsSet n (test label) on → length (get_or row label []) ≡ n
    → narrowed (λ l c. not (eqb label l) || get_or on c false) row ≡ narrowed (λ l c. not (eqb label l) || test l c) row
narrowed_at label n on test row set e = ap normalized (remade_same _ _ row (λ l c b k. by l c k (eqb label l) refl))
  where
    by : (l c : ℕ) → c < length (get_or row l []) → (b : Bool) → eqb label l ≡ b → (holds row l c && (not b || get_or on c false)) ≡ (holds row l c && (not b || test l c))
    by l c k false f = refl
    by l c k true f =
        let same : label ≡ l = (Decides-eqb label l).0 f in
        let P : ℕ → Type 0 = λ m. c < length (get_or row m []) → get_or on c false ≡ test m c in
        ap (λ b. holds row l c && b) (subst P same (λ j. set.each c (omega (arith, e))) k)

-- a row that every class passes stays as it is
pub narrowed_none : (row : Sets) → normalized row ≡ row → narrowed (λ l c. true) row ≡ row
narrowed_none row is = ap normalized (same_row (λ l c on. on && true) row (λ l c. and-true (holds row l c))) ∙ is

-- a label that is narrowed by another test that says the same
pub narrowed_as : (label : ℕ) (s t : ℕ → ℕ → Bool) (row : Sets) → ((c : ℕ) → s label c ≡ t label c)
    → narrowed (λ l c. not (eqb label l) || s l c) row ≡ narrowed (λ l c. not (eqb label l) || t l c) row
narrowed_as label s t row same = same_narrowed _ _ row (λ l c h. (elim (cases_eq label l) [
  | inl e ↦ (let P : ℕ → Type 0 = λ m. (not (eqb label m) || s m c) ≡ (not (eqb label m) || t m c) in subst P e (ap (λ b. not (eqb label label) || b) (same c)))
  | inr n ↦ (let q : eqb label l ≡ false = eqb-other label l n in ap (λ b. not b || s l c) q ∙ sym (ap (λ b. not b || t l c) q))
]))

-- a label none of whose classes passes
pub narrowed_off : (label : ℕ) (t : ℕ → ℕ → Bool) (row : Sets) → label < length row → ((c : ℕ) → t label c ≡ false) → emptied row ≡ narrowed (λ l c. not (eqb label l) || t l c) row
narrowed_off label t row h off =
    emptied_label (narrowing t label) row label h (λ c. narrowing_here t label c (holds row label c) ∙ ap (λ b. holds row label c && b) (off c) ∙ and-false (holds row label c))

-- a label each of whose classes passes
pub narrowed_on : (label : ℕ) (t : ℕ → ℕ → Bool) (row : Sets) → normalized row ≡ row → ((c : ℕ) → t label c ≡ true) → row ≡ narrowed (λ l c. not (eqb label l) || t l c) row
narrowed_on label t row is on = sym (ap normalized (same_row (narrowing t label) row each) ∙ is)
  where
    each : (l c : ℕ) → narrowing t label l c (holds row l c) ≡ holds row l c
    each l c = elim (cases_eq label l) [
      | inl e ↦ (let P : ℕ → Type 0 = λ m. narrowing t label m c (holds row m c) ≡ holds row m c in subst P e (narrowing_here t label c (holds row label c) ∙ ap (λ b. holds row label c && b) (on c) ∙ and-true (holds row label c)))
      | inr n ↦ narrowing_there t label l c (holds row l c) (λ q. n (sym q))
    ]

-- a class that is taken out of a label
pub narrowed_but : (label class : ℕ) (t : ℕ → ℕ → Bool) (row : Sets) → normalized row ≡ row → ((c : ℕ) → t label c ≡ not (eqb c class))
    → kept label class false row ≡ narrowed (λ l c. not (eqb label l) || t l c) row
narrowed_but label class t row is but = by (is_live row) refl
  where
    out : (b on : Bool) → cond b false on ≡ (on && not b)
    out true true = refl
    out true false = refl
    out false true = refl
    out false false = refl

    each : (l c : ℕ) → cond (eqb l label && eqb c class) false (holds row l c) ≡ narrowing t label l c (holds row l c)
    each l c = elim (cases_eq label l) [
      | inl e ↦
          let P : ℕ → Type 0 = λ m. cond (eqb m label && eqb c class) false (holds row m c) ≡ narrowing t label m c (holds row m c) in
          let here : eqb label label ≡ true = (Decides-eqb label label).1 refl in
          subst P e
          (ap (λ b. cond (b && eqb c class) false (holds row label c)) here ∙ out (eqb c class) (holds row label c)
          ∙ sym (narrowing_here t label c (holds row label c) ∙ ap (λ b. holds row label c && b) (but c)))
      | inr n ↦
          let m : l ≢ label = λ q. n (sym q) in
          ap (λ b. cond (b && eqb c class) false (holds row l c)) (eqb-other l label m) ∙ sym (narrowing_there t label l c (holds row l c) m)
    ]

    by : (b : Bool) → is_live row ≡ b → kept label class false row ≡ narrowed (λ l c. not (eqb label l) || t l c) row
    by true e =
        ap (λ b. cond b (normalized (remade (λ l c before. cond (eqb l label && eqb c class) false before) row)) row) e
        ∙ ap normalized (same_remade (λ l c before. cond (eqb l label && eqb c class) false before) (narrowing t label) row (λ l c h. each l c))
    by false e =
        let empty : row ≡ emptied row = sym is ∙ ap (λ b. cond b row (emptied row)) e in
        ap (λ b. cond b (normalized (remade (λ l c before. cond (eqb l label && eqb c class) false before) row)) row) e
        ∙ empty ∙ sym (ap normalized (ap (remade (narrowing t label)) empty) ∙ none_remade (narrowing t label) row (λ l c. refl))
