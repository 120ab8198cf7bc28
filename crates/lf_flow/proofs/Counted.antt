-- The row of `count_values`, by a label that has every class and may lose the empty text.
use Rattle.std.proofs.Common.{◌≡◌, ℕ, Bool, true, false, not, ◌&&◌, ◌||◌, cond, eqb, refl, sym, ◌∙◌, ap}
use Rattle.lf_semantics.specs.ClassRows.{Sets, holds, is_live, kept, remade, replaced, normalized}
use Rattle.lf_classes.proofs.Changes.{live_more}
use Rattle.lf_semantics.proofs.LeqLaws.{normalized_live}
use Rattle.lf_flow.proofs.ClassSets.{eqb-turn}
use Rattle.lf_flow.proofs.Layered.{replaced_dead, replaced_live, same_remade, twice_remade}

filled_true : (b : Bool) → cond b true true ≡ true
filled_true true = refl
filled_true false = refl

kept_filled : (b z lacked on : Bool) → cond (b && z) lacked (cond b true on) ≡ cond b (not z || lacked) on
kept_filled true true lacked on = refl
kept_filled true false lacked on = refl
kept_filled false z lacked on = refl

pub counted : (label : ℕ) (lacked : Bool) (row : Sets)
    → kept label 0 lacked (replaced (λ l. eqb label l) (λ l c. true) row) ≡ replaced (λ l. eqb label l) (λ l c. not (eqb c 0) || lacked) row
counted label lacked row = by (is_live row) refl
  where
    by : (b : Bool) → is_live row ≡ b → kept label 0 lacked (replaced (λ l. eqb label l) (λ l c. true) row) ≡ replaced (λ l. eqb label l) (λ l c. not (eqb c 0) || lacked) row
    by true e =
        let fill : ℕ → ℕ → Bool → Bool = λ l c on. cond (eqb label l) true on in
        let one : ℕ → ℕ → Bool → Bool = λ l c on. cond (eqb l label && eqb c 0) lacked on in
        let other : ℕ → ℕ → Bool → Bool = λ l c on. cond (eqb label l) (not (eqb c 0) || lacked) on in
        let live : is_live (remade fill row) ≡ true = live_more fill row e (λ l c. filled_true (eqb label l)) in
        ap (λ x. cond (is_live x) (normalized (remade one x)) x) (replaced_live (λ l. eqb label l) (λ l c. true) row e ∙ normalized_live (remade fill row) live)
        ∙ ap (λ b. cond b (normalized (remade one (remade fill row))) (remade fill row)) live
        ∙ ap normalized (twice_remade fill one row
        ∙ same_remade (λ l c on. one l c (fill l c on)) other row (λ l c h.
        ap (λ b. cond (b && eqb c 0) lacked (fill l c (holds row l c))) (eqb-turn l label) ∙ kept_filled (eqb label l) (eqb c 0) lacked (holds row l c)))
        ∙ sym (replaced_live (λ l. eqb label l) (λ l c. not (eqb c 0) || lacked) row e)
    by false e =
        ap (λ x. kept label 0 lacked x) (replaced_dead (λ l. eqb label l) (λ l c. true) row e)
        ∙ ap (λ b. cond b (normalized (remade (λ l c on. cond (eqb l label && eqb c 0) lacked on) row)) row) e
        ∙ sym (replaced_dead (λ l. eqb label l) (λ l c. not (eqb c 0) || lacked) row e)
