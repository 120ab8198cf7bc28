-- What may stand behind a scalar on its line, and the first cell that may not.
use Rattle.std.proofs.Common.{◌≡◌, Bool, true, false, eqb, List, [], ◌∷◌, ◌++◌, Some, None, refl, ap, sym, ◌∙◌, ◌⊎◌, inl, inr, ◌&&◌}
use Rattle.std.proofs.lemmas.Option.{none-some, same_Some}
use Rattle.lf_scalar.specs.Cells.{Cell}
use Rattle.lf_scalar.specs.Lines.{is_blank, is_tail}
use Rattle.lf_scalar.specs.Quoted.{WrongBehind}
use Rattle.lf_scalar.specs.reading.Quoted.{wrong_behind}

pub true-false : {X : Type 0} (b : Bool) → b ≡ true → b ≡ false → X
true-false b p q = let h : true ≡ false = sym p ∙ q in absurd cc

-- the same behind a blank or not
pub record WrongFrom (behind : Bool) (cs : List Cell) (wrong : Cell) : Type 0 where
  pub front : List Cell
  pub more : List Cell
  pub source : cs ≡ front ++ wrong ∷ more
  pub before : is_tail behind front ≡ true
  pub here : is_tail behind (front ++ wrong ∷ []) ≡ false

-- a blank, the sign of a comment, or a wrong cell
abbrev Step : Bool → Cell → Type 0
Step behind c = (is_blank c ≡ true) ⊎ ((is_blank c ≡ false) × ((behind && eqb c.byte 35) ≡ true)) ⊎ ((is_blank c ≡ false) × ((behind && eqb c.byte 35) ≡ false))

step : (behind : Bool) (c : Cell) → Step behind c
step behind c = by (is_blank c) (behind && eqb c.byte 35) refl refl
  where
    by : (a b : Bool) → is_blank c ≡ a → (behind && eqb c.byte 35) ≡ b → Step behind c
    by true b p q = inl p
    by false true p q = inr (inl (p, q))
    by false false p q = inr (inr (p, q))

pub tail-told : (behind : Bool) (cs : List Cell) → is_tail behind cs ≡ true → wrong_behind behind cs ≡ None
tail-told behind [] h = refl
tail-told behind (c ∷ cs) h =
    elim (step behind c) [
      | inl p ↦ rw p (tail-told true cs (rw p at h))
      | inr (inl p) ↦ rw (p.0, p.1) refl
      | inr (inr p) ↦ true-false (is_tail behind (c ∷ cs)) h (rw (p.0, p.1) refl)
    ]

pub told-tail : (behind : Bool) (cs : List Cell) → wrong_behind behind cs ≡ None → is_tail behind cs ≡ true
told-tail behind [] h = refl
told-tail behind (c ∷ cs) h =
    elim (step behind c) [
      | inl p ↦ rw p (told-tail true cs (rw p at h))
      | inr (inl p) ↦ rw (p.0, p.1) refl
      | inr (inr p) ↦ absurd (none-some c (sym h ∙ rw (p.0, p.1) refl))
    ]

wrong-by : (behind : Bool) (front : List Cell) (w : Cell) (more : List Cell) → is_tail behind front ≡ true → is_tail behind (front ++ w ∷ []) ≡ false → wrong_behind behind (front ++ w ∷ more) ≡ Some w
wrong-by behind [] w more before here =
    elim (step behind w) [
      | inl p ↦ true-false (is_tail behind (w ∷ [])) (rw p refl) here
      | inr (inl p) ↦ true-false (is_tail behind (w ∷ [])) (rw (p.0, p.1) refl) here
      | inr (inr p) ↦ rw (p.0, p.1) refl
    ]
wrong-by behind (c ∷ front) w more before here =
    elim (step behind c) [
      | inl p ↦ rw p (wrong-by true front w more (rw p at before) (rw p at here))
      | inr (inl p) ↦ true-false (is_tail behind (c ∷ front ++ w ∷ [])) (rw (p.0, p.1) refl) here
      | inr (inr p) ↦ true-false (is_tail behind (c ∷ front)) before (rw (p.0, p.1) refl)
    ]

pub wrong-told : (behind : Bool) (cs : List Cell) (w : Cell) → WrongFrom behind cs w → wrong_behind behind cs ≡ Some w
wrong-told behind cs w r = ap (wrong_behind behind) r.source ∙ wrong-by behind r.front w r.more r.before r.here

pub told-wrong : (behind : Bool) (cs : List Cell) (w : Cell) → wrong_behind behind cs ≡ Some w → WrongFrom behind cs w
told-wrong behind [] w e = absurd (none-some w e)
told-wrong behind (c ∷ cs) w e =
    elim (step behind c) [
      | inl p ↦
          let r = told-wrong true cs w (rw p at e) in
          record { front = c ∷ r.front; more = r.more; source = ap (λ (x : List Cell). c ∷ x) r.source; before = rw p r.before; here = rw p r.here }
      | inr (inl p) ↦ absurd (none-some w (sym (tail-told behind (c ∷ cs) (rw (p.0, p.1) refl)) ∙ e))
      | inr (inr p) ↦
          let i : c ≡ w = same_Some c w (rw (p.0, p.1) at e) in
          record { front = []; more = cs; source = ap (λ (x : Cell). x ∷ cs) i; before = refl; here = rw (← i, p.0, p.1) refl }
    ]

pub from-front : (cs : List Cell) (w : Cell) → WrongBehind cs w → WrongFrom false cs w
from-front cs w r = record { front = r.front; more = r.more; source = r.source; before = r.before; here = r.here }

pub to-front : (cs : List Cell) (w : Cell) → WrongFrom false cs w → WrongBehind cs w
to-front cs w r = record { front = r.front; more = r.more; source = r.source; before = r.before; here = r.here }
