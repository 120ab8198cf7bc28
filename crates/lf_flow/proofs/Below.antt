-- Loops over the labels of a universe: what is changed of a row so far.
use Rattle.std.proofs.Common.{◌≡◌, ℕ, ◌+◌, ◌<◌, Bool, true, false, not, ◌&&◌, ◌||◌, cond, eqb, length, inl, inr, refl, ◌∙◌, ap, arith}
use Rattle.std.specs.Prelude.{nat_lt}
use Rattle.std.proofs.lemmas.Bool.{cases_eq}
use Rattle.std.proofs.lemmas.Bool.Decides.{nat_tests}
use Rattle.std.proofs.Math.Bool.{and-true}
use Rattle.lf_semantics.specs.ClassRows.{Sets, holds, is_live, narrowed, replaced, normalized}
use Rattle.lf_semantics.proofs.LeqLaws.{normalized_live}
use Rattle.lf_semantics.proofs.RowSets.{same_row}
use Rattle.lf_flow.proofs.Layered.{narrowed_twice, replaced_dead, replaced_live, replaced_twice, same_narrowed, same_replaced}

-- the chosen labels below a number
abbrev pub below : (ℕ → Bool) → ℕ → ℕ → Bool
below chosen k label = nat_lt label k && chosen label

below_none : (chosen : ℕ → Bool) (l : ℕ) → below chosen 0 l ≡ false
below_none chosen l = grind (arith, nat_tests)

below_all : (chosen : ℕ → Bool) (k l : ℕ) → l < k → below chosen k l ≡ chosen l
below_all chosen k l h = grind (arith, nat_tests)

below_more : (chosen : ℕ → Bool) (k l : ℕ) → chosen k ≡ true → (below chosen k l || eqb k l) ≡ below chosen (k + 1) l
below_more chosen k l e = elim (cases_eq l k) [
  | inl q ↦ (let f : chosen l ≡ true = ap chosen q ∙ e in grind (arith, nat_tests))
  | inr n ↦ grind (arith, nat_tests)
]

below_same : (chosen : ℕ → Bool) (k l : ℕ) → chosen k ≡ false → below chosen k l ≡ below chosen (k + 1) l
below_same chosen k l e = elim (cases_eq l k) [
  | inl q ↦ (let f : chosen l ≡ false = ap chosen q ∙ e in grind (arith, nat_tests))
  | inr n ↦ grind (arith, nat_tests)
]

module _ (chosen : ℕ → Bool) (test : ℕ → ℕ → Bool) (row : Sets) where
  -- replacing

  nothing_replaced : (b : Bool) → is_live row ≡ b → replaced (below chosen 0) test row ≡ row
  nothing_replaced true e =
      replaced_live (below chosen 0) test row e
      ∙ ap normalized (same_row (λ l c on. cond (below chosen 0 l) (test l c) on) row (λ l c. ap (λ b. cond b (test l c) (holds row l c)) (below_none chosen l)))
      ∙ normalized_live row e
  nothing_replaced false e = replaced_dead (below chosen 0) test row e

  pub replaced_first : replaced (below chosen 0) test row ≡ row
  replaced_first = nothing_replaced (is_live row) refl

  pub replaced_more : (k : ℕ) → chosen k ≡ true → replaced (λ l. eqb k l) test (replaced (below chosen k) test row) ≡ replaced (below chosen (k + 1)) test row
  replaced_more k e = replaced_twice (below chosen k) (λ l. eqb k l) test row ∙ same_replaced _ _ test row (λ l h. below_more chosen k l e)

  pub replaced_same : (k : ℕ) → chosen k ≡ false → replaced (below chosen k) test row ≡ replaced (below chosen (k + 1)) test row
  replaced_same k e = same_replaced _ _ test row (λ l h. below_same chosen k l e)

  pub replaced_all : replaced (below chosen (length row)) test row ≡ replaced chosen test row
  replaced_all = same_replaced _ _ test row (λ l h. below_all chosen (length row) l h)

  -- narrowing

  -- the classes that pass, at the chosen labels below a number
  abbrev pub passing : ℕ → ℕ → ℕ → Bool
  passing k l c = not (below chosen k l) || test l c

  pub narrowed_first : is_live row ≡ true → narrowed (passing 0) row ≡ row
  narrowed_first e =
      ap normalized (same_row (λ l c on. on && passing 0 l c) row (λ l c. ap (λ b. holds row l c && (not b || test l c)) (below_none chosen l) ∙ and-true (holds row l c)))
      ∙ normalized_live row e

  or_both : (a b t : Bool) → ((not a || t) && (not b || t)) ≡ (not (a || b) || t)
  or_both true true true = refl
  or_both true true false = refl
  or_both true false true = refl
  or_both true false false = refl
  or_both false b t = refl

  pub narrowed_more : (k : ℕ) → chosen k ≡ true → narrowed (λ l c. not (eqb k l) || test l c) (narrowed (passing k) row) ≡ narrowed (passing (k + 1)) row
  narrowed_more k e =
      narrowed_twice (passing k) (λ l c. not (eqb k l) || test l c) row
      ∙ same_narrowed _ _ row (λ l c h. or_both (below chosen k l) (eqb k l) (test l c) ∙ ap (λ b. not b || test l c) (below_more chosen k l e))

  pub narrowed_same : (k : ℕ) → chosen k ≡ false → narrowed (passing k) row ≡ narrowed (passing (k + 1)) row
  narrowed_same k e = same_narrowed _ _ row (λ l c h. ap (λ b. not b || test l c) (below_same chosen k l e))

  pub narrowed_all : narrowed (passing (length row)) row ≡ narrowed (λ l c. not (chosen l) || test l c) row
  narrowed_all = same_narrowed _ _ row (λ l c h. ap (λ b. not b || test l c) (below_all chosen (length row) l h))
