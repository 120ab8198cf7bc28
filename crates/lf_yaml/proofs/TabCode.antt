-- A tab behind an item's sign, as the code finds it.
use Rattle.std.proofs.Common.{◌≡◌, ℕ, zero, suc, ◌+◌, true, false, eqb, List, [], ◌∷◌, Option, Some, None, get_or, drop, refl, ap, sym, ◌∙◌, inl, inr, if◌then◌else◌}
use Rattle.std.proofs.lemmas.Bool.{eqb-true, cases_Bool}
use Rattle.lf_scalar.specs.Cells.{Cell, cell, cells}
use Rattle.lf_scalar.specs.Lines.{after_spaces}
use Rattle.lf_yaml.specs.Rows.{tab_in}

abbrev head_tab : List Cell → Option Cell
head_tab [] = None
head_tab (c ∷ cs) = if eqb c.byte 9 then Some c else None

tab-is : (cs : List Cell) → tab_in cs ≡ head_tab (after_spaces cs)
tab-is [] = refl
tab-is (c ∷ cs) =
    elim (cases_Bool (eqb c.byte 32)) [
      | inl a ↦ rw a (tab-is cs)
      | inr a ↦ rw a refl
    ]

tab-at : (n p : ℕ) (text : List ℕ) → eqb (get_or text p 0) 9 ≡ true → head_tab (cells n (drop p text)) ≡ Some (cell 9 n)
tab-at n zero [] e = absurd cc
tab-at n (suc p) [] e = absurd cc
tab-at n zero (x ∷ xs) e = rw e (ap (λ (b : ℕ). Some (cell b n)) (eqb-true x 9 e))
tab-at n (suc p) (x ∷ xs) e = tab-at n p xs e

no-tab-at : (n p : ℕ) (text : List ℕ) → eqb (get_or text p 0) 9 ≡ false → head_tab (cells n (drop p text)) ≡ None
no-tab-at n zero [] e = refl
no-tab-at n (suc p) [] e = refl
no-tab-at n zero (x ∷ xs) e = rw e refl
no-tab-at n (suc p) (x ∷ xs) e = no-tab-at n p xs e

module _ (at k : ℕ) (rest text : List ℕ) (is : rest ≡ text) (after : after_spaces (cells at rest) ≡ cells (at + k) (drop k rest)) where
  found-is : tab_in (cells at text) ≡ head_tab (cells (at + k) (drop k rest))
  found-is = ap (λ (xs : List ℕ). tab_in (cells at xs)) (sym is) ∙ tab-is (cells at rest) ∙ ap head_tab after

  pub tab-found : eqb (get_or rest k 0) 9 ≡ true → tab_in (cells at text) ≡ Some (cell 9 (at + k))
  tab-found e = found-is ∙ tab-at (at + k) k rest e

  pub tab-missing : eqb (get_or rest k 0) 9 ≡ false → tab_in (cells at text) ≡ None
  tab-missing e = found-is ∙ no-tab-at (at + k) k rest e
