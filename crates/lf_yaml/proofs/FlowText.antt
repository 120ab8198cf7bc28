-- The text of a plain scalar in a flow collection, byte by byte.
use Rattle.std.proofs.Common.{◌≡◌, ℕ, zero, suc, ◌+◌, ◌<◌, ◌≤◌, true, false, not, List, [], ◌∷◌, length, get_or, take, refl, ap, arith, sym, ◌∙◌, inl, inr}
use Rattle.std.specs.Prelude.{take_while}
use Rattle.std.specs.List.{prefix_len}
use Rattle.std.proofs.lemmas.Bool.{cases_lt}
use Rattle.lf_scalar.specs.Cells.{Cell, cell, cells}
use Rattle.lf_yaml.specs.Flow.{is_flow_sign}

abbrev pub NoSigns : List ℕ → ℕ → Type 0
NoSigns text n = (k : ℕ) → k < n → is_flow_sign (cell (get_or text k 0) 0) ≡ false

pub before-sign : (at n : ℕ) (text : List ℕ) → n ≤ length text → NoSigns text n → (n < length text → is_flow_sign (cell (get_or text n 0) 0) ≡ true) → take_while (λ c. not (is_flow_sign c)) (cells at text) ≡ cells at (take n text)
before-sign at zero [] le none stop = refl
before-sign at (suc n) [] le none stop = absurd (omega arith)
before-sign at zero (x ∷ xs) le none stop = rw (stop (omega arith)) refl
before-sign at (suc n) (x ∷ xs) le none stop =
    let m = prefix_len (λ (c : Cell). not (is_flow_sign c)) (cells (suc at) xs) in
    let z : 1 + m ≡ suc m = omega arith in
    rw (none 0 (omega arith))
    (ap (λ (k : ℕ). take k (cells at (x ∷ xs))) z ∙ ap (λ (cs : List Cell). cell x at ∷ cs) (before-sign (suc at) n xs (omega arith) (λ k lt. none (suc k) (omega arith)) (λ lt. stop (omega arith))))

pub no-more-signs : (text : List ℕ) (i : ℕ) → NoSigns text i → is_flow_sign (cell (get_or text i 0) 0) ≡ false → NoSigns text (i + 1)
no-more-signs text i none here k lt =
    elim (cases_lt k i) [
      | inl less ↦ none k less
      | inr le ↦ let same : i ≡ k = omega (arith, le, lt) in ap (λ (n : ℕ). is_flow_sign (cell (get_or text n 0) 0)) (sym same) ∙ here
    ]
