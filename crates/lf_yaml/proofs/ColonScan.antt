-- Going over the text of a plain scalar, to a `:` that can't stand in it.
use Rattle.std.proofs.Common.{◌≡◌, ◌≢◌, ℕ, suc, ◌+◌, ◌-◌, ◌<◌, ◌≤◌, Bool, true, false, eqb, List, ◌∷◌, ◌++◌, Option, Some, length, get_or, take, drop, refl, ap, arith, sym, ◌∙◌, ◌&&◌, eq-eqb, ne_eqb, take-append-drop, length-drop, length-take}
use Rattle.std.proofs.lemmas.List.{drop-drop, drop_more}
use Rattle.std.proofs.Math.Bool.{and-false}
use Rattle.lf_scalar.specs.Cells.{Cell, cell, cells}
use Rattle.lf_scalar.specs.Plain.{before_blank}
use Rattle.lf_scalar.proofs.Cells.{cells-append}
use Rattle.lf_yaml.specs.Flow.{colon_in}

-- from a place on
abbrev pub colon_from : ℕ → List ℕ → ℕ → ℕ → Option Cell
colon_from at text len i = colon_in (cells (at + i) (take (len - i) (drop i text))) (cells (at + len) (drop len text))

-- the text from a place on
text-at : (at len i : ℕ) (text : List ℕ) → i < len → len ≤ length text → cells (at + i) (take (len - i) (drop i text)) ≡ cell (get_or text i 0) (at + i) ∷ cells (at + (i + 1)) (take (len - (i + 1)) (drop (i + 1) text))
text-at at len i text lt le =
    let n : len - i ≡ suc (len - (i + 1)) = omega arith in
    let z : suc (at + i) ≡ at + (i + 1) = omega arith in
    ap (λ (m : ℕ). cells (at + i) (take m (drop i text))) n ∙ ap (λ (xs : List ℕ). cells (at + i) (take (suc (len - (i + 1))) xs)) (drop_more text i 0 (omega arith))
    ∙ ap (λ (m : ℕ). cell (get_or text i 0) (at + i) ∷ cells m (take (len - (i + 1)) (drop (i + 1) text))) z

-- what follows a place, in the text and behind it
follows : (at len i : ℕ) (text : List ℕ) → i < len → len ≤ length text → cells (at + (i + 1)) (take (len - (i + 1)) (drop (i + 1) text)) ++ cells (at + len) (drop len text) ≡ cells (at + (i + 1)) (drop (i + 1) text)
follows at len i text lt le =
    let ys = drop (i + 1) text in
    let n = len - (i + 1) in
    let whole : (i + 1) + n ≡ len = omega arith in
    let size : length (take n ys) ≡ n = omega (arith, length-take n ys, length-drop (i + 1) text) in
    let place : at + len ≡ (at + (i + 1)) + length (take n ys) = omega (arith, size) in
    let rest : drop len text ≡ drop n ys = ap (λ (m : ℕ). drop m text) (sym whole) ∙ sym (drop-drop n (i + 1) text) in
    ap (λ (xs : List ℕ). cells (at + (i + 1)) (take n ys) ++ cells (at + len) xs) rest ∙ ap (λ (m : ℕ). cells (at + (i + 1)) (take n ys) ++ cells m (drop n ys)) place
    ∙ sym (cells-append (at + (i + 1)) (take n ys) (drop n ys)) ∙ ap (cells (at + (i + 1))) (take-append-drop n ys)

module _ (at len i : ℕ) (text : List ℕ) (lt : i < len) (le : len ≤ length text) where
  first : colon_from at text len i ≡ colon_in (cell (get_or text i 0) (at + i) ∷ cells (at + (i + 1)) (take (len - (i + 1)) (drop (i + 1) text))) (cells (at + len) (drop len text))
  first = ap (λ (cs : List Cell). colon_in cs (cells (at + len) (drop len text))) (text-at at len i text lt le)

  -- the test at the place
  tested : (b : Bool) → (eqb (get_or text i 0) 58 && before_blank (cells (at + (i + 1)) (drop (i + 1) text))) ≡ b
      → (eqb (get_or text i 0) 58 && before_blank (cells (at + (i + 1)) (take (len - (i + 1)) (drop (i + 1) text)) ++ cells (at + len) (drop len text))) ≡ b
  tested b h = ap (λ (cs : List Cell). eqb (get_or text i 0) 58 && before_blank cs) (follows at len i text lt le) ∙ h

  pub colon-here : get_or text i 0 ≡ 58 → before_blank (cells (at + (i + 1)) (drop (i + 1) text)) ≡ true → colon_from at text len i ≡ Some (cell 58 (at + i))
  colon-here e h =
      let t : (eqb (get_or text i 0) 58 && before_blank (cells (at + (i + 1)) (drop (i + 1) text))) ≡ true = rw (eq-eqb (get_or text i 0) 58 e, h) refl in
      first ∙ rw (tested true t) (ap (λ (b : ℕ). Some (cell b (at + i))) e)

  pub colon-later : (eqb (get_or text i 0) 58 && before_blank (cells (at + (i + 1)) (drop (i + 1) text))) ≡ false → colon_from at text len i ≡ colon_from at text len (i + 1)
  colon-later h = first ∙ rw (tested false h) refl

pub not-apart : (x : ℕ) (b : Bool) → b ≡ false → (eqb x 58 && b) ≡ false
not-apart x b h = rw h (and-false (eqb x 58))

pub not-colon : (x : ℕ) (b : Bool) → x ≢ 58 → (eqb x 58 && b) ≡ false
not-colon x b h = rw (ne_eqb x 58 h) refl
