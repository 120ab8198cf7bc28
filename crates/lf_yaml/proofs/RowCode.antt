-- The code's rows, byte by byte.
use Rattle.std.proofs.Common.{◌≡◌, ℕ, suc, ◌+◌, ◌<◌, Bool, eqb, List, [], ◌∷◌, length, get_or, drop, Option, refl, ap, arith, ◌∙◌, ◌&&◌, ◌||◌}
use Rattle.std.proofs.lemmas.Bool.{eq-eqb}
use Rattle.lf_scalar.specs.Cells.{Cell, cell, cells}
use Rattle.lf_scalar.specs.Markers.{is_thrice}
use Rattle.lf_yaml.specs.Rows.{ContentRow, text_of, indent, is_mark, left_of}
use Rattle.lf_yaml.specs.views.Shown.{shown}
use Rattle.lf_yaml.specs.declared.row.ContentLine.{ContentLine}

-- what is left of a line from a place on
abbrev pub left_from : ℕ → ℕ → List ℕ → ℕ → Option ContentRow
left_from begin at text i = left_of begin (cells (at + i) (drop i text))

-- a row's text is the code's text
pub text-shown : (r : ContentLine) → 0 < length r.text.now → text_of (shown r) ≡ cells r.at r.text.now
text-shown r lt = by r.text.now lt
  where
    by : (xs : List ℕ) → 0 < length xs → cell (get_or xs 0 0) r.at ∷ cells (suc r.at) (drop 1 xs) ≡ cells r.at xs
    by [] lt = absurd (omega arith)
    by (x ∷ xs) lt = refl

pub mark-by : (r : ContentLine) (a b : Bool) → 0 < length r.text.now → indent (shown r) ≡ 0 → is_thrice 45 (cells r.at r.text.now) ≡ a → is_thrice 46 (cells r.at r.text.now) ≡ b → is_mark (shown r) ≡ (a || (b || eqb (get_or r.text.now 0 0) 37))
mark-by r a b lt e p q =
    ap (λ (xs : List Cell). eqb (indent (shown r)) 0 && (is_thrice 45 xs || (is_thrice 46 xs || eqb (get_or r.text.now 0 0) 37))) (text-shown r lt) ∙ rw (eq-eqb (indent (shown r)) 0 e, p, q) refl
