-- Blanks, and the blank before a comment, are ASCII bytes.
use Rattle.std.proofs.Common.{◌≡◌, ℕ, zero, suc, ◌<◌, true, eqb, List, [], ◌∷◌, get_or, arith, inl, inr}
use Rattle.std.proofs.lemmas.Bool.Decides.{eqb_tells}
use Rattle.std.proofs.lemmas.Bool.{and_parts, false≢true}
use Rattle.lf_scalar.specs.Cells.{cell}
use Rattle.lf_scalar.specs.Lines.{is_blank}
use Rattle.lf_scalar.specs.reading.Plain.{comment_at}

pub small-blank : (x at : ℕ) → is_blank (cell x at) ≡ true → x < 128
small-blank x at h =
    elim (eqb_tells x 32) [
      | inl a ↦ omega (arith, a.1)
      | inr a ↦ elim (eqb_tells x 9) [
        | inl b ↦ omega (arith, b.1)
        | inr b ↦ absurd (false≢true (rw (a.0, b.0) at h))
      ]
    ]

-- the blank before a comment
pub small-comment : (line : List ℕ) (i : ℕ) → comment_at line i ≡ true → get_or line i 0 < 128
small-comment [] i h = omega arith
small-comment (b ∷ line) zero h = small-blank b 0 (and_parts (is_blank (cell b 0)) (eqb (get_or line 0 0) 35) h).0
small-comment (b ∷ line) (suc i) h = small-comment line i h
