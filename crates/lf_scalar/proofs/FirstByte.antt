-- How a scalar begins, by the first two bytes of its line.
use Rattle.std.proofs.Common.{◌≡◌, ◌≢◌, true, false, not, ℕ, suc, ◌<◌, ◌≤◌, eqb, Bool, List, [], ◌∷◌, Option, Some, None, length, get_or, drop, refl, ap, arith, sym, ◌∙◌, eq-eqb, inl, inr, ◌&&◌, ◌||◌}
use Rattle.std.proofs.lemmas.Bool.{ne_eqb}
use Rattle.std.proofs.lemmas.Bool.Decides.{eqb_tells}
use Rattle.lf_scalar.specs.declared.scalar.Style.{Style}
use Rattle.lf_scalar.specs.declared.scalar.Style.TheVariants as style
use Rattle.lf_scalar.specs.Cells.{Cell, cell, cells}
use Rattle.lf_scalar.specs.Lines.{Line, lines, first_text, begins_with}
use Rattle.lf_scalar.specs.Plain.{is_plain_byte, is_sign, before_blank}
use Rattle.lf_scalar.specs.Scalars.{begins}
use Rattle.lf_scalar.specs.reading.Begins.{first_byte_of, is_full_byte, begins_by}
use Rattle.lf_scalar.proofs.LineSteps.{lines-nil, lines-feed, lines-return, lines-other, line-step, IsOther, not-feed, first-lengthen}
use Rattle.lf_scalar.proofs.LineLaws.{begins-at}

abbrev first_of : ℕ → List Cell → Option ℕ
first_of end src = first_byte_of (first_text (lines end src))

pub of-nothing : (at end : ℕ) (rest : List ℕ) → length rest ≤ 0 → None ≡ first_of end (cells at rest)
of-nothing at end [] le = sym (ap (λ (ls : List Line). first_byte_of (first_text ls)) (lines-nil end))
of-nothing at end (x ∷ xs) le = absurd (omega arith)

pub of-feed : (at end : ℕ) (rest : List ℕ) → 0 < length rest → get_or rest 0 0 ≡ 10 → None ≡ first_of end (cells at rest)
of-feed at end [] lt e = absurd (omega arith)
of-feed at end (x ∷ xs) lt e = sym (ap (λ (ls : List Line). first_byte_of (first_text ls)) (lines-feed end (cell x at) (cells (suc at) xs) e))

return-first : (end : ℕ) (c : Cell) (src : List Cell) → eqb c.byte 10 ≡ false → eqb c.byte 13 ≡ true → begins_with 10 src ≡ true → None ≡ first_of end (c ∷ src)
unfolding lines
return-first end c [] a b d = absurd cc
return-first end c (e ∷ src) a b d = rw (a, b, d) refl

pub of-return : (at end : ℕ) (rest : List ℕ) → 0 < length rest → get_or rest 0 0 ≡ 13 → eqb (get_or rest 1 0) 10 ≡ true → None ≡ first_of end (cells at rest)
of-return at end [] lt e f = absurd (omega arith)
of-return at end (x ∷ xs) lt e f = return-first end (cell x at) (cells (suc at) xs) (not-feed x e) (eq-eqb x 13 e) (begins-at (suc at) xs ∙ f)

-- neither of these
is-other : (at x : ℕ) (xs : List ℕ) → x ≢ 10 → (x ≡ 13 → eqb (get_or xs 0 0) 10 ≡ false) → IsOther (cell x at) (cells (suc at) xs)
is-other at x xs n r = record { no_feed = ne_eqb x 10 n; no_return = elim (eqb_tells x 13) [ inl a ↦ rw (a.0, begins-at (suc at) xs) (r a.1) | inr a ↦ rw a.0 refl ] }

pub of-other : (at end : ℕ) (rest : List ℕ) → 0 < length rest → get_or rest 0 0 ≢ 10 → (get_or rest 0 0 ≡ 13 → eqb (get_or rest 1 0) 10 ≡ false) → Some (get_or rest 0 0) ≡ first_of end (cells at rest)
of-other at end [] lt n r = absurd (omega arith)
of-other at end (x ∷ xs) lt n r =
    sym (ap (λ (ls : List Line). first_byte_of (first_text ls)) (lines-other end (cell x at) (cells (suc at) xs) (is-other at x xs n r)) ∙ ap first_byte_of (first-lengthen end (cell x at) (lines end (cells (suc at) xs))))

-- ---- how a scalar begins

full-is : (t : List Cell) → not (before_blank t) ≡ is_full_byte (first_byte_of t)
full-is [] = refl
full-is (c ∷ cs) = refl

begins-cons : (s : Style) (c : Cell) (t : List Cell) → begins s (c ∷ t) ≡ begins_by s (Some c.byte) (first_byte_of t)
begins-cons style.Plain c t = ap (λ (b : Bool). is_plain_byte c || (is_sign c && b)) (full-is t)
begins-cons style.Single c t = refl
begins-cons style.Double c t = refl
begins-cons style.Literal c t = refl
begins-cons style.Folded c t = refl

begins-none : (s : Style) (second : Option ℕ) → begins s [] ≡ begins_by s None second
begins-none style.Plain second = refl
begins-none style.Single second = refl
begins-none style.Double second = refl
begins-none style.Literal second = refl
begins-none style.Folded second = refl

begins-step : (s : Style) (end at x : ℕ) (xs : List ℕ) → begins s (first_text (lines end (cell x at ∷ cells (suc at) xs))) ≡ begins_by s (first_of end (cell x at ∷ cells (suc at) xs)) (first_of end (cells (suc at) xs))
begins-step s end at x xs =
    elim (line-step (cell x at) (cells (suc at) xs)) [
      | inl a ↦ rw (lines-feed end (cell x at) (cells (suc at) xs) a) (begins-none s (first_of end (cells (suc at) xs)))
      | inr (inl r) ↦ rw (lines-return end (cell x at) (cells (suc at) xs) r) (begins-none s (first_of end (cells (suc at) xs)))
      | inr (inr o) ↦ rw (lines-other end (cell x at) (cells (suc at) xs) o, first-lengthen end (cell x at) (lines end (cells (suc at) xs))) (begins-cons s (cell x at) (first_text (lines end (cells (suc at) xs))))
    ]

pub begins-is : (s : Style) (end at : ℕ) (rest behind : List ℕ) (first second : Option ℕ) (b : Bool) → behind ≡ drop 1 rest → first ≡ first_of end (cells at rest) → second ≡ first_of end (cells (suc at) behind) → b ≡ begins_by s first second
    → b ≡ begins s (first_text (lines end (cells at rest)))
begins-is s end at [] behind first second b d f g e = e ∙ rw (f, lines-nil end) (sym (begins-none s second))
begins-is s end at (x ∷ xs) behind first second b d f g e = e ∙ rw (f, g, d) (sym (begins-step s end at x xs))

-- by what its first two bytes are
pub plain-begins : (byte : ℕ) (second : Option ℕ) (p s f : Bool) → is_plain_byte (cell byte 0) ≡ p → is_sign (cell byte 0) ≡ s → is_full_byte second ≡ f → begins_by style.Plain (Some byte) second ≡ (p || (s && f))
plain-begins byte second p s f d e g =
    ap (λ (b : Bool). b || (is_sign (cell byte 0) && is_full_byte second)) d ∙ ap (λ (b : Bool). p || (b && is_full_byte second)) e ∙ ap (λ (b : Bool). p || (s && b)) g
