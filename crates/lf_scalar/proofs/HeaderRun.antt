-- Reading a header byte by byte.
use Rattle.std.proofs.Common.{◌≡◌, ℕ, ◌+◌, ◌<◌, ◌≤◌, false, List, ◌∷◌, length, get_or, drop, Option, Some, None, Ok, Err, refl, ap, sym, ◌∙◌}
use Rattle.std.specs.Prelude.{option_map}
use Rattle.std.proofs.lemmas.List.{drop_all}
use Rattle.lf_scalar.specs.declared.block.Chomp.{Chomp}
use Rattle.lf_scalar.specs.declared.header.HeaderByte.TheVariants as mark
use Rattle.lf_scalar.specs.Cells.{Cell, cell, cells}
use Rattle.lf_scalar.specs.reading.Quoted.{wrong_behind}
use Rattle.lf_scalar.specs.reading.Block.{Header as HeaderRead, chomp_of, mark_digit, ends_header, once, header_from}
use Rattle.lf_scalar.specs.reading.Body.{IsMark, header_with, header_told}
use Rattle.lf_scalar.proofs.Cells.{cells-drop}
use Rattle.lf_scalar.proofs.BlockHeader.{step-end, step-nil}

-- the header from a place on, behind marks
abbrev pub header_at : ℕ → List ℕ → Option Chomp → Option ℕ → ℕ → HeaderRead
header_at at bytes s d i = header_from s d (cells (at + i) (drop i bytes))

abbrev pub SoFar : List ℕ → Option Chomp → Option ℕ → ℕ → Type 0
SoFar bytes s d i = (at : ℕ) → header_from None None (cells at bytes) ≡ header_at at bytes s d i

sign-step : (s : Option Chomp) (d : Option ℕ) (c : Cell) (cs : List Cell) (chomp : Chomp) → chomp_of c.byte ≡ Some chomp → header_from s d (c ∷ cs) ≡ once c s (header_from (Some chomp) d cs)
unfolding header_from
sign-step s d c cs chomp h = rw h refl

digit-step : (s : Option Chomp) (d : Option ℕ) (c : Cell) (cs : List Cell) (n : ℕ) → chomp_of c.byte ≡ None → mark_digit c.byte ≡ Some n → header_from s d (c ∷ cs) ≡ once c d (header_from s (Some n) cs)
unfolding header_from
digit-step s d c cs n p q = rw (p, q) refl

module _ (bytes : List ℕ) (s : Option Chomp) (d : Option ℕ) (i : ℕ) (lt : i < length bytes) (h : SoFar bytes s d i) where
  split : (at : ℕ) → cells (at + i) (drop i bytes) ≡ cell (get_or bytes i 0) (at + i) ∷ cells (at + (i + 1)) (drop (i + 1) bytes)
  split at = cells-drop at bytes i lt

  pub sign-more : (chomp : Chomp) → IsMark (get_or bytes i 0) (mark.Sign chomp) → s ≡ None → SoFar bytes (Some chomp) d (i + 1)
  sign-more chomp m e at = h at ∙ ap (header_from s d) (split at) ∙ sign-step s d (cell (get_or bytes i 0) (at + i)) (cells (at + (i + 1)) (drop (i + 1) bytes)) chomp m ∙ rw e refl

  pub digit-more : (n : ℕ) → IsMark (get_or bytes i 0) (mark.Digit n) → d ≡ None → SoFar bytes s (Some n) (i + 1)
  digit-more n m e at = h at ∙ ap (header_from s d) (split at) ∙ digit-step s d (cell (get_or bytes i 0) (at + i)) (cells (at + (i + 1)) (drop (i + 1) bytes)) n m.0 m.1 ∙ rw e refl

  pub sign-twice : (chomp other : Chomp) (at : ℕ) → IsMark (get_or bytes i 0) (mark.Sign chomp) → s ≡ Some other → header_told at bytes (Err i) ≡ header_from None None (cells at bytes)
  sign-twice chomp other at m e = sym (h at ∙ ap (header_from s d) (split at) ∙ sign-step s d (cell (get_or bytes i 0) (at + i)) (cells (at + (i + 1)) (drop (i + 1) bytes)) chomp m ∙ rw e refl)

  pub digit-twice : (n other : ℕ) (at : ℕ) → IsMark (get_or bytes i 0) (mark.Digit n) → d ≡ Some other → header_told at bytes (Err i) ≡ header_from None None (cells at bytes)
  digit-twice n other at m e = sym (h at ∙ ap (header_from s d) (split at) ∙ digit-step s d (cell (get_or bytes i 0) (at + i)) (cells (at + (i + 1)) (drop (i + 1) bytes)) n m.0 m.1 ∙ rw e refl)

  pub marks-end : (at : ℕ) → IsMark (get_or bytes i 0) mark.Neither → ends_header s d (wrong_behind false (cells (at + i) (drop i bytes))) ≡ header_from None None (cells at bytes)
  marks-end at m = sym (h at ∙ ap (header_from s d) (split at) ∙ step-end s d (cell (get_or bytes i 0) (at + i)) (cells (at + (i + 1)) (drop (i + 1) bytes)) m.0 m.1 ∙ ap (λ (cs : List Cell). ends_header s d (wrong_behind false cs)) (sym (split at)))

pub header-ends : (bytes : List ℕ) (s : Option Chomp) (d : Option ℕ) (i : ℕ) → length bytes ≤ i → SoFar bytes s d i → (at : ℕ) → header_told at bytes (Ok (header_with s d)) ≡ header_from None None (cells at bytes)
header-ends bytes s d i le h at = sym (h at ∙ ap (λ (x : List ℕ). header_from s d (cells (at + i) x)) (drop_all i bytes le) ∙ step-nil s d)

-- ---- what stands behind the marks

-- how the code tells the first wrong byte behind a place
abbrev pub told_from : ℕ → List ℕ → ℕ → Option ℕ → Option Cell
told_from at bytes i o = option_map (λ k. cell (get_or (drop i bytes) k 0) (at + i + k)) o
