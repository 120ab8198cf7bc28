-- The piece at the front of some bytes, by its first bytes.
use Rattle.std.proofs.Common.{◌≡◌, ◌≢◌, ℕ, ◌+◌, ◌<◌, Bool, false, List, [], ◌∷◌, Option, Some, None, length, get_or, drop, refl, arith, add-one, ◌∙◌, eq-eqb}
use Rattle.std.specs.Prelude.{option_map}
use Rattle.std.proofs.lemmas.Bool.{ne_eqb}
use Rattle.lf_scalar.specs.Cells.{Cell, cell, cells}
use Rattle.lf_scalar.specs.Lines.{is_blank}
use Rattle.lf_scalar.specs.Quoted.{Single, Double}
use Rattle.lf_scalar.specs.reading.Quoted.{escape_of, piece_of, as_piece, piece_at}

abbrev pub some : List Cell → Bool → ℕ → Option (List Cell × (Bool × ℕ))
some cs blank k = Some (cs, (blank, k))

module _ (at : ℕ) where
  pub single-bare : (rest : List ℕ) → 0 < length rest → get_or rest 0 0 ≢ 39 → some (cell (get_or rest 0 0) at ∷ []) (is_blank (cell (get_or rest 0 0) at)) 0 ≡ option_map as_piece (piece_at Single at rest)
  unfolding piece_of
  single-bare [] lt n = absurd (omega arith)
  single-bare (x ∷ xs) lt n = rw (ne_eqb x 39 n) refl

  pub single-twice : (rest : List ℕ) → 1 < length rest → get_or rest 0 0 ≡ 39 → get_or rest 1 0 ≡ 39 → some (cell 39 at ∷ []) false 1 ≡ option_map as_piece (piece_at Single at rest)
  unfolding piece_of
  single-twice [] lt e f = absurd (omega arith)
  single-twice (x ∷ []) lt e f = absurd (omega arith)
  single-twice (x ∷ y ∷ xs) lt e f = rw (e, f) refl

  pub single-none : (rest : List ℕ) → 0 < length rest → get_or rest 0 0 ≡ 39 → (1 < length rest → get_or rest 1 0 ≢ 39) → None ≡ option_map as_piece (piece_at Single at rest)
  unfolding piece_of
  single-none [] lt e f = absurd (omega arith)
  single-none (x ∷ []) lt e f = rw e refl
  single-none (x ∷ y ∷ xs) lt e f = rw (e, ne_eqb y 39 (f (omega arith))) refl

  pub double-bare : (rest : List ℕ) → 0 < length rest → get_or rest 0 0 ≢ 92 → get_or rest 0 0 ≢ 34 → some (cell (get_or rest 0 0) at ∷ []) (is_blank (cell (get_or rest 0 0) at)) 0 ≡ option_map as_piece (piece_at Double at rest)
  unfolding piece_of
  double-bare [] lt n m = absurd (omega arith)
  double-bare (x ∷ xs) lt n m = rw (ne_eqb x 92 n, ne_eqb x 34 m) refl

  pub double-quote : (rest : List ℕ) → 0 < length rest → get_or rest 0 0 ≡ 34 → None ≡ option_map as_piece (piece_at Double at rest)
  unfolding piece_of
  double-quote [] lt e = absurd (omega arith)
  double-quote (x ∷ xs) lt e = rw e refl

  pub double-escape : (rest : List ℕ) (o : Option (List Cell × (Bool × ℕ))) → 0 < length rest → get_or rest 0 0 ≡ 92 → o ≡ option_map as_piece (escape_of (cell (get_or rest 0 0) at) (cells (at + 1) (drop 1 rest))) → o ≡ option_map as_piece (piece_at Double at rest)
  unfolding piece_of
  double-escape [] o lt e h = absurd (omega arith)
  double-escape (x ∷ xs) o lt e h = h ∙ rw (eq-eqb x 92 e, add-one at) refl
