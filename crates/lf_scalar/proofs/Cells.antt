-- Laws of cells.
use Rattle.std.proofs.Common.{◌≡◌, ℕ, zero, suc, ◌+◌, ◌<◌, List, [], ◌∷◌, ◌++◌, length, get_or, take, drop, refl, ap, arith, add-one, drop-cons, ◌∙◌}
use Rattle.lf_scalar.specs.Cells.{Cell, cell, cells, bytes_of}

pub cells-length : (at : ℕ) (bytes : List ℕ) → length (cells at bytes) ≡ length bytes
cells-length at [] = refl
cells-length at (x ∷ xs) = ap suc (cells-length (suc at) xs)

pub no-cell : (c : Cell) (cs : List Cell) → [] ≡ c ∷ cs → ⊥
no-cell c cs e = cc

pub same-cell : (c d : Cell) (cs ds : List Cell) → c ∷ cs ≡ d ∷ ds → c ≡ d
same-cell c d cs ds e = cc

pub same-cells : (c d : Cell) (cs ds : List Cell) → c ∷ cs ≡ d ∷ ds → cs ≡ ds
same-cells c d cs ds e = cc

pub cells-drop : (at : ℕ) (line : List ℕ) (i : ℕ) → i < length line → cells (at + i) (drop i line) ≡ cell (get_or line i 0) (at + i) ∷ cells (at + (i + 1)) (drop (i + 1) line)
cells-drop at line i lt =
    let e : at + (i + 1) ≡ suc (at + i) = omega arith in
    rw (e, add-one, drop-cons line i 0) refl

pub cells-append : (at : ℕ) (xs ys : List ℕ) → cells at (xs ++ ys) ≡ cells at xs ++ cells (at + length xs) ys
cells-append at [] ys = ap (λ (n : ℕ). cells n ys) (omega arith)
cells-append at (x ∷ xs) ys =
    let e : suc at + length xs ≡ at + suc (length xs) = omega arith in
    ap (λ (cs : List Cell). cell x at ∷ cs) (cells-append (suc at) xs ys ∙ ap (λ (n : ℕ). cells (suc at) xs ++ cells n ys) e)

cells-take-suc : (at : ℕ) (line : List ℕ) (i : ℕ) → i < length line → cells at (take (suc i) line) ≡ cells at (take i line) ++ cell (get_or line i 0) (at + i) ∷ []
cells-take-suc at [] i lt = absurd (omega arith)
cells-take-suc at (x ∷ xs) zero lt = ap (λ (n : ℕ). cell x n ∷ []) (omega arith)
cells-take-suc at (x ∷ xs) (suc i) lt =
    let e : suc at + i ≡ at + suc i = omega arith in
    ap (λ (cs : List Cell). cell x at ∷ cs) (cells-take-suc (suc at) xs i (omega arith) ∙ ap (λ (n : ℕ). cells (suc at) (take i xs) ++ cell (get_or xs i 0) n ∷ []) e)

pub cells-take : (at : ℕ) (line : List ℕ) (i : ℕ) → i < length line → cells at (take (i + 1) line) ≡ cells at (take i line) ++ cell (get_or line i 0) (at + i) ∷ []
cells-take at line i lt = rw add-one (cells-take-suc at line i lt)

pub cells-bytes : (at : ℕ) (bytes : List ℕ) → bytes_of (cells at bytes) ≡ bytes
cells-bytes at [] = refl
cells-bytes at (b ∷ bytes) = ap (λ (bs : List ℕ). b ∷ bs) (cells-bytes (suc at) bytes)
