-- Going over bytes one by one, to the quote that closes.
use Rattle.std.proofs.Common.{◌≡◌, ◌≢◌, ℕ, zero, suc, ◌+◌, ◌<◌, ◌≤◌, eqb, List, [], ◌∷◌, ◌++◌, Option, Some, None, length, get_or, take, drop, refl, ap, arith, append_assoc, sym, ◌∙◌, eq-eqb}
use Rattle.std.proofs.lemmas.List.{append-nil, drop_all}
use Rattle.std.proofs.lemmas.Bool.{ne_eqb}
use Rattle.lf_scalar.specs.declared.quotes.ByteEffect.TheVariants as effect
use Rattle.lf_scalar.specs.Cells.{Cell, cell, cells}
use Rattle.lf_scalar.specs.Lines.{begins_with}
use Rattle.lf_scalar.specs.Quoted.{Quotes, Single, Double}
use Rattle.lf_scalar.specs.reading.Quoted.{closing_of, IsEffect}
use Rattle.lf_scalar.specs.Splits.{Split, behind_cell, split_of}
use Rattle.lf_scalar.proofs.Cells.{cells-drop, cells-take}
use Rattle.lf_scalar.proofs.Closing.{ahead, no-quote}

pub ahead-behind : (cs : List Cell) (c : Cell) (o : Option Split) → ahead cs (behind_cell c o) ≡ ahead (cs ++ c ∷ []) o
ahead-behind cs c None = refl
ahead-behind cs c (Some x) = ap (λ (xs : List Cell). Some (xs, x.1)) (sym (append_assoc cs (c ∷ []) x.0))

begins-drop : (byte at : ℕ) (n : ℕ) (xs : List ℕ) → byte ≢ 0 → begins_with byte (cells at (drop n xs)) ≡ eqb (get_or xs n 0) byte
begins-drop byte at zero [] h = sym (ne_eqb 0 byte (λ e. h (sym e)))
begins-drop byte at zero (x ∷ xs) h = refl
begins-drop byte at (suc n) [] h = sym (ne_eqb 0 byte (λ e. h (sym e)))
begins-drop byte at (suc n) (x ∷ xs) h = begins-drop byte at n xs h

-- what closes, where the first bytes are passed
abbrev pub scanned : Quotes → ℕ → List ℕ → ℕ → ℕ → Option Split
scanned kind at line i k = ahead (cells at (take i line)) (closing_of kind k (cells (at + i) (drop i line)))

not-zero : ◌≢◌ {A = ℕ} 39 0
not-zero e = omega arith

module _ (kind : Quotes) (at : ℕ) (line : List ℕ) (i : ℕ) (lt : i < length line) where
  pub scanned-skip : scanned kind at line i 1 ≡ scanned kind at line (i + 1) 0
  unfolding closing_of
  scanned-skip = rw (cells-drop at line i lt, cells-take at line i lt) (ahead-behind (cells at (take i line)) _ _)

  moved : (j : ℕ) → closing_of kind 0 (cell (get_or line i 0) (at + i) ∷ cells (at + (i + 1)) (drop (i + 1) line)) ≡ behind_cell (cell (get_or line i 0) (at + i)) (closing_of kind j (cells (at + (i + 1)) (drop (i + 1) line)))
      → scanned kind at line i 0 ≡ scanned kind at line (i + 1) j
  moved j e = rw (cells-drop at line i lt, cells-take at line i lt) (ap (ahead (cells at (take i line))) e ∙ ahead-behind (cells at (take i line)) _ _)

takes-next : (kind : Quotes) (c : Cell) (src : List Cell) (next : ℕ) → begins_with 39 src ≡ eqb next 39 → IsEffect kind c.byte next effect.TakesNext → closing_of kind 0 (c ∷ src) ≡ behind_cell c (closing_of kind 1 src)
unfolding closing_of
takes-next Single c src next b h = rw (eq-eqb c.byte 39 h.0, b, eq-eqb next 39 h.1) refl
takes-next Double c src next b h = rw (no-quote c.byte h, eq-eqb c.byte 92 h) refl

passes : (kind : Quotes) (c : Cell) (src : List Cell) (next : ℕ) → IsEffect kind c.byte next effect.Passes → closing_of kind 0 (c ∷ src) ≡ behind_cell c (closing_of kind 0 src)
unfolding closing_of
passes Single c src next h = rw (ne_eqb c.byte 39 h) refl
passes Double c src next h = rw (ne_eqb c.byte 34 h.0, ne_eqb c.byte 92 h.1) refl

closes : (kind : Quotes) (c : Cell) (src : List Cell) (next : ℕ) → begins_with 39 src ≡ eqb next 39 → IsEffect kind c.byte next effect.Closes → closing_of kind 0 (c ∷ src) ≡ Some ([], (c, src))
unfolding closing_of
closes Single c src next b h = rw (eq-eqb c.byte 39 h.0, b, ne_eqb next 39 h.1) refl
closes Double c src next b h = rw (eq-eqb c.byte 34 h) refl

module _ (kind : Quotes) (at : ℕ) (line : List ℕ) (i : ℕ) (lt : i < length line) where
  next-begins : begins_with 39 (cells (at + (i + 1)) (drop (i + 1) line)) ≡ eqb (get_or line (i + 1) 0) 39
  next-begins = begins-drop 39 (at + (i + 1)) (i + 1) line not-zero

  pub scanned-takes : IsEffect kind (get_or line i 0) (get_or line (i + 1) 0) effect.TakesNext → scanned kind at line i 0 ≡ scanned kind at line (i + 1) 1
  scanned-takes h = moved kind at line i lt 1 (takes-next kind (cell (get_or line i 0) (at + i)) _ (get_or line (i + 1) 0) next-begins h)

  pub scanned-passes : IsEffect kind (get_or line i 0) (get_or line (i + 1) 0) effect.Passes → scanned kind at line i 0 ≡ scanned kind at line (i + 1) 0
  scanned-passes h = moved kind at line i lt 0 (passes kind (cell (get_or line i 0) (at + i)) _ (get_or line (i + 1) 0) h)

  pub scanned-closes : IsEffect kind (get_or line i 0) (get_or line (i + 1) 0) effect.Closes → scanned kind at line i 0 ≡ Some (split_of at line i)
  scanned-closes h =
      rw (cells-drop at line i lt) (ap (ahead (cells at (take i line))) (closes kind (cell (get_or line i 0) (at + i)) _ (get_or line (i + 1) 0) next-begins h)
      ∙ ap (λ (cs : List Cell). Some (cs, (cell (get_or line i 0) (at + i), cells (at + (i + 1)) (drop (i + 1) line)))) (append-nil (cells at (take i line))))

pub scanned-end : (kind : Quotes) (at : ℕ) (line : List ℕ) (i k : ℕ) → length line ≤ i → scanned kind at line i k ≡ None
unfolding closing_of
scanned-end kind at line i k le = rw (drop_all i line le) refl
