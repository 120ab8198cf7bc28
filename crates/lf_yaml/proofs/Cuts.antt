-- Where a line may be cut: its parts are UTF-8.
use Rattle.std.proofs.Common.{◌≡◌, ℕ, zero, suc, ◌+◌, ◌-◌, ◌<◌, ◌≤◌, Bool, true, false, eqb, List, [], ◌∷◌, length, get_or, take, drop, ap, arith, sym, ◌∙◌, subst, inl, inr, length-drop, length-take, ◌||◌}
use Rattle.std.specs.Str.{IsCharBoundary, IsUtf8}
use Rattle.std.proofs.lemmas.Bool.Decides.{eqb_tells}
use Rattle.std.proofs.lemmas.Bool.{cases_lt, cases_Bool, false≢true}
use Rattle.std.proofs.lemmas.List.{get_or-take}
use Rattle.std.proofs.lemmas.Str.{IsCharBoundary-start, IsCharBoundary-after_ascii, IsUtf8-take, IsUtf8-drop}
use Rattle.lf_scalar.specs.Cells.{Cell, cell, cells}
use Rattle.lf_scalar.specs.Lines.{lines, first_text, is_blank, after_blanks}
use Rattle.lf_scalar.specs.declared.quotes.Quotes.{Quotes}
use Rattle.lf_scalar.specs.Quoted.{quote_of}
use Rattle.lf_yaml.specs.Flow.{is_flow_sign}
use Rattle.lf_scalar.proofs.LineSteps.{line-step, lines-other, first-lengthen}
use Rattle.lf_scalar.proofs.SmallBytes.{small-blank}
use Rattle.lf_scalar.proofs.Cells.{cells-length}
use Rattle.lf_yaml.specs.views.Shown.{shown}
use Rattle.lf_yaml.specs.views.Cursor.{IsRowOf, rows_after}
use Rattle.lf_yaml.specs.Rows.{ContentRow}
use Rattle.lf_yaml.specs.declared.row.ContentLine.{ContentLine}
use Rattle.lf_yaml.proofs.Placed.{FirstCell, first-cell}
use Rattle.lf_yaml.proofs.RowCode.{text-shown}
use Rattle.lf_yaml.proofs.RowsAfter.{placed-first, get-drop}
use Rattle.lf_yaml.proofs.ReadScalars.{small-quote}

-- a byte more in front
pub boundary-more : (x k : ℕ) (xs : List ℕ) → IsCharBoundary xs k → IsCharBoundary (x ∷ xs) (suc k)
boundary-more x k xs (le, h) = (omega arith, λ lt. h (omega arith))

-- a text is cut before an ASCII byte, or at its end
pub cut-before : (text : List ℕ) (k : ℕ) → k ≤ length text → (k < length text → get_or text k 0 < 128) → IsCharBoundary text k
cut-before text k le small = (le, λ lt high. absurd (omega (arith, small lt, high)))

-- ---- where a line ends

nothing-else : (c : Cell) (cs : List Cell) → c ∷ cs ≡ [] → ⊥
nothing-else c cs e = cc

line-starts : (end at b : ℕ) (bs : List ℕ) → first_text (lines end (cells at (b ∷ bs))) ≡ [] → b < 128
line-starts end at b bs e =
    elim (line-step (cell b at) (cells (suc at) bs)) [
      | inl f ↦ omega (arith, f)
      | inr (inl r) ↦ omega (arith, r.return)
      | inr (inr o) ↦ absurd (nothing-else (cell b at) (first_text (lines end (cells (suc at) bs))) (sym (first-lengthen end (cell b at) (lines end (cells (suc at) bs))) ∙ sym (ap first_text (lines-other end (cell b at) (cells (suc at) bs) o)) ∙ e))
    ]

pub line-ends : (end at : ℕ) (bs text : List ℕ) → first_text (lines end (cells at bs)) ≡ cells at text → IsCharBoundary bs (length text)
line-ends end at [] [] e = (omega arith, λ lt. absurd (omega arith))
line-ends end at (b ∷ bs) [] e = cut-before (b ∷ bs) 0 (omega arith) (λ lt. line-starts end at b bs e)
line-ends end at bs (x ∷ xs) e =
    let h : FirstCell end at bs (cell x at) (cells (suc at) xs) = first-cell end at bs (cell x at) (cells (suc at) xs) e in
    let later : IsCharBoundary h.later (length xs) = line-ends end (suc at) h.later xs h.text in
    subst (λ (ys : List ℕ). IsCharBoundary ys (suc (length xs))) (sym h.bytes) (boundary-more x (length xs) h.later later)

-- a row's text is UTF-8
pub row-utf8 : (bytes : List ℕ) (r : ContentLine) → IsUtf8 bytes → 0 < length r.text.now → IsRowOf bytes r → IsUtf8 r.text.now
row-utf8 bytes r utf8 full is =
    let b : IsCharBoundary (drop r.at bytes) (length r.text.now) = line-ends (length bytes) r.at (drop r.at bytes) r.text.now (is.placed ∙ text-shown r full) in
    subst IsUtf8 (sym is.text) (IsUtf8-take (drop r.at bytes) (length r.text.now) (IsUtf8-drop bytes r.at utf8 is.boundary) b)

-- the next row's text too
pub next-utf8 : (bytes : List ℕ) (from : ℕ) (r : ContentLine) (rs : List ContentRow) → IsUtf8 bytes → 0 < length r.text.now → rows_after bytes from ≡ shown r ∷ rs → IsCharBoundary bytes r.at → r.text.now ≡ take (length r.text.now) (drop r.at bytes) → IsUtf8 r.text.now
next-utf8 bytes from r rs utf8 full e b t = row-utf8 bytes r utf8 full (record { placed = placed-first bytes from (shown r) rs e; boundary = b; text = t })

-- ---- behind blanks

pub blanks-cut : (at k : ℕ) (xs : List ℕ) → k ≤ length xs → IsUtf8 xs → after_blanks (cells at xs) ≡ cells (at + k) (drop k xs) → IsCharBoundary xs k
blanks-cut at zero xs le utf8 e = IsCharBoundary-start xs utf8
blanks-cut at (suc k) [] le utf8 e = absurd (omega arith)
blanks-cut at (suc k) (x ∷ xs) le utf8 e =
    elim (cases_Bool (is_blank (cell x at))) [
      | inl a ↦
          let z : at + suc k ≡ suc at + k = omega arith in
          let tail : IsUtf8 xs = IsUtf8-drop (x ∷ xs) 1 utf8 (IsCharBoundary-after_ascii (x ∷ xs) 0 utf8 (omega arith) (small-blank x at a)) in
          let f : after_blanks (cells (suc at) xs) ≡ cells (at + suc k) (drop k xs) = rw a at e in
          boundary-more x k xs (blanks-cut (suc at) k xs (omega arith) tail (f ∙ ap (λ (n : ℕ). cells n (drop k xs)) z))
      | inr a ↦
          let f : cell x at ∷ cells (suc at) xs ≡ cells (at + suc k) (drop k xs) = rw a at e in
          let n : suc (length xs) ≡ length xs - k = ap suc (sym (cells-length (suc at) xs)) ∙ ap length f ∙ cells-length (at + suc k) (drop k xs) ∙ length-drop k xs in
          absurd (omega (arith, n))
    ]

-- ---- ASCII bytes beside a cut

small-or : (b sign : ℕ) (r : Bool) → sign < 128 → (r ≡ true → b < 128) → (eqb b sign || r) ≡ true → b < 128
small-or b sign r small later h =
    elim (eqb_tells b sign) [
      | inl a ↦ omega (arith, a.1)
      | inr a ↦ later (rw a.0 at h)
    ]

-- a sign of flow collections
pub small-sign : (b at : ℕ) → is_flow_sign (cell b at) ≡ true → b < 128
small-sign b at h =
    small-or b 44 _ (omega arith) (small-or b 91 _ (omega arith) (small-or b 93 _ (omega arith) (small-or b 123 _ (omega arith) (small-or b 125 _ (omega arith) (small-or b 63 false (omega arith) (λ e. absurd (false≢true e))))))) h

abbrev pub IsSmallAt : List ℕ → ℕ → Type 0
IsSmallAt text k = k < length text → get_or text k 0 < 128

-- cut from the front of a text that is cut itself
pub small-within : (n len : ℕ) (text part : List ℕ) → part ≡ take n text → n ≤ length text → len ≤ length part → IsSmallAt part len → IsSmallAt text n → IsSmallAt text len
small-within n len text part e n_le len_le inner outer lt =
    let size : length part ≡ n = omega (arith, ap length e, length-take n text) in
    elim (cases_lt len n) [
      | inl less ↦ omega (arith, inner (omega arith), ap (λ (xs : List ℕ). get_or xs len 0) e, get_or-take n text len 0 less)
      | inr le ↦
          let same : n ≡ len = omega arith in
          let h : get_or text n 0 < 128 = outer (omega arith) in
          subst (λ (m : ℕ). get_or text m 0 < 128) same h
    ]

-- ---- parts of a line

pub quote-cut : (kind : Quotes) (text inside : List ℕ) (k : ℕ) → inside ≡ drop 1 text → k < length inside → get_or inside k 0 ≡ quote_of kind → IsUtf8 text → IsCharBoundary text (k + 2)
quote-cut kind text inside k e lt q utf8 =
    let n : k + 1 + 1 ≡ k + 2 = omega arith in
    let z : 1 + k ≡ k + 1 = omega arith in
    let same : get_or inside k 0 ≡ get_or text (k + 1) 0 = ap (λ (xs : List ℕ). get_or xs k 0) e ∙ get-drop 1 k text ∙ ap (λ (m : ℕ). get_or text m 0) z in
    subst (IsCharBoundary text) n (IsCharBoundary-after_ascii text (k + 1) utf8 (omega (arith, lt, ap length e, length-drop 1 text)) (small-quote kind _ (sym same ∙ q)))
