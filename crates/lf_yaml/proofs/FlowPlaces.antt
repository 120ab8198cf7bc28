-- Where the code reads on in a flow collection: the rest of a line from an offset on, and the lines behind it.
use Rattle.std.proofs.Common.{◌≡◌, ℕ, zero, suc, ◌+◌, ◌-◌, ◌<◌, ◌≤◌, false, List, [], ◌∷◌, length, get_or, take, drop, refl, ap, arith, sym, ◌∙◌, subst, inl, inr, length-drop}
use Rattle.std.specs.Str.{IsCharBoundary, IsUtf8}
use Rattle.std.proofs.lemmas.List.{drop_all, get_or-take, drop-drop}
use Rattle.std.proofs.lemmas.Str.{IsCharBoundary-after_ascii, IsUtf8-take, IsUtf8-drop}
use Rattle.std.proofs.Math.Seq.{take-nil}
use Rattle.lf_scalar.specs.Cells.{Cell, cell, cells}
use Rattle.lf_scalar.specs.Lines.{Line, lines, lengthen, first_text}
use Rattle.lf_scalar.specs.Scalars.{source_at}
use Rattle.lf_scalar.proofs.LineSteps.{line-step, lines-nil, lines-feed, lines-return, lines-other, first-lengthen}
use Rattle.lf_scalar.proofs.Cells.{same-cells}
use Rattle.lf_yaml.specs.Rows.{rows_of}
use Rattle.lf_yaml.specs.Flow.{first_line, later_lines, lines_on, line_on, lines_below, next_part, next_on}
use Rattle.lf_yaml.specs.views.Cursor.{rows_after}
use Rattle.lf_yaml.specs.views.Places.{IsIn}
use Rattle.lf_yaml.proofs.Cuts.{line-ends}
use Rattle.lf_yaml.proofs.Placed.{nil-cons}
use Rattle.lf_yaml.proofs.RowsAfter.{part-of-file, get-drop, rows-past}

-- ---- further on in a line

later-lengthen : (end : ℕ) (c : Cell) (ls : List Line) → later_lines (lengthen end c ls) ≡ later_lines ls
later-lengthen end c [] = refl
later-lengthen end c (l ∷ ls) = refl

-- a cell further
one-further : (end at b : ℕ) (bs : List ℕ) (x : Cell) (xs : List Cell) → first_text (lines end (cells at (b ∷ bs))) ≡ x ∷ xs
    → (first_text (lines end (cells (suc at) bs)) ≡ xs) × (later_lines (lines end (cells (suc at) bs)) ≡ later_lines (lines end (cells at (b ∷ bs))))
one-further end at b bs x xs e =
    elim (line-step (cell b at) (cells (suc at) bs)) [
      | inl f ↦ nil-cons x xs (sym (ap first_text (lines-feed end (cell b at) (cells (suc at) bs) f)) ∙ e)
      | inr (inl r) ↦ nil-cons x xs (sym (ap first_text (lines-return end (cell b at) (cells (suc at) bs) r)) ∙ e)
      | inr (inr o) ↦
          let same = lines-other end (cell b at) (cells (suc at) bs) o in
          let text : cell b at ∷ first_text (lines end (cells (suc at) bs)) ≡ x ∷ xs = sym (first-lengthen end (cell b at) (lines end (cells (suc at) bs))) ∙ sym (ap first_text same) ∙ e in
          (same-cells (cell b at) x (first_text (lines end (cells (suc at) bs))) xs text, sym (later-lengthen end (cell b at) (lines end (cells (suc at) bs))) ∙ sym (ap later_lines same))
    ]

pub further : (end at k : ℕ) (bs text : List ℕ) → first_text (lines end (cells at bs)) ≡ cells at text → k ≤ length text
    → (first_text (lines end (cells (at + k) (drop k bs))) ≡ cells (at + k) (drop k text)) × (later_lines (lines end (cells (at + k) (drop k bs))) ≡ later_lines (lines end (cells at bs)))
further end at zero bs text e le =
    let z : at ≡ at + 0 = omega arith in
    (subst (λ (n : ℕ). first_text (lines end (cells n bs)) ≡ cells n text) z e, ap (λ (n : ℕ). later_lines (lines end (cells n bs))) (sym z))
further end at (suc k) bs [] e le = absurd (omega arith)
further end at (suc k) [] (x ∷ xs) e le = nil-cons (cell x at) (cells (suc at) xs) (sym (ap first_text (lines-nil end)) ∙ e)
further end at (suc k) (b ∷ bs) (x ∷ xs) e le =
    let h = one-further end at b bs (cell x at) (cells (suc at) xs) e in
    let g = further end (suc at) k bs xs h.0 (omega arith) in
    let z : suc at + k ≡ at + suc k = omega arith in (
      subst (λ (n : ℕ). first_text (lines end (cells n (drop k bs))) ≡ cells n (drop k xs)) z g.0,
      ap (λ (n : ℕ). later_lines (lines end (cells n (drop k bs)))) (sym z) ∙ g.1 ∙ h.1,
    )

pub first-of : (end : ℕ) (ls : List Line) → (first_line end ls).text ≡ first_text ls
first-of end [] = refl
first-of end (l ∷ ls) = refl

module _ (bytes : List ℕ) (at k : ℕ) (text : List ℕ) (is : cells at text ≡ (line_on bytes at).text) (le : k ≤ length text) where
  source-further : source_at bytes (at + k) ≡ cells (at + k) (drop k (drop at bytes))
  source-further = ap (cells (at + k)) (sym (drop-drop k at bytes))

  behind : (first_text (lines (length bytes) (cells (at + k) (drop k (drop at bytes)))) ≡ cells (at + k) (drop k text)) × (later_lines (lines (length bytes) (cells (at + k) (drop k (drop at bytes)))) ≡ lines_below bytes at)
  behind = further (length bytes) at k (drop at bytes) text (sym (first-of (length bytes) (lines_on bytes at)) ∙ sym is) le

  pub rest-further : cells (at + k) (drop k text) ≡ (line_on bytes (at + k)).text
  rest-further = sym behind.0 ∙ ap (λ (src : List Cell). first_text (lines (length bytes) src)) (sym source-further) ∙ sym (first-of (length bytes) (lines_on bytes (at + k)))

  pub below-further : lines_below bytes (at + k) ≡ lines_below bytes at
  below-further = ap (λ (src : List Cell). later_lines (lines (length bytes) src)) source-further ∙ behind.1

-- ---- what is left of a line is UTF-8

pub rest-utf8 : (bytes : List ℕ) (at : ℕ) (text : List ℕ) → IsUtf8 bytes → IsCharBoundary bytes at → text ≡ take (length text) (drop at bytes) → cells at text ≡ (line_on bytes at).text → IsUtf8 text
rest-utf8 bytes at text utf8 b e is =
    let end : IsCharBoundary (drop at bytes) (length text) = line-ends (length bytes) at (drop at bytes) text (sym (first-of (length bytes) (lines_on bytes at)) ∙ sym is) in
    subst IsUtf8 (sym e) (IsUtf8-take (drop at bytes) (length text) (IsUtf8-drop bytes at utf8 b) end)

-- ---- places

-- what is left of a line behind a cut
module _ (bytes text part : List ℕ) (at next k : ℕ) (is : IsIn bytes at text next) (le : k ≤ length text) (e : part ≡ drop k text) where
  part-is : part ≡ take (length part) (drop (at + k) bytes)
  part-is = let n : k ≡ (at + k) - at = omega arith in part-of-file bytes at (at + k) text part (omega arith) is.text_is (e ∙ ap (λ (m : ℕ). drop m text) n)

  rest-is : cells (at + k) part ≡ (line_on bytes (at + k)).text
  rest-is = ap (cells (at + k)) e ∙ rest-further bytes at k text is.rest le

  below-is : rows_after bytes next ≡ rows_of (lines_below bytes (at + k))
  below-is = is.below ∙ ap rows_of (sym (below-further bytes at k text is.rest le))

  pub in-behind : IsCharBoundary text k → IsIn bytes (at + k) part next
  in-behind cut = record { text_is = part-is; utf8 = subst IsUtf8 (sym e) (IsUtf8-drop text k is.utf8 cut); start = is.start; rest = rest-is; below = below-is }

  pub in-from : IsUtf8 bytes → IsCharBoundary bytes (at + k) → IsIn bytes (at + k) part next
  in-from utf8 b = record { text_is = part-is; utf8 = rest-utf8 bytes (at + k) part utf8 b part-is rest-is; start = is.start; rest = rest-is; below = below-is }

-- the line that is found at an offset
pub in-line : (bytes text : List ℕ) (at next : ℕ) → IsUtf8 bytes → IsCharBoundary bytes at → text ≡ take (length text) (drop at bytes) → IsCharBoundary bytes next → cells at text ≡ (line_on bytes at).text
    → rows_after bytes next ≡ rows_of (lines_below bytes at) → IsIn bytes at text next
in-line bytes text at next utf8 b e start rest below = record { text_is = e; utf8 = rest-utf8 bytes at text utf8 b e rest; start = start; rest = rest; below = below }

nothing-on : (bytes : List ℕ) (at : ℕ) → length bytes ≤ at → lines_on bytes at ≡ []
nothing-on bytes at le = ap (λ (xs : List ℕ). lines (length bytes) (cells at xs)) (drop_all at bytes le) ∙ lines-nil (length bytes)

no-rows : (ls : List Line) → ls ≡ [] → rows_of (later_lines ls) ≡ []
unfolding rows_of
no-rows ls e = ap (λ (ms : List Line). rows_of (later_lines ms)) e

-- behind the file's end
pub in-nothing : (bytes text : List ℕ) (at next : ℕ) → IsUtf8 text → text ≡ [] → length bytes ≤ at → IsCharBoundary bytes next → next ≡ length bytes → IsIn bytes at text next
in-nothing bytes text at next utf8 e le start n =
    record {
      text_is = e ∙ sym (ap (take (length text)) (drop_all at bytes le) ∙ take-nil (length text));
      utf8 = utf8;
      start = start;
      rest = ap (cells at) e ∙ sym (ap (λ (ls : List Line). (first_line (length bytes) ls).text) (nothing-on bytes at le));
      below = rows-past bytes next (omega (arith, n)) ∙ sym (no-rows (lines_on bytes at) (nothing-on bytes at le));
    }

-- a row of a later line
pub row-rest : (bytes : List ℕ) (from at : ℕ) (text part : List ℕ) → from ≤ at → cells from text ≡ (line_on bytes from).text → part ≡ drop (at - from) text → 0 < length part
    → (cells at part ≡ (line_on bytes at).text) × (lines_below bytes at ≡ lines_below bytes from)
row-rest bytes from at text part le is e full =
    let z : from + (at - from) ≡ at = omega arith in
    let short : at - from ≤ length text = omega (arith, full, ap length e, length-drop (at - from) text) in (
      ap (cells at) e ∙ ap (λ (n : ℕ). cells n (drop (at - from) text)) (sym z) ∙ rest-further bytes from (at - from) text is short ∙ ap (λ (n : ℕ). (line_on bytes n).text) z,
      ap (lines_below bytes) (sym z) ∙ below-further bytes from (at - from) text is short,
    )

-- the next part from a place on
pub next-at : (bytes text : List ℕ) (at next : ℕ) → IsIn bytes at text next → next_on bytes at ≡ next_part (length bytes) false (cells at text) (rows_after bytes next)
unfolding next_on
next-at bytes text at next is =
    ap (λ (cs : List Cell). next_part (length bytes) false cs (rows_of (lines_below bytes at))) (sym is.rest) ∙ ap (next_part (length bytes) false (cells at text)) (sym is.below)

-- behind a byte below 128 of a row
pub behind-byte : (bytes text : List ℕ) (at : ℕ) → IsUtf8 bytes → text ≡ take (length text) (drop at bytes) → 0 < length text → at < length bytes → get_or text 0 0 < 128 → IsCharBoundary bytes (at + 1)
behind-byte bytes text at utf8 e full within low =
    let z : at + 0 ≡ at = omega arith in
    let same : get_or text 0 0 ≡ get_or bytes at 0 = ap (λ (xs : List ℕ). get_or xs 0 0) e ∙ get_or-take (length text) (drop at bytes) 0 0 full ∙ get-drop at 0 bytes ∙ ap (λ (n : ℕ). get_or bytes n 0) z in
    IsCharBoundary-after_ascii bytes at utf8 within (omega (arith, same, low))

pub row-within : (bytes text : List ℕ) (at : ℕ) → text ≡ take (length text) (drop at bytes) → 0 < length text → at < length bytes
row-within bytes text at e full = by (drop at bytes) refl e
  where
    by : (rest : List ℕ) → drop at bytes ≡ rest → text ≡ take (length text) rest → at < length bytes
    by [] d h = absurd (omega (arith, full, ap length (h ∙ take-nil (length text))))
    by (x ∷ xs) d h = omega (arith, ap length d, length-drop at bytes)
