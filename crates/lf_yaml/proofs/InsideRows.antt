-- Rows of a file: their cells rise, row by row, up to its end, and are UTF-8.
use Rattle.std.proofs.Common.{◌≡◌, ℕ, suc, ◌+◌, ◌≤◌, Bool, true, false, cond, eqb, List, [], ◌∷◌, ◌++◌, Some, length, drop, refl, ap, arith, sym, subst, inl, inr}
use Rattle.std.specs.Str.{IsUtf8, IsCharBoundary}
use Rattle.std.proofs.lemmas.List.{length-drop}
use Rattle.std.proofs.lemmas.Bool.{cases_Bool}
use Rattle.std.proofs.lemmas.Str.{IsUtf8-drop}
use Rattle.std.proofs.lemmas.Option.{none-some, same_Some}
use Rattle.lf_base.specs.declared.kind.Kind.{Kind}
use Rattle.lf_base.specs.declared.kind.Kind.TheVariants.{BadIndent, LeftOut, NotANode}
use Rattle.lf_base.specs.Faults.{LiesIn}
use Rattle.lf_scalar.specs.Cells.{Cell, cells, character_fault}
use Rattle.lf_scalar.specs.Lines.{Line, line, lines, begins_with, is_blank, after_spaces}
use Rattle.lf_scalar.specs.Scalars.{source_at}
use Rattle.lf_scalar.proofs.Cells.{cells-bytes, same-cell}
use Rattle.lf_scalar.proofs.Characters.{character_lies, byte_lies, lies_further}
use Rattle.lf_scalar.proofs.Parts.{Utf8, part-utf8, utf8-behind, blank-low, after-spaces-part}
use Rattle.lf_scalar.proofs.Rising.{Rises, LinesRise, rises-le, rises-part, cells-rise, lines-rise}
use Rattle.lf_scalar.proofs.Utf8Lines.{LinesUtf8, lines-utf8}
use Rattle.lf_scalar.specs.Lines.{start_of}
use Rattle.lf_yaml.specs.Rows.{ContentRow, row, text_of, headed, content_row, rows_of, left_of, is_left_out, indent_fault, row_fault, is_opening, without_opening}
use Rattle.lf_yaml.specs.Characters.{mark_length}
use Rattle.lf_yaml.specs.Document.{document_rows}
use Rattle.lf_yaml.proofs.Edges.{mark-start}
use Rattle.lf_yaml.proofs.Ends.{IsEnd}

-- ---- a row of a line

-- a row at an offset or later, whose line ends at another
pub record IsRowIn (lo stop : ℕ) (r : ContentRow) : Type 0 where
  pub low : lo ≤ r.first.at
  pub begin : r.begin ≤ r.first.at
  pub rises : Rises r.first.at (text_of r) stop
  pub utf8 : Utf8 (text_of r)

pub row_low : (lo low stop : ℕ) (r : ContentRow) → low ≤ lo → IsRowIn lo stop r → IsRowIn low stop r
row_low lo low stop r le h = record { low = omega (arith, le, h.low); begin = h.begin; rises = h.rises; utf8 = h.utf8 }

pub row_behind : (lo stop : ℕ) (r : ContentRow) → IsRowIn lo stop r → suc r.first.at ≤ stop
row_behind lo stop r h = rises-le (suc r.first.at) r.rest stop h.rises.1

-- what is left of a line behind a sign
pub left_in : (begin : ℕ) (cs : List Cell) (left : ContentRow) (lo stop : ℕ) → left_of begin cs ≡ Some left → begin ≤ lo → Utf8 cs → Rises lo cs stop → IsRowIn lo stop left
left_in begin [] left lo stop e le u r = absurd (none-some left e)
left_in begin (c ∷ cs) left lo stop e le u r =
    elim (cases_Bool (is_blank c)) [
      | inl a ↦
          let k : IsRowIn (suc c.at) stop left = left_in begin cs left (suc c.at) stop (rw a at e) (omega (arith, le, r.0)) (utf8-behind [] c cs u (blank-low c a)) r.1 in
          row_low (suc c.at) lo stop left (omega (arith, r.0)) k
      | inr a ↦ elim (cases_Bool (eqb c.byte 35)) [
        | inl b ↦ absurd (none-some left (rw (a, b) at e))
        | inr b ↦ subst (IsRowIn lo stop) (same_Some (row begin c cs) left (rw (a, b) at e)) (record { low = r.0; begin = omega (arith, le, r.0); rises = (omega arith, r.1); utf8 = u })
      ]
    ]

-- ---- what is told of a row

module _ (n lo stop : ℕ) (r : ContentRow) (h : IsRowIn lo stop r) (le : stop ≤ n) where
  -- its first character
  pub first_lies : (kind : Kind) → LiesIn n (character_fault kind r.first).span
  first_lies kind = lies_further stop n (character_fault kind r.first).span le (character_lies r.first.at r.first r.rest stop h.utf8 h.rises kind)

  pub indent_lies : LiesIn n (indent_fault r).span
  indent_lies =
      elim (cases_Bool (eqb r.first.byte 9)) [
        | inl a ↦ rw a (byte_lies r.begin n (omega (arith, h.begin, row_behind lo stop r h, le)))
        | inr a ↦ rw a (first_lies BadIndent)
      ]

  pub row_lies : LiesIn n (row_fault r).span
  row_lies =
      elim (cases_Bool (eqb r.first.byte 9)) [
        | inl a ↦ rw a (byte_lies r.begin n (omega (arith, h.begin, row_behind lo stop r h, le)))
        | inr a ↦ elim (cases_Bool (is_left_out r)) [
          | inl b ↦ rw (b, a) (first_lies LeftOut)
          | inr b ↦ rw (b, a) (first_lies NotANode)
        ]
      ]

-- ---- some rows

-- each stands behind the line of the row before it, the first at an offset or later, and all in a file of n bytes
abbrev pub AreRowsIn : ℕ → ℕ → List ContentRow → Type 0
AreRowsIn n lo [] = Unit {0}
AreRowsIn n lo (r ∷ rs) = (stop : ℕ) × IsRowIn lo stop r × (stop ≤ n) × AreRowsIn n stop rs

pub rows_low : (n lo low : ℕ) (rs : List ContentRow) → low ≤ lo → AreRowsIn n lo rs → AreRowsIn n low rs
rows_low n lo low [] le h = tt
rows_low n lo low (r ∷ rs) le h = (h.0, row_low lo low h.0 r le h.1, h.2, h.3)

rows_back : (n lo : ℕ) (front ss : List ContentRow) → AreRowsIn n lo (front ++ ss) → AreRowsIn n lo ss
rows_back n lo [] ss h = h
rows_back n lo (r ∷ front) ss h = let k = row_behind lo h.0 r h.1 in rows_low n h.0 lo ss (omega (arith, k, h.1.low)) (rows_back n h.0 front ss h.3)

-- the last of them
pub rows_end : (n lo : ℕ) (rs ss : List ContentRow) → IsEnd rs ss → AreRowsIn n lo rs → AreRowsIn n lo ss
rows_end n lo rs ss e h = rows_back n lo e.0 ss (subst (AreRowsIn n lo) e.1 h)

-- ---- the rows of lines

abbrev nothing : List Cell
nothing = []

start_before : (lo : ℕ) (text : List Cell) (break : ℕ) (c : Cell) (cs : List Cell) → after_spaces text ≡ c ∷ cs → Rises lo text break → start_of (line text break) ≤ c.at
start_before lo [] break c cs e r = none e
  where
    none : nothing ≡ c ∷ cs → start_of (line [] break) ≤ c.at
    none e = absurd cc
start_before lo (x ∷ text) break c cs e r =
    elim (cases_Bool (eqb x.byte 32)) [
      | inl a ↦
          let k : Rises (suc x.at) (c ∷ cs) break = subst (λ (ys : List Cell). Rises (suc x.at) ys break) (rw a at e) (rises-part (suc x.at) text (after_spaces text) break (after-spaces-part text) r.1) in
          omega (arith, k.0)
      | inr a ↦ let same : x ≡ c = same-cell x c text cs (rw a at e) in omega (arith, ap (λ (y : Cell). y.at) same)
    ]

line_rows : (n lo : ℕ) (l : Line) (rs : List ContentRow) → Utf8 l.text → Rises lo l.text l.break → l.break ≤ n → AreRowsIn n (suc l.break) rs → AreRowsIn n lo (content_row l ++ rs)
line_rows n lo l rs u r le later = by (begins_with 35 (after_spaces l.text)) (after_spaces l.text) refl
  where
    lower : AreRowsIn n lo rs
    lower = let k = rises-le lo l.text l.break r in rows_low n (suc l.break) lo rs (omega (arith, k)) later

    text : (cs : List Cell) → after_spaces l.text ≡ cs → AreRowsIn n lo (headed (start_of l) cs ++ rs)
    text [] e = lower
    text (c ∷ cs) e =
        let k : Rises lo (c ∷ cs) l.break = subst (λ (ys : List Cell). Rises lo ys l.break) e (rises-part lo l.text (after_spaces l.text) l.break (after-spaces-part l.text) r) in
        let v : Utf8 (c ∷ cs) = subst Utf8 e (part-utf8 l.text (after_spaces l.text) (after-spaces-part l.text) u) in
        (l.break, record { low = k.0; begin = start_before lo l.text l.break c cs e r; rises = (omega arith, k.1); utf8 = v }, le, rows_low n (suc l.break) l.break rs (omega arith) later)

    by : (b : Bool) (cs : List Cell) → after_spaces l.text ≡ cs → AreRowsIn n lo (cond b [] (headed (start_of l) cs) ++ rs)
    by true cs e = lower
    by false cs e = text cs e

pub rows_in : (n lo : ℕ) (ls : List Line) → LinesUtf8 ls → LinesRise lo ls n → AreRowsIn n lo (rows_of ls)
unfolding rows_of
rows_in n lo [] u r = tt
rows_in n lo (l ∷ ls) u r = line_rows n lo l (rows_of ls) u.0 r.0 r.1 (rows_in n (suc l.break) ls u.1 r.2)

-- ---- the rows of a file

module _ (bytes : List ℕ) (utf8 : IsUtf8 bytes) where
  pub source_utf8 : (at : ℕ) → IsCharBoundary bytes at → Utf8 (source_at bytes at)
  source_utf8 at b = subst IsUtf8 (sym (cells-bytes at (drop at bytes))) (IsUtf8-drop bytes at utf8 b)

  pub source_rises : (at : ℕ) → at ≤ length bytes → Rises at (source_at bytes at) (length bytes)
  source_rises at le =
      let e : at + length (drop at bytes) ≡ length bytes = omega (arith, length-drop at bytes, le) in
      subst (Rises at (cells at (drop at bytes))) e (cells-rise at (drop at bytes))

  pub document_in : AreRowsIn (length bytes) 0 (document_rows bytes)
  document_in =
      let m = mark_length bytes in
      let b = mark-start bytes utf8 in
      let us = lines-utf8 (suc (length (source_at bytes m))) (length bytes) (source_at bytes m) (omega arith) (source_utf8 m b) in
      let rs = lines-rise (suc (length (source_at bytes m))) (length bytes) m (source_at bytes m) (omega arith) (source_rises m b.0) in
      let all : AreRowsIn (length bytes) 0 (rows_of (lines (length bytes) (source_at bytes m))) =
      rows_low (length bytes) m 0 (rows_of (lines (length bytes) (source_at bytes m))) (omega arith) (rows_in (length bytes) m (lines (length bytes) (source_at bytes m)) us rs) in
      opened (rows_of (lines (length bytes) (source_at bytes m))) all
    where
      opened : (rs : List ContentRow) → AreRowsIn (length bytes) 0 rs → AreRowsIn (length bytes) 0 (without_opening rs)
      opened [] h = tt
      opened (r ∷ rs) h = by (is_opening r)
        where
          by : (b : Bool) → AreRowsIn (length bytes) 0 (cond b rs (r ∷ rs))
          by true = rows_low (length bytes) h.0 0 rs (omega arith) h.3
          by false = h
