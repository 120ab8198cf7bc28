-- What holds of each scalar of a file, whatever its style: its text is UTF-8, its offsets never fall and lie in its place, and its place begins where it was asked for and lies
-- in the file.
use Rattle.std.proofs.Common.{◌≡◌, ℕ, suc, ◌+◌, ◌≤◌, min, Bool, true, false, cond, List, [], ◌∷◌, ◌++◌, length, drop, refl, ap, arith, sym, ◌∙◌, subst, eqb-true}
use Rattle.std.specs.Prelude.{ℤ}
use Rattle.std.specs.Str.{IsUtf8}
use Rattle.std.proofs.lemmas.List.{length-append, length-map, length-drop}
use Rattle.std.proofs.lemmas.Str.{IsUtf8-drop}
use Rattle.lf_base.specs.declared.place.Span.{Span}
use Rattle.lf_scalar.specs.declared.scalar.Style.{Style}
use Rattle.lf_scalar.specs.declared.scalar.Style.TheVariants as style
use Rattle.lf_base.specs.Faults.{span}
use Rattle.lf_scalar.specs.Cells.{Cell, cell, cells, bytes_of, offsets_of, Value, made, end_of}
use Rattle.lf_scalar.specs.Lines.{Line, lines, first_text, begins_with}
use Rattle.lf_scalar.specs.Plain.{is_null, IsPlainScalar}
use Rattle.lf_scalar.specs.Quoted.{Quotes, Single, Double, quote_of, raw, IsQuoted}
use Rattle.lf_scalar.specs.Block.{AreJoinedLines, IsFolded, IsBlock, content_indent, body_of}
use Rattle.std.specs.List.{flat_map}
use Rattle.lf_scalar.specs.Scalars.{least_above, begins, source_at, BeginsAt, IsOfStyle, IsQuotedAt, IsScalarAt}
use Rattle.lf_scalar.specs.Offsets.{AreOffsets}
use Rattle.lf_scalar.proofs.Cells.{cells-bytes, same-cell}
use Rattle.lf_scalar.proofs.Climbing as list
use Rattle.lf_scalar.proofs.LineCuts.{has-line, first-line-of}
use Rattle.lf_scalar.proofs.Parts.{Utf8, utf8-before, utf8-behind}
use Rattle.lf_scalar.proofs.Utf8Lines.{utf8-nil, utf8-append, utf8-low, LinesUtf8, lines-utf8, plain-utf8}
use Rattle.lf_scalar.proofs.Rising.{Rises, Climbs, LinesRise, rises-le, rises-before, rises-behind, cells-rise, lines-rise, lines-low, climbs-end}
use Rattle.lf_scalar.proofs.PlainOffsets.{plain-climbs}
use Rattle.lf_scalar.proofs.PlainRead.{first-at}
use Rattle.lf_scalar.proofs.QuotedTexts.{quote-low, quoted-utf8, quoted-climbs}
use Rattle.lf_scalar.proofs.BlockTexts.{body-utf8, body-rises, KeepsUtf8, joins-utf8, folds-utf8, block-utf8, Mounts, mounts-le, KeepsOrder, joins-order, folds-order, block-mounts}
use Rattle.lf_scalar.proofs.Tails.{true-false}

-- ---- the first cell

-- a source whose first line begins with a byte
pub first-byte : (end b : ℕ) (c : Cell) (src : List Cell) → begins_with b (first_text (lines end (c ∷ src))) ≡ true → c.byte ≡ b
first-byte end b c src h =
    let x = has-line end c src in
    by x.0.text (x.3.ending ++ x.3.rest) x.3.source (ap (λ (ls : List Line). begins_with b (first_text ls)) (sym x.2) ∙ h)
  where
    by : (text behind : List Cell) → c ∷ src ≡ text ++ behind → begins_with b text ≡ true → c.byte ≡ b
    by [] behind e k = true-false false k refl
    by (d ∷ text) behind e k = ap (λ (x : Cell). x.byte) (same-cell c d src (text ++ behind) e) ∙ eqb-true d.byte b k

-- ---- UTF-8

made-utf8 : (v : Value) (text : List Cell) (end : ℕ) (place : Span) → v ≡ made text end place → Utf8 text → IsUtf8 v.text
made-utf8 v text end place e u = subst (λ (w : Value). IsUtf8 w.text) (sym e) u

unless-null : (b : Bool) (text : List Cell) → Utf8 text → Utf8 (cond b [] text)
unless-null true text u = utf8-nil
unless-null false text u = u

plain-text-utf8 : (above end : ℕ) (src : List Cell) (v : Value) → Utf8 src → IsPlainScalar above end src v → IsUtf8 v.text
plain-text-utf8 above end src v u p =
    let ls : LinesUtf8 (p.begun.first ∷ p.begun.following) = subst LinesUtf8 p.begun.source (lines-utf8 (suc (length src)) end src (omega arith) u) in
    let t : Utf8 p.text = plain-utf8 above p.begun.first p.begun.following p.text p.from ls in
    made-utf8 v (cond (is_null p.text) [] p.text) (end_of p.begun.opening.at p.text) (span p.begun.opening.at (end_of p.begun.opening.at p.text)) p.value (unless-null (is_null p.text) p.text t)

quoted-text-utf8 : (kind : Quotes) (end : ℕ) (opening : Cell) (src : List Cell) (v : Value) → opening.byte ≡ quote_of kind → Utf8 (opening ∷ src) → IsQuoted kind end opening src v → IsUtf8 v.text
quoted-text-utf8 kind end opening src v o u q =
    let c = q.closed.between in
    let low = quote-low kind c.closing c.closes in
    let inner : Utf8 (flat_map raw c.raws ++ c.closing ∷ c.rest) = subst Utf8 c.source (utf8-behind [] opening src u (quote-low kind opening o)) in
    let whole : Utf8 (flat_map raw c.raws ++ c.closing ∷ []) = utf8-append (flat_map raw c.raws) (c.closing ∷ []) (utf8-before (flat_map raw c.raws) c.closing c.rest inner low) (utf8-low c.closing [] low utf8-nil) in
    let ls : LinesUtf8 (q.closed.first ∷ q.closed.following) =
    subst LinesUtf8 q.closed.source (lines-utf8 (suc (length (flat_map raw c.raws ++ c.closing ∷ []))) (c.closing.at + 1) (flat_map raw c.raws ++ c.closing ∷ []) (omega arith) whole) in
    made-utf8 v q.closed.text c.closing.at (span opening.at (c.closing.at + 1)) q.closed.value (quoted-utf8 kind q.closed.first q.closed.following q.closed.text q.closed.from ls)

block-text-utf8 : (Joins : List Line → List Cell → Type 0) → KeepsUtf8 Joins → (above end : ℕ) (src : List Cell) (v : Value) → Utf8 src → IsBlock Joins above end src v → IsUtf8 v.text
block-text-utf8 Joins keeps above end src v u b =
    let ls : LinesUtf8 (record { text = b.headed.sign ∷ b.headed.header; break = b.headed.break } ∷ b.headed.following) = subst LinesUtf8 b.headed.source (lines-utf8 (suc (length src)) end src (omega arith) u) in
    let k : ℕ = content_indent above b.digit b.headed.following in
    made-utf8 v b.text b.last (span b.headed.sign.at b.last) b.value (block-utf8 Joins keeps end b.chomp (body_of k b.headed.following) b.text b.is_text (body-utf8 k b.headed.following ls.1))

style-utf8 : (s : Style) (above end : ℕ) (src : List Cell) (v : Value) → Utf8 src → begins s (first_text (lines end src)) ≡ true → IsOfStyle s above end src v → IsUtf8 v.text
style-utf8 style.Plain above end src v u b h = plain-text-utf8 above end src v u h
style-utf8 style.Single above end [] v u b h = absurd h
style-utf8 style.Single above end (c ∷ src) v u b h = quoted-text-utf8 Single end c src v (first-byte end 39 c src b) u h
style-utf8 style.Double above end [] v u b h = absurd h
style-utf8 style.Double above end (c ∷ src) v u b h = quoted-text-utf8 Double end c src v (first-byte end 34 c src b) u h
style-utf8 style.Literal above end src v u b h = block-text-utf8 AreJoinedLines joins-utf8 above end src v u h
style-utf8 style.Folded above end src v u b h = block-text-utf8 IsFolded folds-utf8 above end src v u h

-- the text of a scalar of a UTF-8 file is UTF-8
pub utf8-text : (bytes : List ℕ) (at : ℕ) (indent : ℤ) (s : Style) (v : Value) → IsUtf8 bytes → BeginsAt bytes at s → IsScalarAt bytes at indent s v → IsUtf8 v.text
utf8-text bytes at indent s v u b h = style-utf8 s (least_above indent) (length bytes) (source_at bytes at) v (subst IsUtf8 (sym (cells-bytes at (drop at bytes))) (IsUtf8-drop bytes at u b.0)) b.1 h

-- ---- offsets

mounts-climb : (lo : ℕ) (text : List Cell) (end high : ℕ) → Mounts lo text end → end ≤ high → list.Climbs lo (offsets_of text ++ end ∷ []) high
mounts-climb lo [] end high h le = (h, le)
mounts-climb lo (c ∷ cs) end high h le = (h.0, mounts-climb c.at cs end high h.1 le)

made-length : (text : List Cell) (end : ℕ) → length (offsets_of text ++ end ∷ []) ≡ length (bytes_of text) + 1
made-length text end = length-append (offsets_of text) (end ∷ []) ∙ ap (λ (n : ℕ). n + 1) (length-map text (λ (c : Cell). c.at) ∙ sym (length-map text (λ (c : Cell). c.byte)))

-- a scalar's offsets, its place begins at an offset, and lies before another
pub record IsPlaced (v : Value) (at end : ℕ) : Type 0 where
  pub offsets : AreOffsets v.text v.from v.span
  pub start : v.span.start ≡ at
  pub within : v.span.end ≤ end

pub made-placed : (v : Value) (text : List Cell) (last at end start stop : ℕ) → v ≡ made text last (span start stop) → start ≡ at → Mounts start text last → last ≤ stop → stop ≤ end → IsPlaced v at end
made-placed v text last at end start stop e s m le w =
    subst (λ (x : Value). IsPlaced x at end) (sym e)
    (record { offsets = list.are-offsets (bytes_of text) (offsets_of text ++ last ∷ []) (span start stop) (made-length text last) (mounts-climb start text last stop m le); start = s; within = w })

pub climbs-mount : (lo : ℕ) (text : List Cell) (hi : ℕ) → Climbs lo text hi → Mounts lo text hi
climbs-mount lo [] hi h = h
climbs-mount lo (c ∷ cs) hi h = (h.0, climbs-mount c.at cs hi h.2)

-- up to the end of the source of the last cell
pub end-mounts : (none lo : ℕ) (text : List Cell) (hi : ℕ) → lo ≤ none → Mounts lo text hi → Mounts lo text (end_of none text)
end-mounts none lo [] hi le h = le
end-mounts none lo (c ∷ cs) hi le h = (h.0, end-mounts (suc c.at) c.at cs hi (omega arith) h.1)

least-mounts : (lo : ℕ) (text : List Cell) (a b : ℕ) → Mounts lo text a → Mounts lo text b → Mounts lo text (min a b)
least-mounts lo [] a b h k = omega (arith, h, k)
least-mounts lo (c ∷ cs) a b h k = (h.0, least-mounts c.at cs a b h.1 k.1)

pub null-mounts : (b : Bool) (lo : ℕ) (text : List Cell) (hi : ℕ) → Mounts lo text hi → Mounts lo (cond b [] text) hi
null-mounts true lo text hi h = mounts-le lo text hi h
null-mounts false lo text hi h = h

-- the first cell of the first line of some bytes
line-at : (at end : ℕ) (rest : List ℕ) (l : Line) (ls : List Line) (c : Cell) (cs : List Cell) → lines end (cells at rest) ≡ l ∷ ls → l.text ≡ c ∷ cs → c.at ≡ at
line-at at end rest l ls c cs e f =
    let k = first-line-of end (cells at rest) l ls e in
    first-at at rest c (cs ++ (k.ending ++ k.rest)) (k.source ∙ ap (λ (xs : List Cell). xs ++ (k.ending ++ k.rest)) f)

from-first : (c : Cell) (cs : List Cell) (lo hi : ℕ) → Rises lo (c ∷ cs) hi → Rises c.at (c ∷ cs) hi
from-first c cs lo hi h = (omega arith, h.1)

module _ (at end : ℕ) (rest : List ℕ) (rises : Rises at (cells at rest) end) where
  lines-rising : LinesRise at (lines end (cells at rest)) end
  lines-rising = lines-rise (suc (length (cells at rest))) end at (cells at rest) (omega arith) rises

  plain-placed : (above : ℕ) (v : Value) → IsPlainScalar above end (cells at rest) v → IsPlaced v at end
  plain-placed above v p =
      let b = p.begun in
      let r : LinesRise at (b.first ∷ b.following) end = subst (λ (ls : List Line). LinesRise at ls end) b.source lines-rising in
      let f : Rises b.opening.at b.first.text b.first.break =
      subst (λ (cs : List Cell). Rises b.opening.at cs b.first.break) (sym b.text) (from-first b.opening b.rest at b.first.break (subst (λ (cs : List Cell). Rises at cs b.first.break) b.text r.0)) in
      let le : b.opening.at ≤ b.first.break = rises-le b.opening.at b.first.text b.first.break f in
      let c : Climbs b.opening.at p.text end = plain-climbs above b.first b.following p.text p.from b.opening.at end (f, r.1, r.2) in
      made-placed v (cond (is_null p.text) [] p.text) (end_of b.opening.at p.text) at end b.opening.at (end_of b.opening.at p.text) p.value (line-at at end rest b.first b.following b.opening b.rest b.source b.text)
      (null-mounts (is_null p.text) b.opening.at p.text (end_of b.opening.at p.text) (end-mounts b.opening.at b.opening.at p.text end (omega arith) (climbs-mount b.opening.at p.text end c)))
      (omega arith) (climbs-end b.opening.at b.opening.at p.text end (omega (arith, le, r.1)) c)

  block-placed : (Joins : List Line → List Cell → Type 0) → KeepsOrder Joins → (above : ℕ) (v : Value) → IsBlock Joins above end (cells at rest) v → IsPlaced v at end
  block-placed Joins keeps above v b =
      let h = b.headed in
      let r : LinesRise at (record { text = h.sign ∷ h.header; break = h.break } ∷ h.following) end = subst (λ (ls : List Line). LinesRise at ls end) h.source lines-rising in
      let le : suc h.sign.at ≤ h.break = rises-le (suc h.sign.at) h.header h.break r.0.1 in
      let k : ℕ = content_indent above b.digit h.following in
      let body : LinesRise h.sign.at (body_of k h.following) end = body-rises k h.sign.at end h.following (lines-low (suc h.break) h.sign.at h.following end (omega (arith, le)) r.2) in
      let m : Mounts h.sign.at b.text end = block-mounts Joins keeps end b.chomp (body_of k h.following) b.text b.is_text h.sign.at end (omega (arith, le, r.1)) body in
      let both : Mounts h.sign.at b.text b.last =
      subst (Mounts h.sign.at b.text) (sym b.last_is) (least-mounts h.sign.at b.text (end_of (suc h.sign.at) b.text) end (end-mounts (suc h.sign.at) h.sign.at b.text end (omega arith) m) m) in
      made-placed v b.text b.last at end h.sign.at b.last b.value (line-at at end rest (record { text = h.sign ∷ h.header; break = h.break }) h.following h.sign h.header h.source refl) both (omega arith) (omega (arith, b.last_is))

pub rises-push : (lo : ℕ) (xs : List Cell) (c : Cell) → Rises lo xs c.at → Rises lo (xs ++ c ∷ []) (c.at + 1)
rises-push lo [] c h = (h, omega arith)
rises-push lo (x ∷ xs) c h = (h.0, rises-push (suc x.at) xs c h.1)

pub quoted-placed : (kind : Quotes) (at end : ℕ) (opening : Cell) (src : List Cell) (v : Value) → opening.at ≡ at → Rises at (opening ∷ src) end → IsQuoted kind end opening src v → IsPlaced v at end
quoted-placed kind at end opening src v o r q =
    let c = q.closed.between in
    let s : Rises (suc opening.at) (flat_map raw c.raws ++ c.closing ∷ c.rest) end = subst (λ (cs : List Cell). Rises (suc opening.at) cs end) c.source r.1 in
    let stop : suc c.closing.at ≤ end = rises-le (suc c.closing.at) c.rest end (rises-behind (suc opening.at) (flat_map raw c.raws) c.closing c.rest end s) in
    let inner : Rises (suc opening.at) (flat_map raw c.raws ++ c.closing ∷ []) (c.closing.at + 1) = rises-push (suc opening.at) (flat_map raw c.raws) c.closing (rises-before (suc opening.at) (flat_map raw c.raws) c.closing c.rest end s) in
    let all : LinesRise (suc opening.at) (lines (c.closing.at + 1) (flat_map raw c.raws ++ c.closing ∷ [])) (c.closing.at + 1) =
    lines-rise (suc (length (flat_map raw c.raws ++ c.closing ∷ []))) (c.closing.at + 1) (suc opening.at) (flat_map raw c.raws ++ c.closing ∷ []) (omega arith) inner in
    let one : c.closing.at + 1 ≡ suc c.closing.at = omega arith in
    let ls : LinesRise (suc opening.at) (q.closed.first ∷ q.closed.following) (suc c.closing.at) = subst (LinesRise (suc opening.at) (q.closed.first ∷ q.closed.following)) one (subst (λ (xs : List Line). LinesRise (suc opening.at) xs (c.closing.at + 1)) q.closed.source all) in
    let m : Climbs opening.at q.closed.text c.closing.at =
    quoted-climbs kind q.closed.first q.closed.following q.closed.text q.closed.from opening.at c.closing.at (lines-low (suc opening.at) opening.at (q.closed.first ∷ q.closed.following) (suc c.closing.at) (omega arith) ls) in
    made-placed v q.closed.text c.closing.at at end opening.at (c.closing.at + 1) q.closed.value o (climbs-mount opening.at q.closed.text c.closing.at m) (omega arith) (omega (arith, stop))

quoted-at-placed : (kind : Quotes) (at end : ℕ) (rest : List ℕ) (v : Value) → Rises at (cells at rest) end → IsQuotedAt kind end (cells at rest) v → IsPlaced v at end
quoted-at-placed kind at end [] v r h = absurd h
quoted-at-placed kind at end (b ∷ rest) v r h = quoted-placed kind at end (cell b at) (cells (suc at) rest) v refl r h

pub style-placed : (s : Style) (above at end : ℕ) (rest : List ℕ) (v : Value) → Rises at (cells at rest) end → IsOfStyle s above end (cells at rest) v → IsPlaced v at end
style-placed style.Plain above at end rest v r h = plain-placed at end rest r above v h
style-placed style.Single above at end rest v r h = quoted-at-placed Single at end rest v r h
style-placed style.Double above at end rest v r h = quoted-at-placed Double at end rest v r h
style-placed style.Literal above at end rest v r h = block-placed at end rest r AreJoinedLines joins-order above v h
style-placed style.Folded above at end rest v r h = block-placed at end rest r IsFolded folds-order above v h

-- a scalar's offsets never fall and lie in its place, which begins where the scalar was asked for and lies in the file
pub placed : (bytes : List ℕ) (at : ℕ) (indent : ℤ) (s : Style) (v : Value) → BeginsAt bytes at s → IsScalarAt bytes at indent s v → IsPlaced v at (length bytes)
placed bytes at indent s v b h =
    let e : at + length (drop at bytes) ≡ length bytes = omega (arith, length-drop at bytes, b.0.0) in
    style-placed s (least_above indent) at (length bytes) (drop at bytes) v (subst (Rises at (cells at (drop at bytes))) e (cells-rise at (drop at bytes))) h

pub offsets : (bytes : List ℕ) (at : ℕ) (indent : ℤ) (s : Style) (v : Value) → BeginsAt bytes at s → IsScalarAt bytes at indent s v → AreOffsets v.text v.from v.span × (v.span.end ≤ length bytes)
offsets bytes at indent s v b h = let p = placed bytes at indent s v b h in (p.offsets, p.within)
