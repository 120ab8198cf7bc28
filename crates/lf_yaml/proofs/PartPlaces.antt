-- Scalars of flow collections in the file, as the code reads them.
use Rattle.std.proofs.Common.{◌≡◌, ℕ, zero, suc, true, ◌+◌, ◌<◌, ◌≤◌, List, [], ◌∷◌, ◌++◌, Option, Some, None, Result, Ok, Err, length, get_or, take, drop, refl, ap, arith, sym, ◌∙◌, subst, length-drop}
use Rattle.std.specs.Str.{IsCharBoundary, IsUtf8}
use Rattle.std.proofs.lemmas.List.{take_all, drop_more}
use Rattle.std.proofs.lemmas.Str.{IsCharBoundary-start, IsCharBoundary-from_rest, IsCharBoundary-after_ascii, IsUtf8-drop}
use Rattle.lf_base.specs.declared.fault.Fault.{Fault}
use Rattle.lf_base.specs.Faults.{span}
use Rattle.lf_scalar.specs.Cells.{Cell, cell, cells, Fails, Value, made, bytes_of, offsets_of, end_of}
use Rattle.lf_scalar.specs.Lines.{Line}
use Rattle.lf_scalar.specs.Offsets.{AreOffsets}
use Rattle.lf_scalar.specs.Scalars.{source_at}
use Rattle.lf_scalar.specs.declared.quotes.Quotes.{Quotes}
use Rattle.lf_scalar.specs.Quoted.{quote_of}
use Rattle.lf_scalar.specs.reading.Quoted.{closing_of}
use Rattle.lf_scalar.specs.Splits.{Split, split_of}
use Rattle.lf_scalar.proofs.BlockTexts.{Mounts, mounts-le}
use Rattle.lf_scalar.proofs.Cells.{cells-bytes}
use Rattle.lf_scalar.proofs.Parts.{Utf8}
use Rattle.lf_scalar.proofs.Rising.{Climbs, climbs-end}
use Rattle.lf_scalar.proofs.TextLaws.{made-placed, climbs-mount, end-mounts}
use Rattle.lf_scalar.proofs.Utf8Lines.{LinesUtf8, utf8-nil, lines-utf8}
use Rattle.lf_yaml.specs.Flow.{first_line, later_lines, lines_on, line_on, lines_below, begins_flow, PlainFrom}
use Rattle.lf_scalar.specs.Plain.{value_of}
use Rattle.lf_base.specs.declared.refusal.Refusal.{Refusal}
use Rattle.lf_base.specs.declared.refusal.Refusal.TheVariants as refusal_of
use Rattle.lf_yaml.specs.reading.Trees.{between_of, FlowPart, with_after, quoted_part, plain_part, part_by, plain_from}
use Rattle.lf_yaml.proofs.FlowLines.{good, PlainTold, plain-told, plain-climbs, plain-within, plain-utf8, plain-boundary, lines-here, lines-rise-here}
use Rattle.lf_yaml.proofs.ReadScalars.{small-quote}
use Rattle.lf_yaml.proofs.RowsAfter.{get-drop}

-- a character begins where a part does
pub part-start : (bytes text : List ℕ) (at : ℕ) → IsUtf8 text → text ≡ take (length text) (drop at bytes) → 0 < length text → at < length bytes → IsCharBoundary bytes at
part-start bytes [] at utf8 e full within = absurd (omega arith)
part-start bytes (x ∷ xs) at utf8 e full within = by (drop at bytes) refl e
  where
    head : (x y : ℕ) (xs ys : List ℕ) → x ∷ xs ≡ y ∷ ys → x ≡ y
    head x y xs ys e = cc

    by : (rest : List ℕ) → drop at bytes ≡ rest → x ∷ xs ≡ take (suc (length xs)) rest → IsCharBoundary bytes at
    by [] d h = absurd cc
    by (y ∷ ys) d h =
        let same : x ≡ y = head x y xs (take (length xs) ys) h in
        let first : IsCharBoundary (x ∷ ys) 0 = (omega arith, λ lt high. (IsCharBoundary-start (x ∷ xs) utf8).1 (omega arith) high) in
        let z : at + 0 ≡ at = omega arith in
        subst (IsCharBoundary bytes) z (IsCharBoundary-from_rest bytes at 0 (omega (arith, within)) (subst (λ (bs : List ℕ). IsCharBoundary bs 0) (sym d) (subst (λ (b : ℕ). IsCharBoundary (b ∷ ys) 0) same first)))

-- ---- plain scalars

pub first-utf8 : (end : ℕ) (ls : List Line) → LinesUtf8 ls → LinesUtf8 (first_line end ls ∷ later_lines ls)
first-utf8 end [] h = (utf8-nil, tt)
first-utf8 end (l ∷ ls) h = h

module _ (bytes : List ℕ) (at : ℕ) (within : at < length bytes) (text : List Cell) (after : ℕ) (read : plain_from (line_on bytes at) (lines_below bytes at) ≡ good text after) where
  stands : PlainFrom (line_on bytes at) (lines_below bytes at) text after
  stands = subst (PlainTold (line_on bytes at) (lines_below bytes at)) read (plain-told (line_on bytes at) (lines_below bytes at))

  climbs : Climbs at text (length bytes)
  climbs = plain-climbs (line_on bytes at) (lines_below bytes at) text after stands at (length bytes) (lines-rise-here bytes at (omega (arith, within)))

  mounts : Mounts at text (end_of at text)
  mounts = end-mounts at at text (length bytes) (omega arith) (climbs-mount at text (length bytes) climbs)

  pub end-within : end_of at text ≤ length bytes
  end-within = climbs-end at at text (length bytes) (omega (arith, within)) climbs

  pub end-low : at ≤ end_of at text
  end-low = mounts-le at text (end_of at text) mounts

  pub text-offsets : AreOffsets (bytes_of text) (offsets_of text ++ end_of at text ∷ []) (span at (end_of at text))
  text-offsets = (made-placed (made text (end_of at text) (span at (end_of at text))) text (end_of at text) at (end_of at text) at (end_of at text) refl refl mounts (omega arith) (omega arith)).offsets

  pub text-utf8 : IsUtf8 bytes → IsCharBoundary bytes at → IsUtf8 (bytes_of text)
  text-utf8 utf8 b =
      let src : Utf8 (source_at bytes at) = subst IsUtf8 (sym (cells-bytes at (drop at bytes))) (IsUtf8-drop bytes at utf8 b) in
      plain-utf8 (line_on bytes at) (lines_below bytes at) text after stands (first-utf8 (length bytes) (lines_on bytes at) (lines-utf8 (suc (length (source_at bytes at))) (length bytes) (source_at bytes at) (omega arith) src))

  pub after-boundary : IsCharBoundary bytes after
  after-boundary = plain-boundary bytes (line_on bytes at) (lines_below bytes at) text after stands (lines-here bytes at)

  pub after-low : at ≤ after
  after-low = (plain-within (line_on bytes at) (lines_below bytes at) text after stands at (length bytes) (lines-rise-here bytes at (omega (arith, within)))).0

-- the plain scalar that a part begins
pub plain-ok : (bytes : List ℕ) (c : Cell) (cs : List Cell) (text : List Cell) (after place : ℕ) (v : Value) → begins_flow c cs ≡ true → plain_from (line_on bytes c.at) (lines_below bytes c.at) ≡ good text after → value_of c text ≡ v → place ≡ after
    → part_by bytes c cs None ≡ Ok (v, place)
plain-ok bytes c cs text after place v b read e p =
    rw b (ap (plain_part c) read ∙ ap (λ (x : Value). let y : FlowPart = (x, after) in Ok y) e ∙ ap (λ (n : ℕ). let y : FlowPart = (v, n) in Ok y) (sym p))

abbrev value-read : Value → Result Value Fault
value-read v = Ok v

abbrev value-fails : Fault → Result Value Fault
value-fails f = Err f

pub value-same : (x y : Value) → value-read x ≡ value-read y → x ≡ y
value-same x y e = cc

read-fails : (x : Value) (f : Fault) → value-read x ≡ value-fails f → ⊥
read-fails x f e = cc

-- where a scalar is read, memory alone can run out
pub only-memory : {X : Type 0} (e : Refusal) (v : Value) (read : Result X Fault) → Fails e (value-read v) → Fails e read
only-memory refusal_of.Memory v read h = tt
only-memory (refusal_of.At kind place) v read h = absurd (read-fails v (record { kind = kind; span = place }) h)

-- ---- scalars between quotes

module _ (bytes text inside : List ℕ) (at : ℕ) (quote : Quotes) (within : at < length bytes) (is : text ≡ take (length text) (drop at bytes)) (full : 0 < length text) (quoted : get_or text 0 0 ≡ quote_of quote) (rest : inside ≡ drop (at + 1) bytes) where
  pub first-byte : get_or text 0 0 ≡ get_or bytes at 0
  first-byte = by text is full
    where
      of-take : (n : ℕ) (xs : List ℕ) → 0 < n → get_or (take n xs) 0 0 ≡ get_or xs 0 0
      of-take zero xs lt = absurd (omega arith)
      of-take (suc n) [] lt = refl
      of-take (suc n) (x ∷ xs) lt = refl

      by : (xs : List ℕ) → xs ≡ take (length xs) (drop at bytes) → 0 < length xs → get_or xs 0 0 ≡ get_or bytes at 0
      by xs e lt = let z : at + 0 ≡ at = omega arith in ap (λ (ys : List ℕ). get_or ys 0 0) e ∙ of-take (length xs) (drop at bytes) lt ∙ get-drop at 0 bytes ∙ ap (λ (n : ℕ). get_or bytes n 0) z

  pub quote-there : get_or bytes at 0 ≡ quote_of quote
  quote-there = sym first-byte ∙ quoted

  pub inside-length : at + length inside + 1 ≡ length bytes
  inside-length = omega (arith, within, ap length rest, length-drop (at + 1) bytes)

  pub inside-is : get_or bytes at 0 ∷ inside ≡ take (length inside + 1) (drop at bytes)
  inside-is =
      let all : take (length inside + 1) (drop at bytes) ≡ drop at bytes = take_all (length inside + 1) (drop at bytes) (omega (arith, inside-length, length-drop at bytes)) in
      ap (λ (xs : List ℕ). get_or bytes at 0 ∷ xs) rest ∙ sym (drop_more bytes at 0 within) ∙ sym all

  pub source-is : source_at bytes (suc at) ≡ cells (at + 1) inside
  source-is = let z : suc at ≡ at + 1 = omega arith in ap (λ (n : ℕ). cells n (drop n bytes)) z ∙ ap (cells (at + 1)) (sym rest)

  pub closing-is : (o : Option Split) → o ≡ closing_of quote 0 (cells (at + 1) inside) → closing_of quote 0 (source_at bytes (suc at)) ≡ o
  closing-is o e = ap (closing_of quote 0) source-is ∙ sym e

  pub closing-boundary : (k : ℕ) → IsUtf8 bytes → k < length inside → get_or inside k 0 ≡ quote_of quote → IsCharBoundary bytes (at + (k + 2))
  closing-boundary k utf8 lt q =
      let same : get_or inside k 0 ≡ get_or bytes (at + 1 + k) 0 = ap (λ (xs : List ℕ). get_or xs k 0) rest ∙ get-drop (at + 1) k bytes in
      let low : get_or bytes (at + 1 + k) 0 < 128 = small-quote quote (get_or bytes (at + 1 + k) 0) (sym same ∙ q) in
      let z : at + 1 + k + 1 ≡ at + (k + 2) = omega arith in
      subst (IsCharBoundary bytes) z (IsCharBoundary-after_ascii bytes (at + 1 + k) utf8 (omega (arith, lt, inside-length)) low)

  pub quoted-ok : (k place : ℕ) (v : Value) → Some (split_of (at + 1) inside k) ≡ closing_of quote 0 (cells (at + 1) inside) → between_of quote (cell (get_or bytes at 0) at) (Some (split_of (at + 1) inside k)) ≡ Ok v → place ≡ at + (k + 2)
      → quoted_part quote (cell (get_or text 0 0) at) (closing_of quote 0 (source_at bytes (suc at))) ≡ Ok (v, place)
  quoted-ok k place v e read p =
      let z : suc (at + 1 + k) ≡ place = omega (arith, p) in
      ap (quoted_part quote (cell (get_or text 0 0) at)) (closing-is (Some (split_of (at + 1) inside k)) e)
      ∙ ap (λ (b : ℕ). with_after (suc (at + 1 + k)) (between_of quote (cell b at) (Some (split_of (at + 1) inside k)))) first-byte
      ∙ ap (with_after (suc (at + 1 + k))) read ∙ ap (λ (n : ℕ). let x : FlowPart = (v, n) in Ok x) z

  pub quoted-err : (k : ℕ) (e : Refusal) → Some (split_of (at + 1) inside k) ≡ closing_of quote 0 (cells (at + 1) inside) → Fails e (between_of quote (cell (get_or bytes at 0) at) (Some (split_of (at + 1) inside k)))
      → Fails e (quoted_part quote (cell (get_or text 0 0) at) (closing_of quote 0 (source_at bytes (suc at))))
  quoted-err k refusal_of.Memory e h = tt
  quoted-err k (refusal_of.At kind place) e h =
      ap (quoted_part quote (cell (get_or text 0 0) at)) (closing-is (Some (split_of (at + 1) inside k)) e)
      ∙ ap (λ (b : ℕ). with_after (suc (at + 1 + k)) (between_of quote (cell b at) (Some (split_of (at + 1) inside k)))) first-byte
      ∙ ap (with_after (suc (at + 1 + k))) h
