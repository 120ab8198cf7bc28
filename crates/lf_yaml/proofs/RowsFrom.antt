-- The rows from an offset on that begin at another or behind it.
use Rattle.std.proofs.Common.{◌≡◌, ℕ, ◌≤◌, Bool, true, false, cond, List, [], ◌∷◌, ◌++◌, length, drop, refl, ap, arith, sym, ◌∙◌}
use Rattle.std.specs.List.{AllByRecursion}
use Rattle.std.proofs.lemmas.Bool.{le-ltb}
use Rattle.lf_scalar.specs.Cells.{Cell}
use Rattle.lf_scalar.specs.Lines.{Line, line, lines, begins_with, after_spaces}
use Rattle.lf_scalar.specs.Scalars.{source_at}
use Rattle.lf_scalar.specs.Lines.{start_of}
use Rattle.lf_yaml.specs.Rows.{ContentRow, headed, content_row, rows_of, rows_from}
use Rattle.lf_yaml.specs.views.Cursor.{rows_after}
use Rattle.lf_yaml.proofs.Placed.{Stands, AllStand, lines-stand, after-suffix}
use Rattle.lf_yaml.proofs.RowsAfter.{rows-past}

-- ---- a line before the offset gives none of them

-- ---- the rows of lines from an offset on begin at it or behind it

abbrev Begin : ℕ → List ContentRow → Type 0
Begin at rs = AllByRecursion (λ r. at ≤ r.begin) rs

headed-begins : (at begin : ℕ) (cs : List Cell) → at ≤ begin → Begin at (headed begin cs)
headed-begins at begin [] le = tt
headed-begins at begin (c ∷ cs) le = (le, tt)

append-begins : (at : ℕ) (rs ss : List ContentRow) → Begin at rs → Begin at ss → Begin at (rs ++ ss)
append-begins at [] ss h k = k
append-begins at (r ∷ rs) ss h k = (h.0, append-begins at rs ss h.1 k)

line-begins : (end at : ℕ) (bs : List ℕ) (l : Line) → Stands end at bs l → Begin at (content_row l)
line-begins end at bs l h = by (begins_with 35 (after_spaces l.text)) (after-suffix l.text)
  where
    text : (cs after : List Cell) → l.text ≡ cs → (front : List Cell) × (cs ≡ front ++ after) → Begin at (headed (start_of l) after)
    text [] [] e f = tt
    text [] (d ∷ after) e ([], f) = absurd cc
    text [] (d ∷ after) e (x ∷ front, f) = absurd cc
    text (c ∷ cs) after e f =
        let k = h c cs e in
        let s : start_of l ≡ c.at = ap (λ (xs : List Cell). start_of (line xs l.break)) e in
        headed-begins at (start_of l) after (omega (arith, s, k.1))

    by : (b : Bool) → (front : List Cell) × (l.text ≡ front ++ after_spaces l.text) → Begin at (cond b [] (headed (start_of l) (after_spaces l.text)))
    by true f = tt
    by false f = text l.text (after_spaces l.text) refl f

lines-begin : (end at : ℕ) (bs : List ℕ) (ls : List Line) → AllStand end at bs ls → Begin at (rows_of ls)
unfolding rows_of
lines-begin end at bs [] h = tt
lines-begin end at bs (l ∷ ls) h = append-begins at (content_row l) (rows_of ls) (line-begins end at bs l h.0) (lines-begin end at bs ls h.1)

pub rows-begin : (bytes : List ℕ) (at : ℕ) → Begin at (rows_after bytes at)
unfolding rows_after
rows-begin bytes at = lines-begin (length bytes) at (drop at bytes) (lines (length bytes) (source_at bytes at)) (lines-stand (length bytes) at (drop at bytes))

kept : (offset at : ℕ) (rs : List ContentRow) → offset ≤ at → Begin at rs → rows_from offset rs ≡ rs
kept offset at [] le h = refl
kept offset at (r ∷ rs) le h = rw (le-ltb r.begin offset (omega (arith, le, h.0))) refl

pub ends-from : (bytes : List ℕ) (from next offset : ℕ) → offset ≤ next → rows_from offset (rows_after bytes next) ≡ rows_from offset (rows_after bytes from) → rows_after bytes next ≡ rows_from offset (rows_after bytes from)
ends-from bytes from next offset le inv = sym (kept offset next (rows_after bytes next) le (rows-begin bytes next)) ∙ inv

pub stops-from : (bytes : List ℕ) (from next offset : ℕ) → length bytes ≤ next → rows_from offset (rows_after bytes next) ≡ rows_from offset (rows_after bytes from) → rows_after bytes next ≡ rows_from offset (rows_after bytes from)
stops-from bytes from next offset le inv = rows-past bytes next le ∙ ap (rows_from offset) (sym (rows-past bytes next le)) ∙ inv
