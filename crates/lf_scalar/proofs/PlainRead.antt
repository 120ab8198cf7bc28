-- A plain scalar from what its lines give.
use Rattle.std.proofs.Common.{◌≡◌, ℕ, suc, ◌+◌, ◌<◌, ◌≤◌, true, List, [], ◌∷◌, ◌++◌, Ok, length, refl, ap, arith, sym, ◌∙◌, subst}
use Rattle.lf_base.specs.declared.refusal.Refusal.{Refusal}
use Rattle.lf_base.specs.declared.refusal.Refusal.TheVariants as refusal_of
use Rattle.lf_scalar.specs.Cells.{Cell, cell, cells, Value, Fails, end_of, ◌>>=◌}
use Rattle.lf_scalar.specs.Lines.{Line, lines, lines_at, first_text}
use Rattle.lf_scalar.specs.Plain.{value_of, begins_plain}
use Rattle.lf_scalar.specs.reading.Plain.{plain_from, plain_lines_text, begun_with, plain_lines, plain_of}
use Rattle.lf_scalar.proofs.LineSteps.{lines-nil}
use Rattle.lf_scalar.proofs.LineCuts.{first-line-of}
use Rattle.lf_scalar.proofs.PlainLaws.{Answers, plain-tells}
use Rattle.lf_scalar.proofs.PlainCode.{yes, yes-is}
use Rattle.lf_scalar.proofs.PlainOffsets.{plain-climbs}
use Rattle.lf_scalar.proofs.Rising.{LinesRise, cells-rise, lines-rise, climbs-end}
use Rattle.lf_scalar.proofs.Tails.{true-false}
use Rattle.lf_scalar.proofs.Cells.{same-cell, no-cell}

pub some-bytes : (at : ℕ) (rest : List ℕ) → begins_plain (first_text (lines_at at rest)) ≡ true → 0 < length rest
some-bytes at [] h = true-false (begins_plain (first_text (lines_at at []))) h (ap (λ (ls : List Line). begins_plain (first_text ls)) (lines-nil (at + 0)))
some-bytes at (b ∷ rest) h = omega arith

-- ---- where the text ends

text-end : (above at hi : ℕ) (ls : List Line) (part : List Cell) → at ≤ hi → LinesRise at ls hi → plain_lines_text above ls ≡ yes part → end_of at part ≤ hi
text-end above at hi [] part le r e = subst (λ (cs : List Cell). end_of at cs ≤ hi) (yes-is [] part e) le
text-end above at hi (l ∷ ls) part le r e =
    climbs-end at at part hi le (plain-climbs above l ls part (subst (Answers above l ls) e (plain-tells above (suc (length ls)) l ls (omega arith))) at hi r)

pub within-file : (above at : ℕ) (rest : List ℕ) (part : List Cell) → plain_lines_text above (lines_at at rest) ≡ Ok part → end_of at part ≤ at + length rest
within-file above at rest part e =
    text-end above at (at + length rest) (lines_at at rest) part (omega arith) (lines-rise (suc (length (cells at rest))) (at + length rest) at (cells at rest) (omega arith) (cells-rise at rest)) e

-- ---- the value

-- the first cell of a source stands at its offset
pub first-at : (at : ℕ) (rest : List ℕ) (c : Cell) (cs : List Cell) → cells at rest ≡ c ∷ cs → c.at ≡ at
first-at at [] c cs e = absurd (no-cell c cs e)
first-at at (b ∷ rest) c cs e = ap (λ (d : Cell). d.at) (sym (same-cell (cell b at) c (cells (suc at) rest) cs e))

-- the first line of a source that begins a plain scalar
pub record FirstCell (end at : ℕ) (rest : List ℕ) : Type 0 where
  pub first : Line
  pub following : List Line
  pub opening : Cell
  pub behind : List Cell
  pub source : lines end (cells at rest) ≡ first ∷ following
  pub text : first.text ≡ opening ∷ behind
  pub place : opening.at ≡ at

first-cell : (end at : ℕ) (rest : List ℕ) → begins_plain (first_text (lines end (cells at rest))) ≡ true → FirstCell end at rest
first-cell end at rest h = by (lines end (cells at rest)) refl h
  where
    text : (l : Line) (ls : List Line) (cs : List Cell) → lines end (cells at rest) ≡ l ∷ ls → l.text ≡ cs → begins_plain cs ≡ true → FirstCell end at rest
    text l ls [] e f h = true-false (begins_plain []) h refl
    text l ls (c ∷ cs) e f h =
        let k = first-line-of end (cells at rest) l ls e in
        record { first = l; following = ls; opening = c; behind = cs; source = e; text = f; place = first-at at rest c (cs ++ (k.ending ++ k.rest)) (k.source ∙ ap (λ (xs : List Cell). xs ++ (k.ending ++ k.rest)) f) }

    by : (ls : List Line) → lines end (cells at rest) ≡ ls → begins_plain (first_text ls) ≡ true → FirstCell end at rest
    by [] e h = true-false (begins_plain []) h refl
    by (l ∷ ls) e h = text l ls l.text e refl h

module _ (above at : ℕ) (rest : List ℕ) (begun : begins_plain (first_text (lines_at at rest)) ≡ true) where
  is-read : (f : FirstCell (at + length rest) at rest) → plain_of above (at + length rest) (cells at rest) ≡ plain_lines_text above (lines_at at rest) >>= λ text. Ok (value_of f.opening text)
  unfolding plain_of
  is-read f =
      ap (plain_lines above (at + length rest)) f.source ∙ ap (λ (cs : List Cell). begun_with f.first cs (plain_from above f.first f.following)) f.text
      ∙ ap (λ (ls : List Line). plain_lines_text above ls >>= λ text. Ok (value_of f.opening text)) (sym f.source)

  pub value-read : (part : List Cell) (v : Value) → plain_lines_text above (lines_at at rest) ≡ Ok part → ((byte : ℕ) → v ≡ value_of (cell byte at) part) → plain_of above (at + length rest) (cells at rest) ≡ Ok v
  value-read part v e h =
      let f = first-cell (at + length rest) at rest begun in
      let same : value_of f.opening part ≡ value_of (cell f.opening.byte at) part = ap (λ (n : ℕ). value_of (cell f.opening.byte n) part) f.place in
      is-read f ∙ rw e (ap (λ (x : Value). Ok x) (same ∙ sym (h f.opening.byte)))

  pub fault-read : (e : Refusal) → Fails e (plain_lines_text above (lines_at at rest)) → Fails e (plain_of above (at + length rest) (cells at rest))
  fault-read refusal_of.Memory h = tt
  fault-read (refusal_of.At kind span) h = is-read (first-cell (at + length rest) at rest begun) ∙ rw h refl

-- ---- a builder that began empty
module _ (above at : ℕ) (rest : List ℕ) (empty now part : List Cell) (start : empty ≡ []) (e : plain_lines_text above (lines_at at rest) ≡ Ok part) (grown : now ≡ empty ++ part) where
  is-part : part ≡ now
  is-part = sym (grown ∙ ap (λ (cs : List Cell). cs ++ part) start)

  pub builder-within : end_of at now ≤ at + length rest
  builder-within = subst (λ (cs : List Cell). end_of at cs ≤ at + length rest) is-part (within-file above at rest part e)

  pub builder-read : begins_plain (first_text (lines_at at rest)) ≡ true → (v : Value) → ((byte : ℕ) → v ≡ value_of (cell byte at) now) → plain_of above (at + length rest) (cells at rest) ≡ Ok v
  builder-read b v h = value-read above at rest b part v e (λ byte. h byte ∙ ap (value_of (cell byte at)) (sym is-part))
